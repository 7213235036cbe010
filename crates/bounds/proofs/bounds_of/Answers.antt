use Rattle.std.proofs.Common.{if◌then◌else◌, length, rules, tests}
use Rattle.rules.specs.Words.{◌<?◌}
use Rattle.rules.specs.Answers.{by_rank, bound_of, no_bound}
use Rattle.bounds.proofs.Rows.{row_made}
use Rattle.bounds.proofs.bounds_of.Goals as goal

pub returns : goal.returns
unfolding by_rank
returns c = row_made _ _ (λ i. if i <? length c.args.plan.now.tasks then bound_of c.args.plan.now i else no_bound) (λ x r q k. search (rules, tests)) c.from_fn.result 16 c.from_fn.ensures.items no_bound
