use Rattle.std.proofs.Common.{◌+◌, ◌^◌, ◌<◌, length, take, get_or, if◌then◌else◌, rules, tests}
use Rattle.std.specs.Int.RustNames.{unsigned_abs}
use Rattle.rules.specs.Words.{◌<?◌}
use Rattle.rules.specs.Answers.{no_bound, no_laxity}
use Rattle.bounds.proofs.Rows.{row_made, all_made}
use Rattle.analysis.specs.Laxity.{of_loads, laxities_from}
use Rattle.analysis.proofs.laxities_from.Goals as goal

pub returns-clause-value : goal.returns-clause-value
unfolding laxities_from
returns-clause-value c =
    row_made _ _ (λ i. if i <? length c.args.loads.now then of_loads (take (i + 1) c.args.loads.now) (get_or c.args.bounds.now i no_bound) else no_laxity) (λ x r q k. search (rules, tests)) c.from_fn.result 16 c.from_fn.ensures.items no_laxity

pub returns-clause-near : goal.returns-clause-near
returns-clause-near c =
    all_made _ _ (λ r. unsigned_abs r.ticks < 2 ^ 32) (λ x r q k. search (rules, tests)) c.from_fn.result 16 c.from_fn.ensures.items no_laxity
