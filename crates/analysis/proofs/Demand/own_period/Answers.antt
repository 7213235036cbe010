use Rattle.std.proofs.Common.{◌∙◌, arith}
use Rattle.analysis.specs.Laxity.{own_period}
use Rattle.analysis.proofs.Ranks.{period_at}
use Rattle.analysis.proofs.Demand.own_period.Goals as goal

pub returns-clause-value : goal.returns-clause-value
unfolding own_period
returns-clause-value c = c.from.ensures ∙ period_at c.args.self.now.loads.now _ c.index-self-self.result (omega arith)
