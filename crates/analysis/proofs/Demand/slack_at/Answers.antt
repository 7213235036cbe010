use Rattle.std.proofs.Common.{arith}
use Rattle.std.proofs.lemmas.Int.{ints}
use Rattle.analysis.specs.Laxity.{slack_from}
use Rattle.analysis.proofs.Demand.slack_at.Goals as goal

pub returns : goal.returns
unfolding slack_from
returns c = omega (arith, ints, c.demand_at.ensures.small, c.demand_at.ensures.value)
