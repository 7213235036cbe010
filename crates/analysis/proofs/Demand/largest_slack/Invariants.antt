use Rattle.std.proofs.Common.{◌≡◌}
use Rattle.rules.specs.Bounds.{largest_of}
use Rattle.analysis.specs.Laxity.{counted_from}
use Rattle.analysis.proofs.Demand.largest_slack.Given as goal

abbrev pub invariant-loop-k : goal.invariant-loop-k
invariant-loop-k l = l.best ≡ largest_of l.k l.first (counted_from l.self.loads.now l.self.bound)
