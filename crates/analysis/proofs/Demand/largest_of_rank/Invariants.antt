use Rattle.std.proofs.Common.{◌≡◌, ◌≤◌, ◌+◌, ◌-◌}
use Rattle.rules.specs.Bounds.{largest_of}
use Rattle.analysis.specs.Laxity.{point_from}
use Rattle.analysis.proofs.Demand.largest_of_rank.Given as goal

abbrev pub invariant-loop-l : goal.invariant-loop-l
invariant-loop-l l = record { value : l.best ≡ largest_of (l.l - 1) l.first (point_from l.self.loads.now l.self.bound l.k); within : l.l ≤ l.points + 1 }
