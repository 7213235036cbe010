use Rattle.std.proofs.Common.{◌≡◌, ◌≤◌, ◌+◌, ◌*◌, sum_by, take}
use Rattle.rules.specs.Bounds.{rounded_up}
use Rattle.analysis.proofs.Demand.demand_at.Given as goal

abbrev pub invariant-loop-x : goal.invariant-loop-x
invariant-loop-x l =
    record {
      value : l.sum ≡ l.self.bound + sum_by (λ x. x.cost * rounded_up l.t x.period) (take l.x-index l.self.loads.now);
      small : l.sum ≤ 65536 + l.x-index * 8_589_934_592;
    }
