use Rattle.std.proofs.Common.{◌≡◌, ◌<◌, ℕ, false}
use Rattle.rules.specs.Words.{some}
use Rattle.rules.specs.Bounds.{gives}
use Rattle.bounds.proofs.bound_by.Given as goal

abbrev pub invariant-loop-rank : goal.invariant-loop-rank
invariant-loop-rank l = (x : ℕ) → x < l.rank → some 64 (gives l.plan l.i l.ticks x) ≡ false
