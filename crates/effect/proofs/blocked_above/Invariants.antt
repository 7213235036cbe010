-- Record by record a pending job has been blocked once, and another record stayed.
use Rattle.std.proofs.Common.{◌≡◌}
use Rattle.effect.specs.Effect.{each_blocked}
use Rattle.effect.proofs.blocked_above.Given as goal

abbrev pub invariant-loop-r : goal.invariant-loop-r
invariant-loop-r l =
    l.r-items ≡ each_blocked l.r-index l.initial.r-items
