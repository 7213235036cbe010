-- A release of a pending job is a miss.
use Rattle.rules.specs.declared.Count.TheVariants.{Misses}
use Rattle.effect.proofs.released.Goals as goal

pub up-counts-requires-then-r : goal.up-counts-requires-then-r
up-counts-requires-then-r c =
    rw c.up-counts.ensures (c.requires.counts_below Misses)
