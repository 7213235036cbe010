-- A job may complete once more.
use Rattle.rules.specs.declared.Count.TheVariants.{Completions}
use Rattle.effect.proofs.advanced.Goals as goal

pub completed-counts-requires : goal.completed-counts-requires
completed-counts-requires c =
    c.requires.counts_below Completions
