-- The runner's record, with its ticks run.
use Rattle.rules.specs.declared.Count.TheVariants.{TicksRun}
use Rattle.effect.proofs.Laws.{advanced_ran, spent_runner}
use Rattle.effect.proofs.ran.Goals as goal

pub up-counts-requires : goal.up-counts-requires
up-counts-requires c =
    rw (c.advanced-a.ensures, advanced_ran) (c.requires.counts_below TicksRun)

pub returns : goal.returns
returns c = λ i.
    search spent_runner
