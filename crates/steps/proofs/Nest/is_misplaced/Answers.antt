-- A run is never misplaced; each other return is one of 12's tests on a lock or on an unlock.
use Rattle.steps.proofs.Nesting.{placed_run, fifth_level, already_held, not_newest, after_a_lock}
use Rattle.steps.proofs.Nest.is_misplaced.Goals as goal

pub returns-in-Run : goal.returns-in-Run
returns-in-Run c =
    search placed_run

pub returns-then-is_full : goal.returns-then-is_full
returns-then-is_full c =
    search fifth_level

pub returns-else-is_full : goal.returns-else-is_full
returns-else-is_full c =
    search already_held

pub returns-then-ne : goal.returns-then-ne
returns-then-ne c =
    search not_newest

pub returns-else-ne : goal.returns-else-ne
returns-else-ne c =
    search after_a_lock
