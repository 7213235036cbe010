-- Task by task, a release has changed the record.
use Rattle.table.specs.Table.{sheet_of}
use Rattle.effect.proofs.Laws.{Releasing}
use Rattle.effect.proofs.after_releases.Given as goal

abbrev pub invariant-loop-i : goal.invariant-loop-i
invariant-loop-i l =
    Releasing (sheet_of l.table) l.initial.st l.st l.i
