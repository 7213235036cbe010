-- These bytes are the sheet of the one task.
use Rattle.std.proofs.Common.{ℕ, List, [], ◌∷◌, ◌≡◌, refl}
use Rattle.rules.specs.Words.{within, any}
use Rattle.rules.specs.Sheet.{run, is_lock, held, held_on_top}
use Rattle.rules.specs.Reading.{read, byte, word, marked, read_head, head_length, read_task_head, known, step_of, misplaced, misplaced_in, after_lock, read_step, read_steps, read_task, read_tasks, read_sheet, ◌>>=◌, refuse◌of◌at◌when◌}
use Rattle.table.proofs.tests.has_no_bytes.Goals as goal

abbrev bytes : List ℕ
bytes = 0x4C ∷ 0x54 ∷ 0x53 ∷ 0 ∷ 1 ∷ 1 ∷ 16 ∷ 1 ∷ 0 ∷ 4 ∷ 0 ∷ 1 ∷ 1 ∷ 1 ∷ 0 ∷ 2 ∷ []

sheet_read : read_sheet bytes ≡ read (record { mode = 1; semaphores = 16; tasks = record { period = 4; offset = 1; steps = run 2 ∷ [] } ∷ [] })
unfolding read_sheet read_head marked byte word within read_tasks read_task read_task_head head_length read_steps read_step known step_of misplaced misplaced_in after_lock any held held_on_top is_lock ◌>>=◌ refuse◌of◌at◌when◌
sheet_read = refl

pub new-table-requires : goal.new-table-requires
new-table-requires g c = (bytes, rw (c.push-2.ensures.items, c.new-tasks.ensures, c.task.ensures, c.push.ensures, c.new-own.ensures) sheet_read)
