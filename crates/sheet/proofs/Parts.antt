-- A task and a sheet in parts, each with the cursor behind it.
use Rattle.std.proofs.Common.{ℕ, ◌*◌, ◌≡◌, refl, sym, ◌∙◌, List, drop-drop, length}
use Rattle.rules.specs.Words.{◌≤?◌}
use Rattle.rules.specs.Reading.{read, ◌>>=◌, refuse◌of◌at◌when◌, read_head, read_task_head, head_length, read_task, read_tasks, read_sheet}
use Rattle.rules.specs.declared.Head.{Head}
use Rattle.sheet.specs.Reader.{with_rest, steps_there}
use Rattle.sheet.proofs.Turns.{then_then, then_same, in_turn}

-- a task: its head, then its steps
pub task_in_parts : (head : Head) (i : ℕ) (bytes : List ℕ) → read_task head i bytes ≡ (with_rest (head_length head) bytes (read_task_head head i bytes) >>= λ x. steps_there head.semaphores i x.0 x.1)
unfolding read_task with_rest steps_there ◌>>=◌
task_in_parts head i bytes =
    then_same (read_task_head head i bytes) _ _ (λ own. rw (← drop-drop (3 * own.count) (head_length head) bytes) refl)
    ∙ sym (then_then (read_task_head head i bytes) _ _)

-- the sheet: its head, its tasks, then 13
pub sheet_in_parts : (bytes : List ℕ) → read_sheet bytes ≡ (with_rest 8 bytes (read_head bytes) >>= λ h. read_tasks h.0 0 h.0.n h.1 >>= λ x.
    refuse◌of◌at◌when◌ 13 0 0 (1 ≤? length x.1) >>= λ u. read (record { mode = h.0.mode; semaphores = h.0.semaphores; tasks = x.0 }))
unfolding read_sheet with_rest ◌>>=◌
sheet_in_parts bytes = sym (then_then (read_head bytes) _ _)

pub ruleset parts_in_turn = (in_turn, task_in_parts, sheet_in_parts)
