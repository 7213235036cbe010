-- The bytes of a sheet, by document 01. A sheet that is accepted is read from them.
use Rattle.std.specs.Prelude.{ℕ, ◌/◌, ◌%◌, List, [], ◌∷◌, ◌++◌, length, flat_map}
use Rattle.rules.specs.Sheet.{Step, run, lock, unlock, Task, Sheet}

-- Big-endian.
unfoldable pub big : ℕ → List ℕ
big n = n / 256 ∷ n % 256 ∷ []

-- A step: its kind and its value.
unfoldable pub step_bytes : Step → List ℕ
step_bytes (run n) = 1 ∷ big n
step_bytes (lock s) = 2 ∷ big s
step_bytes (unlock s) = 3 ∷ big s

-- A task: period, offset, step count and the steps.
unfoldable pub task_bytes : Task → List ℕ
task_bytes task = big task.period ++ big task.offset ++ (length task.steps ∷ flat_map step_bytes task.steps)

-- The sheet: mark, version 1, task count, semaphore count, mode and the tasks.
unfoldable pub sheet_bytes : Sheet → List ℕ
sheet_bytes sheet = 0x4C ∷ 0x54 ∷ 0x53 ∷ 0 ∷ 1 ∷ length sheet.tasks ∷ sheet.semaphores ∷ sheet.mode ∷ flat_map task_bytes sheet.tasks
