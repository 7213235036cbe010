-- The sheet in a table, and the sheets that may stand in one.
use Rattle.std.specs.Prelude.{ℕ, ◌≡◌, List, [], ◌∷◌, ◌++◌, map}
use Rattle.rules.specs.Sheet.{Step, Task, Sheet}
use Rattle.rules.specs.Reading.{read, read_sheet}
use Rattle.table.specs.Tasks.{task_of, sheet_with}
use Rattle.table.specs.declared.Table.{Table}

-- A task with one step more.
abbrev pub with_step : Task → Step → Task
with_step task x = record { period = task.period; offset = task.offset; steps = task.steps ++ (x ∷ []) }

-- Some bytes are accepted and read as this sheet.
abbrev pub Accepted : Sheet → Type 0
Accepted sheet = (bytes : List ℕ) × (read_sheet bytes ≡ read sheet)

-- Document 01's sheet.
unfoldable pub sheet_of : Table → Sheet
sheet_of table = sheet_with table.head (map task_of table.tasks)
