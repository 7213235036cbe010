-- The tasks of a table, and the sheet that a head and tasks make.
use Rattle.std.specs.Prelude.{List, map, take}
use Rattle.rules.specs.Sheet.{Task as Rules·Task, Sheet}
use Rattle.rules.specs.declared.Head.{Head}
use Rattle.table.specs.Steps.{said}
use Rattle.table.specs.declared.task.Task.{Task}

-- Document 01's task.
unfoldable pub task_of : Task → Rules·Task
task_of task = record { period = task.period; offset = task.offset; steps = map said task.steps.now }

-- The sheet of a head and as many of these tasks as it says.
unfoldable pub sheet_with : Head → List Rules·Task → Sheet
sheet_with head tasks = record { mode = head.mode; semaphores = head.semaphores; tasks = take head.n tasks }
