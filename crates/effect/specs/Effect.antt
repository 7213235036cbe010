-- What the contracts say beside the rules: ticks without a release, blocked records, a test of a step in code.
use Rattle.std.specs.Prelude.{ℕ, ◌≤◌, ◌<◌, ◌≡◌, List, ◌++◌, map, take, drop, Bool, false, length, if◌then◌else◌}
use Rattle.rules.specs.Sheet.{Step as Rules·Step, Task, Sheet, task_at}
use Rattle.rules.specs.Tick.{releases_at, was_blocked}
use Rattle.rules.specs.declared.TaskRecord.{TaskRecord}
use Rattle.table.specs.Steps.{meant}
use Rattle.table.specs.declared.Step.{Step}

-- From one tick up to another a task has no release; none of a sheet's has.
abbrev pub Rests : (from to : ℕ) → Task → Type 0
Rests from to task = (k : ℕ) → from ≤ k → k < to → releases_at k task ≡ false

abbrev pub Quiet : (from to : ℕ) → Sheet → Type 0
Quiet from to sheet = (i : ℕ) → i < length sheet.tasks → Rests from to (task_at sheet i)

-- A pending job is blocked for a tick; each of the first n is, and the others stay.
unfoldable pub blocked_once : TaskRecord → TaskRecord
blocked_once r = if r.job.pending then was_blocked r else r

unfoldable pub each_blocked : (n : ℕ) → List TaskRecord → List TaskRecord
each_blocked n records = map blocked_once (take n records) ++ drop n records

-- The answers of a test in code are those of a test of document 01's step.
abbrev pub Tells : (answers : Step → Bool → Type 0) → (Rules·Step → Bool) → Type 0
Tells answers test = (x : Step) (b : Bool) → answers x b → b ≡ test (meant x)
