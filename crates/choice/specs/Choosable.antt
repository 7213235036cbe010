-- What the choice needs of sixteen records, and a possible state has: no job past the last task, no semaphore held by two.
use Rattle.std.specs.Prelude.{ℕ, ◌≤◌, ◌<◌, ◌≡◌, List, true, false, length}
use Rattle.rules.specs.Sheet.{Sheet}
use Rattle.rules.specs.Record.{record_at, none_held_by_two}
use Rattle.rules.specs.declared.TaskRecord.{TaskRecord}

pub record Choosable (sheet : Sheet) (records : List TaskRecord) : Type 0 where
  pub few : (i : ℕ) → i < 16 → length sheet.tasks ≤ i → (record_at records i).job.pending ≡ false
  pub single : none_held_by_two sheet records ≡ true
