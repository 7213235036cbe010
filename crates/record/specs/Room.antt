-- Room to count on.
use Rattle.std.specs.Prelude.{ℕ, ◌<◌, List}
use Rattle.rules.specs.Fields.{count}
use Rattle.rules.specs.Record.{record_at}
use Rattle.rules.specs.declared.Count.{Count}
use Rattle.rules.specs.declared.Counts.{Counts}
use Rattle.rules.specs.declared.TaskRecord.{TaskRecord}

-- Each count is below a number; below 65,535 it can rise by one in 16 bits.
abbrev pub CountsBelow : (m : ℕ) → Counts → Type 0
CountsBelow m c = (k : Count) → count k c < m

-- And so are the blocked ticks of each job.
abbrev pub AllBelow : (m : ℕ) → List TaskRecord → Type 0
AllBelow m records = (i : ℕ) → i < 16 → CountsBelow m (record_at records i).counts × ((record_at records i).job.present < m)
