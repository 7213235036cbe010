-- Rule 2's arrays of sixteen, one entry per semaphore: the rank that holds it, or its ceiling.
use Rattle.std.specs.Prelude.{ℕ, ◌-◌, List, [], ◌∷◌, Bool, length, get_or, take, drop, set, if◌then◌else◌}
use Rattle.rules.specs.Words.{◌=?◌, smallest, row, among}
use Rattle.rules.specs.Sheet.{Step, run, lock, unlock, Task, Sheet}
use Rattle.rules.specs.Record.{behind, holds}
use Rattle.rules.specs.declared.Job.{Job}
use Rattle.rules.specs.declared.TaskRecord.{TaskRecord}

-- The rank that holds semaphore s, 255 if none does.
unfoldable pub holder : Sheet → List TaskRecord → (s : ℕ) → ℕ
holder sheet records s = smallest 16 255 λ j. holds sheet records j s

unfoldable pub holders : Sheet → List TaskRecord → List ℕ
holders sheet records = row 16 (holder sheet records)

-- Where rank j has semaphore s: the smallest rank that has it, of those below i and of rank i with what is its own; else 255.
unfoldable pub first_with : (has : ℕ → ℕ → Bool) (i : ℕ) (own : List ℕ) (s : ℕ) → ℕ
first_with has i own s = smallest i (if among s own then i else 255) λ j. has j s

-- A step of rank i: a lock takes what nobody has, an unlock gives back what is its own.
-- So its finished sections leave what other ranks have as it is.
unfoldable pub entry_after : (i : ℕ) → Step → (h : ℕ) → ℕ
entry_after i (run n) h = h
entry_after i (lock s) h = if h =? 255 then i else h
entry_after i (unlock s) h = if h =? i then 255 else h

unfoldable pub after_step : (i : ℕ) → Step → List ℕ → List ℕ
after_step i (run n) hs = hs
after_step i (lock s) hs = set hs s (entry_after i (lock s) (get_or hs s 0))
after_step i (unlock s) hs = set hs s (entry_after i (unlock s) (get_or hs s 0))

unfoldable pub after_steps : (i : ℕ) → List Step → List ℕ → List ℕ
after_steps i [] hs = hs
after_steps i (x ∷ steps) hs = after_steps i steps (after_step i x hs)

-- A job of rank i: it holds something only where it is pending.
unfoldable pub after_job : (i : ℕ) → Task → Job → List ℕ → List ℕ
after_job i task j hs = if j.pending then after_steps i (behind task j) hs else hs

-- A job of rank i that runs for a tick comes to a position, or to the end of its steps.
unfoldable pub reached : Task → Job → ℕ
reached task j = if j.pending then j.position else length task.steps

unfoldable pub after_tick : (i : ℕ) → Task → (before after : Job) → List ℕ → List ℕ
after_tick i task before after hs = after_steps i (take (reached task after - before.position) (drop before.position task.steps)) hs

-- The ceilings are found as the holders are, by the locks alone: nothing is given back.
unfoldable pub only_locks : List Step → List Step
only_locks [] = []
only_locks (run n ∷ steps) = only_locks steps
only_locks (lock s ∷ steps) = lock s ∷ only_locks steps
only_locks (unlock s ∷ steps) = only_locks steps
