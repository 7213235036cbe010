-- Rank by rank, the smallest so far that has a lock of each semaphore; after the last these are the ceilings. Within a rank, the
-- locks passed, then those ahead, give the entries of the whole task.
use Rattle.std.proofs.Common.{◌≡◌, ◌+◌, [], drop, map}
use Rattle.rules.specs.Words.{row}
use Rattle.table.specs.Steps.{said}
use Rattle.table.specs.Table.{sheet_of}
use Rattle.holders.specs.Holders.{first_with, after_steps, only_locks}
use Rattle.holders.proofs.Holders.{has_lock}
use Rattle.holders.proofs.ceilings_of.Given as goal

abbrev pub invariant-loop-x : goal.invariant-loop-x
invariant-loop-x l = after_steps l.i (only_locks (map said (drop l.x-index l.x-items))) l.cs ≡ row 16 (first_with (has_lock (sheet_of l.table)) (l.i + 1) [])

abbrev pub invariant-loop-i : goal.invariant-loop-i
invariant-loop-i l = l.cs ≡ row 16 (first_with (has_lock (sheet_of l.table)) l.i [])
