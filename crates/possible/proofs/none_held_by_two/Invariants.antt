-- The first rank that is not the holder of all that it holds ends the loop; where there is none, nothing is held by two.
use Rattle.std.proofs.Common.{ℕ, ◌≡◌, ◌<◌, true}
use Rattle.rules.specs.Sheet.{task_at}
use Rattle.rules.specs.Record.{record_at}
use Rattle.table.specs.Table.{sheet_of}
use Rattle.possible.specs.Holding.{holds_alone}
use Rattle.possible.proofs.none_held_by_two.Given as goal

abbrev pub invariant-loop-i : goal.invariant-loop-i
invariant-loop-i l = (k : ℕ) → k < l.i → holds_alone k (task_at (sheet_of l.table) k) (record_at l.st.tasks k).job l.hs ≡ true
