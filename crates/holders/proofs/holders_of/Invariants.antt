-- Rank by rank, the smallest so far that holds each semaphore; after the last these are the holders.
use Rattle.std.proofs.Common.{◌≡◌, []}
use Rattle.rules.specs.Words.{row}
use Rattle.rules.specs.Record.{holds}
use Rattle.table.specs.Table.{sheet_of}
use Rattle.holders.specs.Holders.{first_with}
use Rattle.holders.proofs.holders_of.Given as goal

abbrev pub invariant-loop-i : goal.invariant-loop-i
invariant-loop-i l = l.hs ≡ row 16 (first_with (holds (sheet_of l.table) l.st.tasks) l.i [])
