-- TICKS BLOCKED. What the total of a task and the most that any of its jobs had tell of each other.
use Rattle.std.specs.Prelude.{ℕ, ◌*◌, ◌≤◌, ◌<◌, ◌≡◌}
use Rattle.rules.specs.Sheet.{Sheet}
use Rattle.rules.specs.Fields.{start}
use Rattle.rules.specs.Record.{record_at}
use Rattle.rules.specs.Run.{after}
use Rattle.rules.specs.Cases.{A}
use Rattle.rules.specs.declared.Counts.{Counts}
use Rattle.theorems.specs.Demand3.{Accepted}

-- The most is at most the total, and the total is at most the most times the releases.
pub record MostAndTotal (c : Counts) : Type 0 where
  pub most : c.most ≤ c.blocked
  pub total : c.blocked ≤ c.most * c.releases

-- THE LAW. So it is in runs from the start, of every task after every tick.
abbrev pub MostAndTotals : Type 0
MostAndTotals = (ticks : ℕ) (sheet : Sheet) (i : ℕ) → i < 16 → MostAndTotal (record_at (after ticks sheet start).tasks i).counts

-- Neither can be said with one less: A's rank 0 has one release, and 2 for the total and for the most.
pub record BothInA (sheet : Sheet) : Type 0 where
  pub accepted : Accepted A.sheet sheet
  pub releases : (record_at (after 10 sheet start).tasks 0).counts.releases ≡ 1
  pub total : (record_at (after 10 sheet start).tasks 0).counts.blocked ≡ 2
  pub most : (record_at (after 10 sheet start).tasks 0).counts.most ≡ 2

pub record BlockedTells : Type 0 where
  pub runs : MostAndTotals
  pub tight : (sheet : Sheet) × BothInA sheet
