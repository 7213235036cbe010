-- DEMAND 3. Non-interference: what the first k tasks do does not depend on the tasks below them.
use Rattle.std.specs.Prelude.{ℕ, ◌+◌, ◌≤◌, ◌<◌, ◌≡◌, List, true, false, length, take}
use Rattle.rules.specs.Sheet.{Sheet, task_at}
use Rattle.rules.specs.Reading.{read, read_sheet}
use Rattle.rules.specs.Fields.{start}
use Rattle.rules.specs.Record.{record_at, possible}
use Rattle.rules.specs.Choice.{locks}
use Rattle.rules.specs.Run.{after}
use Rattle.rules.specs.Bounds.{bound, bound_by, laxity}
use Rattle.rules.specs.Answers.{ran, ticked, told, record_after}
use Rattle.rules.specs.declared.State.{State}
use Rattle.theorems.specs.Refusals.{NotRefused}

-- The bytes are accepted, and read as this sheet.
abbrev pub Accepted : (bytes : List ℕ) → Sheet → Type 0
Accepted bytes sheet = read_sheet bytes ≡ read sheet

-- Two accepted sheets whose first k tasks (k >= 1) are identical. The tasks below them may be rewritten, added or removed,
-- and the semaphore counts may differ.
pub record SameFirst (k : ℕ) (bytes bytes' : List ℕ) (sheet sheet' : Sheet) : Type 0 where
  pub accepted : Accepted bytes sheet
  pub accepted' : Accepted bytes' sheet'
  pub at_least_one : 1 ≤ k
  pub present : k ≤ length sheet.tasks
  pub present' : k ≤ length sheet'.tasks
  pub identical : take k sheet.tasks ≡ take k sheet'.tasks

abbrev pub SameMode : Sheet → Sheet → Type 0
SameMode sheet sheet' = sheet.mode ≡ sheet'.mode

-- No lower task locks a semaphore that one of those k locks. A lower task has rank k or more.
abbrev pub NoLowerLocks : (k : ℕ) → Sheet → Type 0
NoLowerLocks k sheet = (upper lower s : ℕ) → upper < k → k ≤ lower
    → locks (task_at sheet upper) s ≡ true → locks (task_at sheet lower) s ≡ false

-- Two accepted sheets in the same mode whose first k tasks (k >= 1) are identical;
-- in neither does a lower task lock a semaphore that one of those k locks.
pub record Premises (k : ℕ) (bytes bytes' : List ℕ) (sheet sheet' : Sheet) : Type 0 where
  pub first : SameFirst k bytes bytes' sheet sheet'
  pub mode : SameMode sheet sheet'
  pub apart : NoLowerLocks k sheet
  pub apart' : NoLowerLocks k sheet'

-- Each of the k tasks has the same record: its job and its counts.
abbrev pub SameRecords : (k : ℕ) → State → State → Type 0
SameRecords k st st' = (i : ℕ) → i < k → record_at st.tasks i ≡ record_at st'.tasks i

-- A permitted length.
abbrev pub Permitted : ℕ → Type 0
Permitted h = h ≤ 60000

-- THE DEMAND. Then in runs from the start each of the k tasks has the same record after every tick,
-- up to any permitted length.
abbrev pub NonInterference : Type 0
NonInterference = (k : ℕ) (bytes bytes' : List ℕ) (sheet sheet' : Sheet) → Premises k bytes bytes' sheet sheet'
    → (h : ℕ) → Permitted h → SameRecords k (after h sheet start) (after h sheet' start)

-- THE FURTHER LAW. Two states agree when they have the same tick and each of the k tasks has the same record.
pub record Agree (k : ℕ) (st st' : State) : Type 0 where
  pub time : st.t ≡ st'.t
  pub records : SameRecords k st st'

-- States that agree still agree any number of ticks later.
abbrev pub FromStates : Type 0
FromStates = (k : ℕ) (bytes bytes' : List ℕ) (sheet sheet' : Sheet) → Premises k bytes bytes' sheet sheet'
    → (st st' : State) → Agree k st st' → (h : ℕ) → Agree k (after h sheet st) (after h sheet' st')

-- So it is from any two possible states, up to tick 60,000. Runs from the start are the instance where both are the start.
abbrev pub FromPossibleStates : Type 0
FromPossibleStates = (k : ℕ) (bytes bytes' : List ℕ) (sheet sheet' : Sheet) → Premises k bytes bytes' sheet sheet'
    → (st st' : State) → possible sheet st ≡ true → possible sheet' st' ≡ true → Agree k st st'
    → (h : ℕ) → Permitted (st.t + h) → Agree k (after h sheet st) (after h sheet' st')

-- THE SAME FOR WHAT THE CALLS ANSWER. Two calls of `run` with the same horizon, neither refused, whatever their buffers.
abbrev pub OfRuns : Type 0
OfRuns = (k : ℕ) (bytes bytes' : List ℕ) (sheet sheet' : Sheet) → Premises k bytes bytes' sheet sheet'
    → (horizon : ℕ) (buffer buffer' : List ℕ)
    → NotRefused (ran bytes horizon buffer).refusal → NotRefused (ran bytes' horizon buffer').refusal
    → SameRecords k (ran bytes horizon buffer).state (ran bytes' horizon buffer').state

-- Two calls of `tick` from states that agree, neither refused.
abbrev pub OfTicks : Type 0
OfTicks = (k : ℕ) (bytes bytes' : List ℕ) (sheet sheet' : Sheet) → Premises k bytes bytes' sheet sheet'
    → (st st' : State) → Agree k st st'
    → NotRefused (ticked bytes st).told.refusal → NotRefused (ticked bytes' st').told.refusal
    → Agree k (ticked bytes st).state (ticked bytes' st').state

-- Two calls of `tick_in_place` likewise, of the records in the callers' memory.
abbrev pub OfTicksInPlace : Type 0
OfTicksInPlace = (k : ℕ) (bytes bytes' : List ℕ) (sheet sheet' : Sheet) → Premises k bytes bytes' sheet sheet'
    → (st st' : State) → Agree k st st'
    → NotRefused (told bytes st).refusal → NotRefused (told bytes' st').refusal
    → Agree k (record_after bytes st) (record_after bytes' st')

-- AND FOR THE ANALYSIS. The bound of each of the k tasks, what gives it, and the laxity are the same.
abbrev pub OfAnalysis : Type 0
OfAnalysis = (k : ℕ) (bytes bytes' : List ℕ) (sheet sheet' : Sheet) → Premises k bytes bytes' sheet sheet'
    → (i : ℕ) → i < k → (bound sheet i ≡ bound sheet' i) × (bound_by sheet i ≡ bound_by sheet' i) × (laxity sheet i ≡ laxity sheet' i)
