-- WHAT FOLLOWS: laws that make the definitions trustworthy. Each is proved in proofs/, but LaxitiesNear in
-- crates/analysis/proofs.
use Rattle.std.specs.Prelude.{ℕ, ◌*◌, ◌^◌, ◌≤◌, ◌<◌, ◌≡◌, ◌⊎◌, ◌↔◌, List, [], ◌∷◌, ◌++◌, Bool, true, false, not, ◌&&◌, length, take, replicate, ℤ, pos, negsuc, Option, Some, None, Err}
use Rattle.std.specs.Int.Signed.{non_neg}
use Rattle.std.specs.Int.RustNames.{unsigned_abs}
use Rattle.rules.specs.Words.{◌≤?◌, any, among, leading}
use Rattle.rules.specs.Sheet.{Step, run, lock, unlock, Task, Sheet, task_at, Body, is_lock, is_lock_of, held}
use Rattle.rules.specs.Reading.{Reading, read, refused, longest_sheet, misplaced, read_sheet, Numbers}
use Rattle.rules.specs.Fields.{start, no_state}
use Rattle.rules.specs.Record.{record_at, ahead, possible}
use Rattle.rules.specs.Choice.{runner_byte, Walks, top_job, held_by_other, runner}
use Rattle.rules.specs.declared.Runner.{Runner}
use Rattle.rules.specs.declared.Runner.TheVariants.{Rank}
use Rattle.rules.specs.Tick.{after_releases, runner_of, tick}
use Rattle.rules.specs.Bounds.{section_length, steps_from, is_counted, bound, bound_by, rounded_up, demand, slack, laxity}
use Rattle.rules.specs.Answers.{read_tick, read_run, no_bound, no_laxity}
use Rattle.rules.specs.Coded.{numbers, checked, ceilings_in, bounds_in, laxities_in, told_byte, told_in, ticked_in, ran_in}
use Rattle.rules.specs.declared.Refusal.{Refusal}
use Rattle.rules.specs.declared.Section.{Section}
use Rattle.rules.specs.declared.Head.{Head}
use Rattle.rules.specs.declared.Job.{Job}
use Rattle.rules.specs.declared.TaskRecord.{TaskRecord}
use Rattle.rules.specs.declared.State.{State}

-- 12 is given nowhere: no step is misplaced behind those before it, and no section is open at the end.
unfoldable pub placed : (before steps : List Step) → Bool
placed before [] = not (1 ≤? length (held before))
placed before (x ∷ steps) = not (misplaced before x) && placed (before ++ (x ∷ [])) steps

-- 12 is given exactly for steps that form no body.
abbrev pub Nesting : Type 0
Nesting = (steps : List Step) → (placed [] steps ≡ true) ↔ Body [] steps

-- Every element of a row.
abbrev pub All : {A : Type 0} → (A → Type 0) → List A → Type 0
All P [] = Unit {0}
All P (x ∷ xs) = P x × All P xs

-- No two numbers of a row are the same.
abbrev pub Distinct : List ℕ → Type 0
Distinct [] = Unit {0}
Distinct (s ∷ h) = (among s h ≡ false) × Distinct h

-- Document 01's limits on a step and on a task.
abbrev pub StepLimits : (semaphores : ℕ) → Step → Type 0
StepLimits m (run n) = (1 ≤ n) × (n ≤ 1000)
StepLimits m (lock s) = s < m
StepLimits m (unlock s) = s < m

pub record TaskLimits (semaphores : ℕ) (task : Task) : Type 0 where
  pub period_from : 1 ≤ task.period
  pub period_to : task.period ≤ 10000
  pub offset : task.offset < task.period
  pub steps_from : 1 ≤ length task.steps
  pub steps_to : length task.steps ≤ 64
  pub steps : All (StepLimits semaphores) task.steps
  pub body : Body [] task.steps

-- The longest sheet has 3,160 bytes.
abbrev pub LongestSheet : Type 0
LongestSheet = (head : Head) → longest_sheet head ≡ 3160

-- Document 01's limits on a sheet.
pub record Limits (bytes : List ℕ) (sheet : Sheet) : Type 0 where
  pub tasks_from : 1 ≤ length sheet.tasks
  pub tasks_to : length sheet.tasks ≤ 16
  pub semaphores : sheet.semaphores ≤ 16
  pub mode : sheet.mode ≤ 1
  pub each : (i : ℕ) → i < length sheet.tasks → TaskLimits sheet.semaphores (task_at sheet i)
  pub size : length bytes ≤ 3160

abbrev pub AcceptedWithinLimits : Type 0
AcceptedWithinLimits = (bytes : List ℕ) (sheet : Sheet) → read_sheet bytes ≡ read sheet → Limits bytes sheet

-- The laxities of an accepted sheet are within 32 bits.
abbrev pub LaxitiesNear : Type 0
LaxitiesNear = (bytes : List ℕ) (sheet : Sheet) → read_sheet bytes ≡ read sheet → (i : ℕ) → i < length sheet.tasks
    → unsigned_abs (laxity sheet i) < 2 ^ 32

-- A refusal gives its number, 1 to 17, the task's rank (7 to 12, else 0) and the step's index (11 and 12, else 0). A rank is
-- below 16, and a step is at most 64, which is a step count where sections are open.
pub record Given (x : Numbers) : Type 0 where
  pub some : 1 ≤ x.number
  pub number : x.number ≤ 17
  pub rank : (x.number < 7) ⊎ (12 < x.number) → x.rank ≡ 0
  pub rank_to : x.rank < 16
  pub step : (x.number < 11) ⊎ (12 < x.number) → x.step ≡ 0
  pub step_to : x.step ≤ 64

-- So it is of every refusal: of a sheet, of a tick, of a run.
abbrev pub Numbered : {A : Type 0} → Reading A → Type 0
Numbered (read a) = Unit {0}
Numbered (refused x) = Given x

pub record RefusalsGiven : Type 0 where
  pub of_sheet : (bytes : List ℕ) → Numbered (read_sheet bytes)
  pub of_tick : (bytes : List ℕ) (st : State) → Numbered (read_tick bytes st)
  pub of_run : (bytes : List ℕ) (horizon : ℕ) (buffer : List ℕ) → Numbered (read_run bytes horizon buffer)

-- The tie of answers in code to document 01's fields loses nothing: answers that it gives the same fields are the same.
abbrev pub LosesNothing : {A B : Type 0} → (A → B) → Type 0
LosesNothing {A} tie = (one other : A) → tie one ≡ tie other → one ≡ other

pub record TieLosesNothing : Type 0 where
  -- Each refusal has a number, and no two have the same number, rank and step.
  pub some : (x : Refusal) → 1 ≤ (numbers x).number
  pub of_refusals : LosesNothing numbers
  pub of_check : LosesNothing checked
  pub of_ceilings : LosesNothing ceilings_in
  pub of_bounds : LosesNothing bounds_in
  pub of_laxities : LosesNothing laxities_in
  -- Who ran is told by a number of its own, which is the runner byte for every rank below 254.
  pub of_runners : LosesNothing told_byte
  pub runner : (x : Runner) → ((i : ℕ) → x ≡ Rank i → i < 254) → told_byte x ≡ runner_byte x
  pub of_told : LosesNothing told_in
  pub of_tick : LosesNothing ticked_in
  pub of_run : LosesNothing ran_in

-- Beside a refusal all other fields are zero.
pub record RefusedAreZero : Type 0 where
  pub of_check : (x : Refusal) → checked (Err x) ≡ record { refusal = numbers x; tasks = 0; semaphores = 0; mode = 0 }
  pub of_ceilings : (x : Refusal) → ceilings_in (Err x) ≡ record { refusal = numbers x; ceilings = replicate 16 0 }
  pub of_bounds : (x : Refusal) → bounds_in (Err x) ≡ record { refusal = numbers x; bounds = replicate 16 no_bound }
  pub of_laxities : (x : Refusal) → laxities_in (Err x) ≡ record { refusal = numbers x; laxities = replicate 16 no_laxity }
  pub of_told : (x : Refusal) → told_in (Err x) ≡ record { refusal = numbers x; runner = 0 }
  pub of_run : (x : Refusal) → ran_in (Err x) ≡ record { refusal = numbers x; state = no_state }

-- Rule 4 as computed finds what document 01 says: the first candidate that may go, or a candidate that comes round again.
abbrev pub WalksToRunner : Type 0
WalksToRunner = (sheet : Sheet) (records : List TaskRecord) → top_job records < 16 → (x : Runner)
    → (runner sheet records ≡ x) ↔ Walks sheet records [] (top_job records) x

-- 5. The runner takes the locks before its next run: is one of them of s.
unfoldable pub takes : Task → Job → (s : ℕ) → Bool
takes task j s = any (is_lock_of s) (take (leading is_lock (ahead task j)) (ahead task j))

-- What the rest of a tick needs of its runner, whatever the mode: it is a pending job of the sheet, and no other job holds
-- what it takes in this tick.
pub record MayRun (sheet : Sheet) (records : List TaskRecord) (i : ℕ) : Type 0 where
  pub rank : i < length sheet.tasks
  pub pending : (record_at records i).job.pending ≡ true
  pub alone : (s : ℕ) → s < 16 → takes (task_at sheet i) (record_at records i).job s ≡ true → held_by_other sheet records i s ≡ false

-- The choice, rules 2 to 4, gives such a runner after the releases of a possible state.
abbrev pub RunnerMayRun : Type 0
RunnerMayRun = (bytes : List ℕ) (sheet : Sheet) → read_sheet bytes ≡ read sheet → (st : State) → possible sheet st ≡ true
    → (i : ℕ) → runner_of sheet st ≡ Rank i → MayRun sheet (after_releases sheet st) i

-- The start record is possible, and a tick of a possible state below tick 60,000 gives a possible state.
abbrev pub StartPossible : Type 0
StartPossible = (bytes : List ℕ) (sheet : Sheet) → read_sheet bytes ≡ read sheet → possible sheet start ≡ true

abbrev pub TickPossible : Type 0
TickPossible = (bytes : List ℕ) (sheet : Sheet) → read_sheet bytes ≡ read sheet
    → (st : State) → possible sheet st ≡ true → st.t < 60000 → possible sheet (tick sheet st) ≡ true

-- W6. The bound of task i is given by the section at j and k: it is counted, its length is the bound, no counted section is
-- longer, and none as long stands at a smaller rank, or at the same rank at a smaller step.
pub record GivenBy (sheet : Sheet) (i j k : ℕ) : Type 0 where
  pub counted : is_counted sheet i j k ≡ true
  pub length : section_length (steps_from sheet j k) ≡ bound sheet i
  pub longest : (r s : ℕ) → is_counted sheet i r s ≡ true → section_length (steps_from sheet r s) ≤ bound sheet i
  pub rank : (r s : ℕ) → is_counted sheet i r s ≡ true → section_length (steps_from sheet r s) ≡ bound sheet i → j ≤ r
  pub step : (s : ℕ) → is_counted sheet i j s ≡ true → section_length (steps_from sheet j s) ≡ bound sheet i → k ≤ s

-- It is given by nothing: no section is counted, and the bound is 0.
pub record GivenByNothing (sheet : Sheet) (i : ℕ) : Type 0 where
  pub none : (j k : ℕ) → is_counted sheet i j k ≡ false
  pub zero : bound sheet i ≡ 0

abbrev pub Gives : Sheet → (i : ℕ) → Option Section → Type 0
Gives sheet i (Some x) = GivenBy sheet i x.rank x.step
Gives sheet i None = GivenByNothing sheet i

-- The name says what gives the bound, and no other name does.
abbrev pub NamesWhatGives : Type 0
NamesWhatGives = (bytes : List ℕ) (sheet : Sheet) → read_sheet bytes ≡ read sheet → (i : ℕ) → (x : Option Section)
    → (bound_by sheet i ≡ x) ↔ Gives sheet i x

-- A point of task i: l times the period of task k, k at most i, l from 1, at most task i's period.
pub record Point (sheet : Sheet) (i t : ℕ) : Type 0 where
  pub k : ℕ
  pub l : ℕ
  pub rank : k ≤ i
  pub from : 1 ≤ l
  pub time : t ≡ l * (task_at sheet k).period
  pub within : t ≤ (task_at sheet i).period

-- The order of slacks, which may be negative.
infix 50 ◌≼◌
abbrev pub ◌≼◌ : ℤ → ℤ → Type 0
pos a ≼ pos b = a ≤ b
pos a ≼ negsuc b = ⊥
negsuc a ≼ pos b = Unit {0}
negsuc a ≼ negsuc b = b ≤ a

-- The laxity of task i is the largest slack over its points: it is the slack at one of them, and at no other is it larger.
pub record LargestSlack (sheet : Sheet) (i : ℕ) (z : ℤ) : Type 0 where
  pub time : ℕ
  pub point : Point sheet i time
  pub there : z ≡ slack sheet i time
  pub largest : (t : ℕ) → Point sheet i t → slack sheet i t ≼ z

abbrev pub LaxityLargest : Type 0
LaxityLargest = (bytes : List ℕ) (sheet : Sheet) → read_sheet bytes ≡ read sheet → (i : ℕ) → i < length sheet.tasks
    → LargestSlack sheet i (laxity sheet i)

-- Laxity is negative exactly if no point carries its demand.
abbrev pub Negative : ℤ → Type 0
Negative z = non_neg z ≡ false

abbrev pub NegativeExactly : Type 0
NegativeExactly = (bytes : List ℕ) (sheet : Sheet) → read_sheet bytes ≡ read sheet → (i : ℕ) → i < length sheet.tasks
    → Negative (laxity sheet i) ↔ ((t : ℕ) → Point sheet i t → t < demand sheet i t)

-- n periods reach t, and no fewer do.
pub record LeastThatReaches (t period n : ℕ) : Type 0 where
  pub reaches : t ≤ n * period
  pub least : (q : ℕ) → t ≤ q * period → n ≤ q

-- t over a period of at least 1, rounded up, is the least number of periods that reaches t, whatever way it is computed.
abbrev pub RoundedUp : Type 0
RoundedUp = (t period : ℕ) → 1 ≤ period → LeastThatReaches t period (rounded_up t period)
