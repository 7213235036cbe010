-- THE FIVE SHAMS. Refusing always, one fixed answer and an untouched record all satisfy demand 3; a first tick that does
-- the whole run and totals made up at will keep the looks. No function of such a kind meets its call's contract.
use Rattle.std.specs.Prelude.{ℕ, suc, ◌+◌, ◌<◌, ◌≡◌, List, Bool, not, ◌&&◌, if◌then◌else◌}
use Rattle.rules.specs.Words.{◌<?◌, total}
use Rattle.rules.specs.Sheet.{Sheet}
use Rattle.rules.specs.Fields.{same_job, start}
use Rattle.rules.specs.Record.{record_at}
use Rattle.rules.specs.Choice.{runner_byte}
use Rattle.rules.specs.Tick.{after_releases, job_of, runner_of}
use Rattle.rules.specs.Run.{after}
use Rattle.rules.specs.Answers.{ticked, ran}
use Rattle.rules.specs.Cases.{A}
use Rattle.rules.specs.declared.State.{State}
use Rattle.theorems.specs.Refusals.{Refused, NotRefused}
use Rattle.theorems.specs.Demand3.{Accepted}
use Rattle.theorems.specs.NoFreedom.{Call, tick_call, tick_in_place_call, run_call, calls, Each}
use Rattle.theorems.specs.Runs.{called}

-- A function in the place of a call, and that it meets the call's contract.
abbrev pub Function : Call → Type 0
Function c = c.Input → c.Outcome

abbrev pub Meets : (c : Call) → Function c → Type 0
Meets c f = (input : c.Input) → c.permits input (f input)

-- Refusing always.
abbrev pub RefusesAlways : (c : Call) → Function c → Type 0
RefusesAlways c f = (input : c.Input) → Refused (c.refusal (f input))

-- One fixed answer, wherever it does not refuse.
abbrev pub AnswersAlways : (c : Call) → c.Outcome → Function c → Type 0
AnswersAlways c fixed f = (input : c.Input) → NotRefused (c.refusal (f input)) → f input ≡ fixed

-- Demand 2 catches both, since A must run: of every call on a sheet, neither kind meets the contract.
-- (And two functions that meet it answer alike on every input.)
pub record Caught (c : Call) : Type 0 where
  pub refusing : (f : Function c) → Meets c f → RefusesAlways c f → ⊥
  pub fixed : (f : Function c) (answer : c.Outcome) → Meets c f → AnswersAlways c answer f → ⊥
  pub alike : (f g : Function c) → Meets c f → Meets c g → (input : c.Input) → f input ≡ g input

abbrev pub RefusingAndFixed : Type 0
RefusingAndFixed = Each Caught calls

-- An untouched record. A tick that is not refused never leaves the record as it came, by value or lent, nor does a run of
-- a tick or more leave the start; and A's first tick is not refused.
pub record Touched : Type 0 where
  pub by_value : (f : Function tick_call) → Meets tick_call f
      → (bytes : List ℕ) (st : State) → NotRefused (f (bytes, st)).told.refusal → (f (bytes, st)).state ≡ st → ⊥
  pub lent : (f : Function tick_in_place_call) → Meets tick_in_place_call f
      → (bytes : List ℕ) (st : State) → NotRefused (f (bytes, st)).0.refusal → (f (bytes, st)).1 ≡ st → ⊥
  pub run : (f : Function run_call) → Meets run_call f
      → (bytes : List ℕ) (h : ℕ) (buffer : List ℕ) → NotRefused (f (bytes, suc h, buffer)).0.refusal
      → (f (bytes, suc h, buffer)).0.state ≡ start → ⊥
  pub first_ofA : NotRefused (ticked A.sheet start).told.refusal

-- A first tick that does the whole run, with later ticks only for show, is caught because the record after each tick is
-- fixed: whatever tick meets the contract, calls of it from the start give, after each, the record of a run so long.
abbrev pub FixedAfterEach : Type 0
FixedAfterEach = (f : Function tick_call) → Meets tick_call f
    → (bytes : List ℕ) (h : ℕ) (buffer : List ℕ) → NotRefused (ran bytes h buffer).refusal
    → called h (λ st. f (bytes, st)) ≡ (ran bytes h buffer).state

-- In particular A's first tick does not give its tasks the records that they have at the end of its run.
abbrev pub NotAllAtOnce : Type 0
NotAllAtOnce = (f : Function tick_call) → Meets tick_call f
    → (buffer : List ℕ) → NotRefused (ran A.sheet 10 buffer).refusal
    → (f (A.sheet, start)).state.tasks ≡ (ran A.sheet 10 buffer).state.tasks → ⊥

-- Switch or blocked totals made up at will fail because rules 6 and 7 fix them tick by tick.
abbrev pub one : Bool → ℕ
one test = if test then 1 else 0

-- 7. A switch is counted when a job runs and it is another job than the one that ran last. (Runners 254 and 255 are no jobs.)
abbrev pub switch_now : Sheet → State → (runner : ℕ) → Bool
switch_now sheet st runner = runner <? 254 && not (same_job (job_of (after_releases sheet st) runner) st.last)

abbrev pub SwitchesFixed : Type 0
SwitchesFixed = (f : Function tick_call) → Meets tick_call f
    → (bytes : List ℕ) (sheet : Sheet) (st : State) → Accepted bytes sheet → NotRefused (f (bytes, st)).told.refusal
    → (f (bytes, st)).state.switches ≡ st.switches + one (switch_now sheet st (f (bytes, st)).told.runner)

-- 6. Each pending job of smaller rank than a running job is blocked for this tick.
abbrev pub blocked_now : Sheet → State → (runner i : ℕ) → Bool
blocked_now sheet st runner i = runner <? 254 && i <? runner && (record_at (after_releases sheet st) i).job.pending

abbrev pub blocked_of : State → (i : ℕ) → ℕ
blocked_of st i = (record_at st.tasks i).counts.blocked

abbrev pub BlockedFixed : Type 0
BlockedFixed = (f : Function tick_call) → Meets tick_call f
    → (bytes : List ℕ) (sheet : Sheet) (st : State) → Accepted bytes sheet → NotRefused (f (bytes, st)).told.refusal
    → (i : ℕ) → i < 16
    → blocked_of (f (bytes, st)).state i ≡ blocked_of st i + one (blocked_now sheet st (f (bytes, st)).told.runner i)

-- So the totals of a run are counts of its ticks: of those in which another job runs than the one that ran last, and of those
-- in which the task is blocked.
abbrev pub TotalsOfRuns : Type 0
TotalsOfRuns = (h : ℕ) (sheet : Sheet)
    → ((after h sheet start).switches ≡ total h λ t. one (switch_now sheet (after t sheet start) (runner_byte (runner_of sheet (after t sheet start)))))
    × ((i : ℕ) → i < 16
    → blocked_of (after h sheet start) i ≡ total h λ t. one (blocked_now sheet (after t sheet start) (runner_byte (runner_of sheet (after t sheet start))) i))
