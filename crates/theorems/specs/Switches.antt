-- SWITCHES. What the count tells of a tick and of a whole run.
use Rattle.std.specs.Prelude.{ℕ, ◌+◌, ◌≤◌, ◌<◌, ◌≡◌, ◌⊎◌, List, [], ◌∷◌, length}
use Rattle.rules.specs.Sheet.{Sheet}
use Rattle.rules.specs.Fields.{last_job, start}
use Rattle.rules.specs.declared.Runner.TheVariants.{Rank, Stuck, Idle}
use Rattle.rules.specs.Tick.{after_releases, job_of, runner_of, tick}
use Rattle.rules.specs.Run.{after}
use Rattle.rules.specs.Laws.{All}
use Rattle.rules.specs.Cases.{D}
use Rattle.rules.specs.declared.State.{State}
use Rattle.rules.specs.declared.LastJob.{LastJob}
use Rattle.theorems.specs.Demand3.{Accepted}

-- At most one switch is counted in a tick.
abbrev pub AtMostOne : Type 0
AtMostOne = (sheet : Sheet) (st : State) → (tick sheet st).switches ≤ st.switches + 1

-- None is counted in an idle or stuck one, and the job that ran last is not forgotten.
abbrev pub PassedOver : Type 0
PassedOver = (sheet : Sheet) (st : State) → (runner_of sheet st ≡ Stuck) ⊎ (runner_of sheet st ≡ Idle)
    → ((tick sheet st).switches ≡ st.switches) × ((tick sheet st).last ≡ st.last)

-- A job, by rank and release tick, runs in the tick of a state; it has run in the first ticks of a run from the start.
pub record Runs (sheet : Sheet) (st : State) (j : LastJob) : Type 0 where
  pub rank : ℕ
  pub runner : runner_of sheet st ≡ Rank rank
  pub named : job_of (after_releases sheet st) rank ≡ j

pub record HasRun (ticks : ℕ) (sheet : Sheet) (j : LastJob) : Type 0 where
  pub time : ℕ
  pub early : time < ticks
  pub there : Runs sheet (after time sheet start) j

-- No job stands twice in a row of jobs.
abbrev pub Different : List LastJob → Type 0
Different [] = Unit {0}
Different (j ∷ js) = All (λ k. k ≡ j → ⊥) js × Different js

-- THE LAW. In a run from the start there are at least as many switches as jobs that have run.
abbrev pub AsManyAsJobs : Type 0
AsManyAsJobs = (ticks : ℕ) (sheet : Sheet) (js : List LastJob) → Different js → All (HasRun ticks sheet) js
    → length js ≤ (after ticks sheet start).switches

-- It cannot be said with one more: in D two jobs have run, those released at 0 and at 4, and there are two switches.
abbrev pub jobs_ofD : List LastJob
jobs_ofD = last_job 0 0 ∷ last_job 0 4 ∷ []

pub record NoMoreInD (sheet : Sheet) : Type 0 where
  pub accepted : Accepted D.sheet sheet
  pub different : Different jobs_ofD
  pub have_run : All (HasRun 5 sheet) jobs_ofD
  pub switches : (after 5 sheet start).switches ≡ length jobs_ofD

pub record SwitchesTell : Type 0 where
  pub at_most_one : AtMostOne
  pub passed_over : PassedOver
  pub as_many_as_jobs : AsManyAsJobs
  pub tight : (sheet : Sheet) × NoMoreInD sheet
