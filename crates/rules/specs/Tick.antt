-- ONE TICK: what it does with the runner, rules 1, 5, 6 and 7.
use Rattle.std.specs.Prelude.{ℕ, ◌+◌, ◌-◌, ◌%◌, max, List, Bool, not, ◌&&◌, length, drop, if◌then◌else◌}
use Rattle.rules.specs.Words.{◌<?◌, ◌≤?◌, ◌=?◌, row, leading}
use Rattle.rules.specs.Sheet.{Task, Sheet, task_at, is_lock, is_unlock}
use Rattle.rules.specs.Fields.{with_count, up, standing, moved_to, held_up, no_job, with_job, with_counts, last_job, same_job}
use Rattle.rules.specs.Record.{record_at, ahead}
use Rattle.rules.specs.Choice.{full, runner}
use Rattle.rules.specs.declared.Runner.{Runner}
use Rattle.rules.specs.declared.Runner.TheVariants.{Rank, Stuck, Idle}
use Rattle.rules.specs.declared.Count.TheVariants.{Releases, Completions, Misses, TicksRun, TicksBlocked, WorstResponse, MostBlocked}
use Rattle.rules.specs.declared.Job.{Job}
use Rattle.rules.specs.declared.Counts.{Counts}
use Rattle.rules.specs.declared.TaskRecord.{TaskRecord}
use Rattle.rules.specs.declared.LastJob.{LastJob}
use Rattle.rules.specs.declared.State.{State}

-- 1. Task i has a release at t when t is at least its offset and t minus offset is a multiple of the period.
unfoldable pub releases_at : (t : ℕ) → Task → Bool
releases_at t task = task.offset ≤? t && (t - task.offset) % task.period =? 0

-- Its releases rise by one. If it is pending, misses rise by one and no job starts.
-- Otherwise a job starts at step 0, released at t, with ticks left as in rule 5, and not blocked yet.
unfoldable pub released : (t : ℕ) → Task → TaskRecord → TaskRecord
released t task r =
    if not (releases_at t task) then r else
    if r.job.pending then with_counts (up Misses (up Releases r.counts)) r else
    record { job = standing 0 (full task.steps) t 0; counts = up Releases r.counts }

unfoldable pub after_releases : Sheet → State → List TaskRecord
after_releases sheet st = row 16 λ i.
    let r = record_at st.tasks i in
    if i <? length sheet.tasks then released st.t (task_at sheet i) r else r

-- 5. The runner takes the locks before its next run,
unfoldable pub next_run : Task → Job → ℕ
next_run task j = j.position + leading is_lock (ahead task j)

-- which has so many ticks left,
unfoldable pub left_of_run : Task → Job → ℕ
left_of_run task j = if next_run task j =? j.position then j.left else full (drop (next_run task j) task.steps)

-- spends one tick, and if that run is used up takes the unlocks that follow, at once.
unfoldable pub behind_unlocks : Task → Job → ℕ
behind_unlocks task j = next_run task j + 1 + leading is_unlock (drop (next_run task j + 1) task.steps)

-- At the end of its steps it completes: completions rise by one, the worst response is the larger of old and new,
abbrev pub completed : (response : ℕ) → Counts → Counts
completed response c = with_count WorstResponse (max c.worst response) (up Completions c)

-- the response is t + 1 minus its release tick, and the task is no longer pending, with position, left and release tick zero,
-- and nothing blocked.
-- Otherwise it stands at its next step, with a run's full length left or, at a lock, 0.
unfoldable pub advanced : (t : ℕ) → Task → TaskRecord → TaskRecord
advanced t task r =
    let j = r.job in
    let next = behind_unlocks task j in
    if 1 <? left_of_run task j then with_job (moved_to (next_run task j) (left_of_run task j - 1) j) r else
    if next <? length task.steps then with_job (moved_to next (full (drop next task.steps)) j) r else
    record { job = no_job; counts = completed (t + 1 - j.release) r.counts }

-- 6. A job is blocked for a tick: the task's ticks blocked and those of its present job rise by one, and the most that any job
-- had is the larger of itself and the present one.
abbrev pub was_blocked : TaskRecord → TaskRecord
was_blocked r =
    let present = r.job.present + 1 in
    record { job = held_up r.job; counts = with_count MostBlocked (max r.counts.most present) (up TicksBlocked r.counts) }

-- Its ticks run rise by one. Each pending job of smaller rank than a running job is blocked for this tick.
unfoldable pub spent : Runner → (t i : ℕ) → Task → TaskRecord → TaskRecord
spent (Rank x) t i task r =
    let ran = advanced t task r in
    if i =? x then with_counts (up TicksRun ran.counts) ran else
    if i <? x && r.job.pending then was_blocked r else r
spent Stuck t i task r = r
spent Idle t i task r = r

unfoldable pub after_runner : Runner → Sheet → (t : ℕ) → List TaskRecord → List TaskRecord
after_runner x sheet t records = row 16 λ i. spent x t i (task_at sheet i) (record_at records i)

-- 7. The record remembers the job that ran last by rank and release tick,
abbrev pub job_of : List TaskRecord → (i : ℕ) → LastJob
job_of records i = last_job i (record_at records i).job.release

-- idle and stuck ticks passed over. (Of the records after the releases: there a job that completes in this tick still has its
-- release tick.)
unfoldable pub ran_last : Runner → List TaskRecord → (before : LastJob) → LastJob
ran_last (Rank i) records before = job_of records i
ran_last Stuck records before = before
ran_last Idle records before = before

-- A switch is counted when a job runs and it is another job than the one that ran last; the first job to run counts.
-- Then t rises by one.
unfoldable pub closed : State → (last : LastJob) → List TaskRecord → State
closed st last records =
    let switches = if same_job last st.last then st.switches else st.switches + 1 in
    record { t = st.t + 1; switches = switches; last = last; tasks = records }

-- The runner of a tick: the choice, after its releases.
unfoldable pub runner_of : Sheet → State → Runner
runner_of sheet st = runner sheet (after_releases sheet st)

-- One tick: the releases, the choice of the runner, and what is done with it.
unfoldable pub tick : Sheet → State → State
tick sheet st =
    let x = runner_of sheet st in
    let records = after_releases sheet st in
    closed st (ran_last x records st.last) (after_runner x sheet st.t records)
