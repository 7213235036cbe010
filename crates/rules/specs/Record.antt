-- THE RECORD OF A RUN.
use Rattle.std.specs.Prelude.{ℕ, List, [], ◌∷◌, Bool, false, ◌&&◌, ◌||◌, length, get_or, take, drop, if◌then◌else◌}
use Rattle.rules.specs.Words.{◌<?◌, ◌≤?◌, ◌=?◌, ◌⇒◌, within, every, all, among}
use Rattle.rules.specs.Sheet.{Step, run, lock, unlock, Task, Sheet, task_at, held}
use Rattle.rules.specs.Fields.{blank, place, counted, zeros, zero_record, none_yet, same_job}
use Rattle.rules.specs.declared.Job.{Job}
use Rattle.rules.specs.declared.Counts.{Counts}
use Rattle.rules.specs.declared.TaskRecord.{TaskRecord}
use Rattle.rules.specs.declared.LastJob.{LastJob}
use Rattle.rules.specs.declared.State.{State}

-- The record of a rank.
unfoldable pub record_at : List TaskRecord → (i : ℕ) → TaskRecord
record_at records i = get_or records i blank

-- The position is the index of the next step: the steps before it, and the steps from it on.
unfoldable pub behind : Task → Job → List Step
behind task j = take j.position task.steps

unfoldable pub ahead : Task → Job → List Step
ahead task j = drop j.position task.steps

-- A pending job holds what the steps before its position have locked and not unlocked.
unfoldable pub carries : Task → Job → (s : ℕ) → Bool
carries task j s = j.pending && among s (held (behind task j))

unfoldable pub holds : Sheet → List TaskRecord → (i s : ℕ) → Bool
holds sheet records i s = carries (task_at sheet i) (record_at records i).job s

-- every count and worst response is at most t, and so is the most blocked;
unfoldable pub counts_fit : (t : ℕ) → Counts → Bool
counts_fit t c = all (λ x. x ≤? t) (counted c)

-- the remembered job's rank is below n and its release tick below t, unless the pair is 255 and 0;
unfoldable pub last_fits : (n t : ℕ) → LastJob → Bool
last_fits n t j = j.rank <? n && j.release <? t || same_job j none_yet

-- (a pending one) stands at a run with 1 to its full length left, or at a lock with 0 left;
unfoldable pub stands_well : (ahead : List Step) (left : ℕ) → Bool
stands_well [] left = false
stands_well (run n ∷ steps) left = within 1 n left
stands_well (lock s ∷ steps) left = left =? 0
stands_well (unlock s ∷ steps) left = false

-- a task not pending has position, left, release tick and ticks blocked zero; a pending one has a release tick below t, and
-- stands well;
unfoldable pub job_fits : (t : ℕ) → Task → Job → Bool
job_fits t task j = if j.pending then j.release <? t && stands_well (ahead task j) j.left else zeros (place j)

-- the blocked ticks of the present job are not above t, nor above the most that any job had (which is a count: not above t);
unfoldable pub present_fits : (t : ℕ) → TaskRecord → Bool
present_fits t r = r.job.present ≤? t && r.job.present ≤? r.counts.most

-- records at n and above are zero;
unfoldable pub record_fits : Sheet → (t i : ℕ) → TaskRecord → Bool
record_fits sheet t i r =
    counts_fit t r.counts
    && present_fits t r
    && job_fits t (task_at sheet i) r.job
    && (length sheet.tasks ≤? i ⇒ zero_record r)

-- no semaphore is held by two.
unfoldable pub none_held_by_two : Sheet → List TaskRecord → Bool
none_held_by_two sheet records = every 16 λ s. every 16 λ i. every 16 λ j.
    holds sheet records i s && holds sheet records j s ⇒ i =? j

-- A state is possible when: t is at most 60,000; every count is at most t, that of switches too; and all of the above.
unfoldable pub possible : Sheet → State → Bool
possible sheet st =
    st.t ≤? 60000
    && st.switches ≤? st.t
    && last_fits (length sheet.tasks) st.t st.last
    && every 16 (λ i. record_fits sheet st.t i (record_at st.tasks i))
    && none_held_by_two sheet st.tasks
