-- ONE TICK: the choice of the runner, rules 2 to 4.
-- A sheet has at most sixteen tasks and sixteen semaphores: a rank or a semaphore is a number below 16.
use Rattle.std.specs.Prelude.{ℕ, zero, suc, ◌≡◌, List, [], ◌∷◌, Bool, true, false, not, ◌&&◌, ◌||◌, take, if◌then◌else◌}
use Rattle.rules.specs.Words.{◌<?◌, ◌≤?◌, ◌=?◌, ◌⇒◌, some, every, smallest, any, among}
use Rattle.rules.specs.Sheet.{Step, run, lock, unlock, Task, Sheet, task_at, is_run, is_lock, is_lock_of}
use Rattle.rules.specs.Record.{record_at, behind, ahead, holds}
use Rattle.rules.specs.declared.Job.{Job}
use Rattle.rules.specs.declared.TaskRecord.{TaskRecord}
use Rattle.rules.specs.declared.Runner.{Runner}
use Rattle.rules.specs.declared.Runner.TheVariants.{Rank, Stuck, Idle}

-- The runner is a job, by its rank, or nobody: 254 (stuck), 255 (idle).
unfoldable pub runner_byte : Runner → ℕ
runner_byte = elim [ Rank i ↦ i | Stuck ↦ 254 | Idle ↦ 255 ]

-- 2. The ceiling of a semaphore is the smallest rank that has a lock of it; 255 if none.
unfoldable pub locks : Task → (s : ℕ) → Bool
locks task s = any (is_lock_of s) task.steps

unfoldable pub ceiling : Sheet → (s : ℕ) → ℕ
ceiling sheet s = smallest 16 255 λ i. locks (task_at sheet i) s

-- It stands at a run: the first of the steps ahead is one.
unfoldable pub at_run : Task → Job → Bool
at_run task j = any is_run (take 1 (ahead task j))

-- The ticks left on coming to steps: a run's full length or, at a lock, 0.
unfoldable pub full : List Step → ℕ
full [] = 0
full (run n ∷ steps) = n
full (lock s ∷ steps) = 0
full (unlock s ∷ steps) = 0

-- 3. Fresh means: no run step lies before its position and, where it stands at a run, the full length is left.
unfoldable pub fresh : Task → Job → Bool
fresh task j = not (any is_run (behind task j)) && (at_run task j ⇒ j.left =? full (ahead task j))

-- A job may go if it is free of ceilings, or if it stands at a run.
-- In mode 1 a fresh job whose program has any lock may go only if free of ceilings.
unfoldable pub goes : (mode : ℕ) → Task → Job → (free : Bool) → Bool
goes mode task j free = if mode =? 1 && fresh task j && any is_lock task.steps then free else (free || at_run task j)

-- 4. Candidate: the pending job of smallest rank; 255 if none is pending.
unfoldable pub top_job : List TaskRecord → ℕ
top_job records = smallest 16 255 λ i. (record_at records i).job.pending

-- The rest is said of a sheet and the sixteen records after the releases.
module _ (sheet : Sheet) (records : List TaskRecord) where
  -- semaphore s is held by a job other than i
  unfoldable pub held_by_other : (i s : ℕ) → Bool
  held_by_other i s = some 16 λ j. not (j =? i) && holds sheet records j s

  -- 2. A job is free of ceilings when its rank is smaller than the ceiling of each semaphore held by other jobs.
  -- Its rank is its own, never an inherited one.
  unfoldable pub free_of_ceilings : (i : ℕ) → Bool
  free_of_ceilings i = every 16 λ s. held_by_other i s ⇒ i <? ceiling sheet s

  -- 3. said of a rank
  unfoldable pub may_go : (i : ℕ) → Bool
  may_go i = goes sheet.mode (task_at sheet i) (record_at records i).job (free_of_ceilings i)

  -- If it may not go, the candidate becomes the holder of the semaphore with the smallest ceiling among those held
  -- by others (equal ceilings: smallest number).
  unfoldable pub in_the_way : (i : ℕ) → ℕ
  in_the_way i = smallest 16 255 λ s.
      held_by_other i s && every 16 λ u. held_by_other i u ⇒ ceiling sheet s ≤? ceiling sheet u

  -- the job, other than i, that holds it
  unfoldable pub next_candidate : (i : ℕ) → ℕ
  next_candidate i = smallest 16 255 λ j. not (j =? i) && holds sheet records j (in_the_way i)

  -- Repeat. The first that may go is the runner. If a candidate comes round again, nobody runs and the runner is 254.
  pub data Walks : (seen : List ℕ) (i : ℕ) → Runner → Type 0 where
    the_runner : {seen : List ℕ} {i : ℕ} → among i seen ≡ false → may_go i ≡ true → Walks seen i (Rank i)
    comes_round : {seen : List ℕ} {i : ℕ} → among i seen ≡ true → Walks seen i Stuck
    onward : {seen : List ℕ} {i : ℕ} {x : Runner} → among i seen ≡ false → may_go i ≡ false
        → Walks (i ∷ seen) (next_candidate i) x → Walks seen i x

  -- The same, computed: `more` is how many ranks can be new, and where none can, this candidate has come round.
  unfoldable pub walk : (more : ℕ) (seen : List ℕ) (i : ℕ) → Runner
  walk zero seen i = Stuck
  walk (suc more) seen i =
      let further = walk more (i ∷ seen) (next_candidate i) in
      if among i seen then Stuck else
      if may_go i then Rank i else further

  -- From the pending job of smallest rank. If none is pending, it is 255 (idle).
  unfoldable pub runner : Runner
  runner =
      let walked = walk 16 [] (top_job records) in
      if top_job records =? 255 then Idle else walked
