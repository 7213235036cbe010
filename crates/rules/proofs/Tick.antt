-- Laws of a tick: what holds of each outcome of a rule holds of what it gives, and the record of each rank.
use Prim.Native.Nat.{ℕ, ◌+◌, ◌-◌, ◌≤◌, ◌<◌}
use mathlib.Core.Path.{◌≡◌, refl, sym, ap, ◌∙◌}
use mathlib.Core.List.{List}
use mathlib.Core.Bool.{true, false, not, ◌&&◌}
use native.Mathlib.Omega.{arith}
use lib.ListN.{length, drop}
use borrow.Author.Tests.{ltb-true, ltb-false, eqb-true, eqb-false, lt-ltb, le-ltb, not-true, not-false}
use Rattle.rules.specs.Words.{◌<?◌, ◌=?◌}
use Rattle.rules.specs.Sheet.{Task, Sheet, task_at}
use Rattle.rules.specs.Fields.{up, standing, moved_to, no_job, with_job, with_counts, blank}
use Rattle.rules.specs.Record.{record_at}
use Rattle.rules.specs.Choice.{full}
use Rattle.rules.specs.declared.Runner.{Runner}
use Rattle.rules.specs.declared.Runner.TheVariants.{Rank, Stuck, Idle}
use Rattle.rules.specs.Tick.{completed, releases_at, released, after_releases, next_run, left_of_run, behind_unlocks, advanced, was_blocked, spent, after_runner}
use Rattle.rules.specs.declared.Count.TheVariants.{Releases, Misses, TicksRun}
use Rattle.rules.specs.declared.TaskRecord.{TaskRecord}
use Rattle.rules.specs.declared.State.{State}
use Rattle.rules.proofs.Laws.{and_left, and_right, and_denied, if_cases, row_at}

-- 1. a release that misses, and one that starts a job
abbrev pub missed : TaskRecord → TaskRecord
missed r = with_counts (up Misses (up Releases r.counts)) r

abbrev pub begun : (t : ℕ) → Task → TaskRecord → TaskRecord
begun t task r = record { job = standing 0 (full task.steps) t 0; counts = up Releases r.counts }

-- no release, a miss, or a start
pub released_cases : (P : TaskRecord → Type 0) (t : ℕ) (task : Task) (r : TaskRecord)
    → (releases_at t task ≡ false → P r)
    → (releases_at t task ≡ true → r.job.pending ≡ true → P (missed r))
    → (releases_at t task ≡ true → r.job.pending ≡ false → P (begun t task r))
    → P (released t task r)
unfolding released
released_cases P t task r none misses begins =
    if_cases P (not (releases_at t task)) _ _
    (λ e. none (not-true (releases_at t task) e))
    (λ e. let due = not-false (releases_at t task) e in if_cases P r.job.pending _ _ (misses due) (begins due))

-- 5. a job that goes on with its run, one that comes to its next step, and one that completes
abbrev pub went_on : Task → TaskRecord → TaskRecord
went_on task r = with_job (moved_to (next_run task r.job) (left_of_run task r.job - 1) r.job) r

abbrev pub came_to : Task → TaskRecord → TaskRecord
came_to task r = with_job (moved_to (behind_unlocks task r.job) (full (drop (behind_unlocks task r.job) task.steps)) r.job) r

abbrev pub ended : (t : ℕ) → TaskRecord → TaskRecord
ended t r = record { job = no_job; counts = completed (t + 1 - r.job.release) r.counts }

-- each where rule 5 says so
pub advanced_cases : (P : TaskRecord → Type 0) (t : ℕ) (task : Task) (r : TaskRecord)
    → (1 < left_of_run task r.job → P (went_on task r))
    → (left_of_run task r.job ≤ 1 → behind_unlocks task r.job < length task.steps → P (came_to task r))
    → (left_of_run task r.job ≤ 1 → length task.steps ≤ behind_unlocks task r.job → P (ended t r))
    → P (advanced t task r)
unfolding advanced
advanced_cases P t task r goesOn comes completes =
    let left = left_of_run task r.job in
    let next = behind_unlocks task r.job in
    if_cases P (1 <? left) _ _
    (λ e. goesOn (ltb-true 1 left e))
    (λ e. let used = ltb-false 1 left e in
    if_cases P (next <? length task.steps) _ _
    (λ u. comes used (ltb-true next (length task.steps) u))
    (λ u. completes used (ltb-false next (length task.steps) u)))

-- 6. the runner
abbrev pub has_run : (t : ℕ) → Task → TaskRecord → TaskRecord
has_run t task r = with_counts (up TicksRun (advanced t task r).counts) (advanced t task r)

-- (nobody who is stuck or idle runs)
stuck_runs : {A : Type 0} (k : ℕ) → Stuck ≡ Rank k → A
stuck_runs k z = absurd (let c : ◌≡◌ {A = ℕ} 0 1 = cc in omega arith)

idle_runs : {A : Type 0} (k : ℕ) → Idle ≡ Rank k → A
idle_runs k z = absurd (let c : ◌≡◌ {A = ℕ} 0 1 = cc in omega arith)

-- (a runner has one rank)
same_rank : (i k : ℕ) → Rank i ≡ Rank k → i ≡ k
same_rank i k z = cc

-- the runner, a pending job of smaller rank, or any other, whose record stays
pub spent_cases : (P : TaskRecord → Type 0) (x : Runner) (t i : ℕ) (task : Task) (r : TaskRecord)
    → (x ≡ Rank i → P (has_run t task r))
    → ((k : ℕ) → x ≡ Rank k → i < k → r.job.pending ≡ true → P (was_blocked r))
    → ((x ≡ Rank i → ⊥) → ((k : ℕ) → x ≡ Rank k → i < k → r.job.pending ≡ false) → P r)
    → P (spent x t i task r)
unfolding spent
spent_cases P (Rank x) t i task r runs waits rests =
    if_cases P (i =? x) _ _
    (λ e. runs (ap Rank (sym (eqb-true i x e))))
    (λ e. if_cases P (i <? x && r.job.pending) _ _
    (λ u. waits x refl (ltb-true i x (and_left (i <? x) _ u)) (and_right (i <? x) _ u))
    (λ u. rests
    (λ z. eqb-false i x e (sym (same_rank x i z)))
    (λ k z l. and_denied (i <? x) r.job.pending u (lt-ltb i x (omega (arith, same_rank x k z))))))
spent_cases P Stuck t i task r runs waits rests = rests (stuck_runs i) (λ k z. stuck_runs k z)
spent_cases P Idle t i task r runs waits rests = rests (idle_runs i) (λ k z. idle_runs k z)

-- the record of each rank after the releases, and after the runner
pub released_at : (sheet : Sheet) (st : State) (i : ℕ) → i < 16 → i < length sheet.tasks
    → record_at (after_releases sheet st) i ≡ released st.t (task_at sheet i) (record_at st.tasks i)
unfolding after_releases record_at
released_at sheet st i l h = row_at 16 _ blank i l ∙ (rw (lt-ltb i (length sheet.tasks) h) refl)

-- (those at n and above have no release)
pub past_at : (sheet : Sheet) (st : State) (i : ℕ) → i < 16 → length sheet.tasks ≤ i → record_at (after_releases sheet st) i ≡ record_at st.tasks i
unfolding after_releases record_at
past_at sheet st i l h = row_at 16 _ blank i l ∙ (rw (le-ltb i (length sheet.tasks) h) refl)

-- after the runner
pub spent_at : (x : Runner) (sheet : Sheet) (t : ℕ) (records : List TaskRecord) (i : ℕ) → i < 16
    → record_at (after_runner x sheet t records) i ≡ spent x t i (task_at sheet i) (record_at records i)
unfolding after_runner record_at
spent_at x sheet t records i l = row_at 16 _ blank i l
