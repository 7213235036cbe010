-- The holders from tick to tick: releases leave them, and a tick changes them by the steps that its runner passes.
use Rattle.std.proofs.Common.{ℕ, ◌-◌, ◌≤◌, ◌<◌, ◌≡◌, refl, sym, ap, ap₂, ◌∙◌, ⊎_elim, List, [], ◌∷◌, Bool, true, false, not, ◌&&◌, ◌||◌, length, take, drop, replicate, arith, if◌then◌else◌}
use Rattle.std.proofs.Math.Seq.{drop-length}
use borrow.Author.Tests.{leb-false, eq-eqb, ne_eqb, eqb-true, eqb-false, not-true}
use Rattle.rules.specs.Words.{◌≤?◌, ◌=?◌, some, smallest, row, any, among}
use Rattle.rules.specs.Sheet.{Step, run, lock, unlock, Task, Sheet, Body, task_at, is_lock_of, without, held_on_top, held}
use Rattle.rules.specs.Reading.{read, read_sheet}
use Rattle.rules.specs.Fields.{start}
use Rattle.rules.specs.Record.{record_at, behind, ahead, carries, holds}
use Rattle.rules.specs.Choice.{held_by_other}
use Rattle.rules.specs.Tick.{after_releases, next_run, behind_unlocks, advanced, after_runner}
use Rattle.rules.specs.Laws.{MayRun}
use Rattle.rules.specs.declared.Runner.{Runner}
use Rattle.rules.specs.declared.Runner.TheVariants.{Rank}
use Rattle.rules.specs.declared.Job.{Job}
use Rattle.rules.specs.declared.TaskRecord.{TaskRecord}
use Rattle.rules.specs.declared.State.{State}
use Rattle.rules.proofs.Laws.{sure, true_false, and_left, and_no, or_cases, or_right, some_of, smallest_same, smallest_found, smallest_none, row_same}
use Rattle.rules.proofs.Choice.{among_without}
use Rattle.rules.proofs.Tick.{advanced_cases, spent_cases, spent_at}
use Rattle.rules.proofs.Limits.{accepted_within_limits}
use Rattle.rules.proofs.Nesting.{nests, nests_on}
use Rattle.rules.proofs.Possible.{Single, Possible, stands_inside}
use Rattle.rules.proofs.Steps.{held_passed, passed_takes}
use Rattle.rules.proofs.Kept.{blocked_carries, released_fits, holds_released, released_single, runner_rank, next_single}
use Rattle.holders.specs.Holders.{holder, holders, entry_after, after_step, after_steps, reached, after_tick}
use Rattle.holders.proofs.Holders.{turn_row, without_same, without_other}

-- rank i apart from the others
module _ (h : ℕ → ℕ → Bool) (i : ℕ) (rank : i < 16) where
  others : (s : ℕ) → ℕ
  others s = smallest 16 255 λ j. not (j =? i) && h j s

  others_not : (s : ℕ) → others s ≡ i → ⊥
  unfolding others
  others_not s e = ⊎_elim
      (λ w. true_false (not (others s =? i)) (and_left (not (others s =? i)) (h (others s) s) w.1) (rw (eq-eqb (others s) i e) refl))
      (λ w. omega (arith, w.0))
      (smallest_found 16 255 (λ j. not (j =? i) && h j s))

  with_own : (own : List ℕ) (s : ℕ) → ℕ
  with_own own s = if among s own then i else others s

  -- a lock of what nobody else holds, an unlock of its own
  take_entry : (s : ℕ) (c : Bool) → others s ≡ 255 → entry_after i (lock s) (if c then i else others s) ≡ i
  unfolding entry_after
  take_entry s true z = rw (ne_eqb i 255 (λ e. omega arith)) refl
  take_entry s false z = rw z refl

  give_entry : (s : ℕ) (c : Bool) → (c ≡ true → others s ≡ 255) → entry_after i (unlock s) (if c then i else others s) ≡ others s
  unfolding entry_after
  give_entry s true z = rw (eq-eqb i i refl) (sym (z refl))
  give_entry s false z = rw (ne_eqb (others s) i (others_not s)) refl

  -- nobody else holds what it holds, or takes
  abbrev Apart : (ℕ → Bool) → Type 0
  Apart p = (s : ℕ) → s < 16 → p s ≡ true → others s ≡ 255

  own_steps : (own : List ℕ) (steps : List Step) → Apart (λ s. among s own) → Apart (λ s. any (is_lock_of s) steps)
      → after_steps i steps (row 16 (with_own own)) ≡ row 16 (with_own (held_on_top own steps))
  unfolding after_steps after_step held_on_top with_own among any is_lock_of
  own_steps own [] a b = refl
  own_steps own (run n ∷ steps) a b = own_steps own steps a b
  own_steps own (lock s ∷ steps) a b =
      ap (after_steps i steps) (turn_row s (entry_after i (lock s)) (with_own own) (with_own (s ∷ own))
      (λ l. take_entry s (among s own) (b s l (rw (eq-eqb s s refl) refl)) ∙ ap (λ (c : Bool). if c || among s own then i else others s) (sym (eq-eqb s s refl)))
      (λ k n. ap (λ (c : Bool). if c || among k own then i else others k) (sym (ne_eqb s k n))))
      ∙ own_steps (s ∷ own) steps
      (λ k l u. ⊎_elim (λ v. b k l (rw v refl)) (λ v. a k l v) (or_cases (s =? k) (among k own) u))
      (λ k l u. b k l (or_right (s =? k) (any (is_lock_of k) steps) u))
  own_steps own (unlock s ∷ steps) a b =
      ap (after_steps i steps) (turn_row s (entry_after i (unlock s)) (with_own own) (with_own (without s own))
      (λ l. give_entry s (among s own) (a s l) ∙ ap (λ (c : Bool). if c then i else others s) (sym (without_same s own)))
      (λ k n. ap (λ (c : Bool). if c then i else others k) (sym (without_other s k own n))))
      ∙ own_steps (without s own) steps (λ k l u. a k l (among_without k s own u)) b

  -- the holder of a semaphore that two do not hold
  holder_split : Single h → (s : ℕ) → s < 16 → smallest 16 255 (λ j. h j s) ≡ (if h i s then i else others s)
  unfolding others
  holder_split single s l = ⊎_elim
      (λ u. rw u (⊎_elim
      (λ w. single (smallest 16 255 (λ j. h j s)) i s w.0 rank l w.1 u)
      (λ w. true_false (h i s) u (w.1 i rank))
      (smallest_found 16 255 (λ j. h j s))))
      (λ u. rw u (smallest_same 16 255 (λ j. h j s) (λ j. not (j =? i) && h j s) (λ j m. ⊎_elim
      (λ v. rw v (ap (λ (k : ℕ). h k s) (eqb-true j i v) ∙ u))
      (λ v. rw v refl)
      (sure (j =? i)))))
      (sure (h i s))

-- rank i goes on by some steps, the others stay
module _ (h h' : ℕ → ℕ → Bool) (i : ℕ) (rank : i < 16) (single : Single h) (single' : Single h')
    (same : (j s : ℕ) → j < 16 → (j ≡ i → ⊥) → h' j s ≡ h j s) (own : List ℕ) (steps : List Step)
    (before : (s : ℕ) → h i s ≡ among s own) (after : (s : ℕ) → h' i s ≡ among s (held_on_top own steps))
    (alone : (s : ℕ) → s < 16 → any (is_lock_of s) steps ≡ true → some 16 (λ j. not (j =? i) && h j s) ≡ false) where
  nobody : (s : ℕ) → some 16 (λ j. not (j =? i) && h j s) ≡ false → others h i rank s ≡ 255
  unfolding others
  nobody s e = smallest_none 16 255 (λ j. not (j =? i) && h j s) (λ j l. ⊎_elim
      (λ u. true_false (some 16 (λ j. not (j =? i) && h j s)) (some_of 16 (λ j. not (j =? i) && h j s) j l u) e)
      (λ u. u)
      (sure (not (j =? i) && h j s)))

  own_alone : (s : ℕ) → s < 16 → among s own ≡ true → others h i rank s ≡ 255
  unfolding others
  own_alone s l e = smallest_none 16 255 (λ j. not (j =? i) && h j s) (λ j m. ⊎_elim
      (λ u. rw u refl)
      (λ u. and_no (not (j =? i)) (h j s) (⊎_elim (λ v. absurd (eqb-false j i u (single j i s m rank l v (before s ∙ e)))) (λ v. v) (sure (h j s))))
      (sure (j =? i)))

  pub moved : row 16 (λ s. smallest 16 255 (λ j. h' j s)) ≡ after_steps i steps (row 16 (λ s. smallest 16 255 (λ j. h j s)))
  unfolding with_own others
  moved = sym (
      ap (after_steps i steps) (row_same 16 (λ s. smallest 16 255 (λ j. h j s)) (with_own h i rank own) (λ s l.
      holder_split h i rank single s l ∙ ap (λ (c : Bool). if c then i else others h i rank s) (before s)))
      ∙ own_steps h i rank own steps own_alone (λ s l u. nobody s (alone s l u))
      ∙ row_same 16 (with_own h i rank (held_on_top own steps)) (λ s. smallest 16 255 (λ j. h' j s)) (λ s l. sym (
      holder_split h' i rank single' s l
      ∙ ap₂ (λ c n. if c then i else n) (after s) (smallest_same 16 255 (λ j. not (j =? i) && h' j s) (λ j. not (j =? i) && h j s) (λ j m. ⊎_elim
      (λ u. rw u refl)
      (λ u. ap (λ (c : Bool). not (j =? i) && c) (same j s m (eqb-false j i u)))
      (sure (j =? i)))))))

-- the steps that a runner passes in a tick
module _ (t : ℕ) (task : Task) (r : TaskRecord) where
  reaches : reached task (advanced t task r).job ≤ behind_unlocks task r.job
  unfolding reached behind_unlocks
  reaches = advanced_cases (λ x. reached task x.job ≤ behind_unlocks task r.job) t task r
      (λ l. omega arith)
      (λ l u. omega arith)
      (λ l u. omega arith)

  goes_on : r.job.position ≤ length task.steps → r.job.position ≤ reached task (advanced t task r).job
  unfolding reached behind_unlocks next_run
  goes_on h = advanced_cases (λ x. r.job.position ≤ reached task x.job) t task r
      (λ l. omega arith)
      (λ l u. omega arith)
      (λ l u. omega arith)

-- after its last step a job holds nothing
all_given_back : (steps : List Step) → Body [] steps → held (take (length steps) steps) ≡ []
unfolding nests
all_given_back steps β = empty (held (take (length steps) steps))
    (ap (nests (held (take (length steps) steps)) _) (sym (drop-length steps)) ∙ nests_on (length steps) steps β)
  where
    empty : (xs : List ℕ) → not (1 ≤? length xs) ≡ true → xs ≡ []
    empty [] e = refl
    empty (x ∷ xs) e = absurd (let l = leb-false 1 (length (x ∷ xs)) (not-true (1 ≤? length (x ∷ xs)) e) in omega arith)

-- the runner holds what the steps up to the one it reaches have locked and not unlocked
runner_carries : (t : ℕ) (task : Task) (r : TaskRecord) (s : ℕ) → Body [] task.steps
    → carries task (advanced t task r).job s ≡ among s (held (take (reached task (advanced t task r).job) task.steps))
unfolding carries behind reached among any
runner_carries t task r s β = advanced_cases (λ x. carries task x.job s ≡ among s (held (take (reached task x.job) task.steps))) t task r
    (λ l. refl)
    (λ l u. refl)
    (λ l u. sym (ap (among s) (all_given_back task.steps β)))

-- at the start nobody holds anything
pub holders_start : (sheet : Sheet) → holders sheet start.tasks ≡ replicate 16 255
unfolding holders holder holds carries record_at row smallest
holders_start sheet = refl

-- a tick of a possible state
module _ (bytes : List ℕ) (sheet : Sheet) (e : read_sheet bytes ≡ read sheet) (st : State) (π : Possible sheet st) where
  abbrev rs : List TaskRecord
  rs = after_releases sheet st

  -- THE LAW OF RELEASES: they leave the holders
  pub holders_released : holders sheet (after_releases sheet st) ≡ holders sheet st.tasks
  unfolding holders holder
  holders_released = row_same 16 _ _ (λ s l. smallest_same 16 255 _ _ (λ j m. holds_released bytes sheet e st π j s m))

  -- any runner that may run
  module _ (x : Runner) (may : (i : ℕ) → x ≡ Rank i → MayRun sheet (after_releases sheet st) i) where
    abbrev next : List TaskRecord
    next = after_runner x sheet st.t rs

    -- who does not run holds what it held
    waits : (j s : ℕ) → j < 16 → (x ≡ Rank j → ⊥) → holds sheet next j s ≡ holds sheet rs j s
    unfolding holds
    waits j s l n = ap (λ (r : TaskRecord). carries (task_at sheet j) r.job s) (spent_at x sheet st.t rs j l)
        ∙ spent_cases (λ r. carries (task_at sheet j) r.job s ≡ carries (task_at sheet j) (record_at rs j).job s) x st.t j (task_at sheet j) (record_at rs j)
        (λ w. absurd (n w))
        (λ k w u p. blocked_carries (task_at sheet j) (record_at rs j).job s p)
        (λ w p. refl)

    pub holders_still : ((i : ℕ) → x ≡ Rank i → ⊥) → holders sheet (after_runner x sheet st.t (after_releases sheet st)) ≡ holders sheet (after_releases sheet st)
    unfolding holders holder
    holders_still n = row_same 16 _ _ (λ s l. smallest_same 16 255 _ _ (λ j m. waits j s m (n j)))

    module _ (i : ℕ) (z : x ≡ Rank i) where
      abbrev task : Task
      task = task_at sheet i

      abbrev old : TaskRecord
      old = record_at rs i

      rank : i < 16
      rank = runner_rank bytes sheet e st π x may i z

      inside : old.job.position ≤ length task.steps
      unfolding ahead
      inside = let l = stands_inside old.job.position old.job.left task.steps ((released_fits bytes sheet e st π i rank).stands (may i z).pending) in omega arith

      new_job : (record_at next i).job ≡ (advanced st.t task old).job
      new_job = ap (λ (r : TaskRecord). r.job) (spent_at x sheet st.t rs i rank)
          ∙ spent_cases (λ r. r.job ≡ (advanced st.t task old).job) x st.t i task old
          (λ w. refl)
          (λ k w u p. absurd (let same : Rank i ≡ Rank k = sym z ∙ w in let y : i ≡ k = cc in omega arith))
          (λ w p. absurd (w z))

      stays : (j s : ℕ) → j < 16 → (j ≡ i → ⊥) → holds sheet next j s ≡ holds sheet rs j s
      stays j s l n = waits j s l (λ w. n (let same : Rank j ≡ Rank i = sym w ∙ z in cc))

      -- the position it comes to, and the steps up to there
      abbrev to : ℕ
      to = reached task (advanced st.t task old).job

      abbrev passed : List Step
      passed = take (to - old.job.position) (ahead task old.job)

      had : (s : ℕ) → holds sheet rs i s ≡ among s (held (behind task old.job))
      unfolding holds carries
      had s = rw (may i z).pending refl

      has : (s : ℕ) → holds sheet next i s ≡ among s (held_on_top (held (behind task old.job)) passed)
      unfolding holds
      has s =
          ap (λ (j : Job). carries task j s) new_job
          ∙ runner_carries st.t task old s ((accepted_within_limits bytes sheet e).each i (may i z).rank).body
          ∙ ap (among s) (held_passed task old.job to (goes_on st.t task old inside))

      alone : (s : ℕ) → s < 16 → any (is_lock_of s) passed ≡ true → held_by_other sheet rs i s ≡ false
      alone s l u = (may i z).alone s l (passed_takes task old.job to s (reaches st.t task old) u)

      -- THE LAW OF A TICK: the holders change by the steps that the runner passes
      pub holders_ticked : holders sheet (after_runner x sheet st.t (after_releases sheet st))
          ≡ after_tick i (task_at sheet i) (record_at (after_releases sheet st) i).job (record_at (after_runner x sheet st.t (after_releases sheet st)) i).job (holders sheet (after_releases sheet st))
      unfolding holders holder after_tick held_by_other ahead
      holders_ticked =
          moved (holds sheet rs) (holds sheet next) i rank (released_single bytes sheet e st π) (next_single bytes sheet e st π x may) stays
          (held (behind task old.job)) passed had has alone
          ∙ ap (λ (j : Job). after_steps i (take (reached task j - old.job.position) (drop old.job.position task.steps)) (row 16 (λ s. smallest 16 255 (λ j. holds sheet rs j s)))) (sym new_job)
