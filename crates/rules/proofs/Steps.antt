-- A job along its steps: the run it comes to, the step behind that run's unlocks, and what it holds there.
use Prim.Native.Nat.{ℕ, zero, suc, ◌+◌, ◌-◌, ◌≤◌, ◌<◌}
use mathlib.Core.Path.{◌≡◌, refl, sym, ap, ◌∙◌, subst}
use mathlib.Core.Logic.{◌⊎◌, inl, inr, ⊎_elim}
use mathlib.Core.List.{List, [], ◌∷◌}
use mathlib.Core.Bool.{Bool, true, false, not, ◌||◌}
use native.Mathlib.Omega.{arith}
use lib.ListN.{length, take, drop, length-drop}
use lib.Seq.{drop-drop, take-add}
use borrow.Author.Tests.{leb-true, le-leb, eq-eqb, ne_eqb, not-true}
use Rattle.rules.specs.Words.{◌≤?◌, ◌=?◌, within, any, among, leading}
use Rattle.rules.specs.Sheet.{Step, run, lock, unlock, Task, Body, end, a_run, a_section, is_lock, is_unlock, is_lock_of, held_on_top, held}
use Rattle.rules.specs.Reading.{after_lock}
use Rattle.rules.specs.Record.{behind, ahead, carries, stands_well}
use Rattle.rules.specs.Choice.{full}
use Rattle.rules.specs.Tick.{next_run, left_of_run, behind_unlocks, advanced}
use Rattle.rules.specs.Laws.{All, StepLimits, TaskLimits, takes}
use Rattle.rules.specs.declared.Job.{Job}
use Rattle.rules.specs.declared.TaskRecord.{TaskRecord}
use Rattle.rules.proofs.Laws.{true_false, and_left, and_right, and_both, or_cases, or_right, all_drop}
use Rattle.rules.proofs.Choice.{held_locked}
use Rattle.rules.proofs.Nesting.{nests, held_snoc, nests_on}
use Rattle.rules.proofs.Tick.{advanced_cases}

-- an either that is denied
not_either : (a b : Bool) → b ≡ true → not (a || b) ≡ false
not_either a b e = ap not (or_right a b e)

-- behind a lock stand locks and then a run: an unlock directly after a lock is misplaced, and so is the end
locks_run : (h : List ℕ) (steps : List Step) → 1 ≤ length h → nests h true steps ≡ true
    → (n : ℕ) × (rest : List Step) × (drop (leading is_lock steps) steps ≡ run n ∷ rest)
unfolding nests leading is_lock
locks_run h [] l e = true_false (1 ≤? length h) (le-leb 1 (length h) l) (not-true (1 ≤? length h) e)
locks_run h (run n ∷ steps) l e = (n, steps, refl)
locks_run h (lock s ∷ steps) l e = locks_run (s ∷ h) steps (omega arith) (and_right (not (among s h || 4 ≤? length h)) (nests (s ∷ h) true steps) e)
locks_run h (unlock s ∷ steps) l e =
    let last = not (among s (take 1 h)) in
    true_false (not (last || true)) (and_left (not (last || true)) _ e) (not_either last true refl)

-- the run that a pending job comes to, and what is left of it
pub record NextRun (task : Task) (j : Job) : Type 0 where
  pub ticks : ℕ
  pub rest : List Step
  pub there : drop (next_run task j) task.steps ≡ run ticks ∷ rest
  pub from : 1 ≤ left_of_run task j
  pub to : left_of_run task j ≤ ticks

-- at a run it is that run, with what is left of it; at a lock it is the run behind the locks, with its full length left
module _ (m : ℕ) (task : Task) (j : Job) (τ : TaskLimits m task) where
  -- at a run: that run
  run_next : (n : ℕ) (rest : List Step) → ahead task j ≡ run n ∷ rest → within 1 n j.left ≡ true → NextRun task j
  unfolding ahead next_run left_of_run leading is_lock within
  run_next n rest at e =
      let none : leading is_lock (ahead task j) ≡ 0 = ap (leading is_lock) at in
      let here : next_run task j ≡ j.position = omega (arith, none) in
      let left : left_of_run task j ≡ j.left = rw (eq-eqb (next_run task j) j.position here) refl in
      record {
        ticks = n;
        rest = rest;
        there = ap (λ (k : ℕ). drop k task.steps) here ∙ at;
        from = omega (arith, left, leb-true 1 j.left (and_left (1 ≤? j.left) _ e));
        to = omega (arith, left, leb-true j.left n (and_right (1 ≤? j.left) _ e));
      }

  -- at a lock: the run behind the locks,
  behind_locks : (s : ℕ) (rest : List Step) → ahead task j ≡ lock s ∷ rest → (n : ℕ) × (more : List Step) × (drop (leading is_lock rest) rest ≡ run n ∷ more)
  unfolding ahead nests
  behind_locks s rest at =
      let h = held (take j.position task.steps) in
      let nested = ap (nests h (after_lock (take j.position task.steps))) (sym at) ∙ nests_on j.position task.steps τ.body in
      locks_run (s ∷ h) rest (omega arith) (and_right (not (among s h || 4 ≤? length h)) _ nested)

  -- of which the full length is left
  lock_next : (s n : ℕ) (rest more : List Step) → ahead task j ≡ lock s ∷ rest → drop (leading is_lock rest) rest ≡ run n ∷ more → NextRun task j
  unfolding ahead next_run left_of_run leading is_lock full
  lock_next s n rest more at run-there =
      let ahead_locks : leading is_lock (ahead task j) ≡ suc (leading is_lock rest) = ap (leading is_lock) at in
      let there : drop (next_run task j) task.steps ≡ run n ∷ more =
      sym (drop-drop (leading is_lock (ahead task j)) j.position task.steps)
      ∙ ap (λ (steps : List Step). drop (leading is_lock steps) steps) at
      ∙ run-there in
      let past : (next_run task j =? j.position) ≡ false = ne_eqb (next_run task j) j.position (λ e. omega (arith, ahead_locks)) in
      let left : left_of_run task j ≡ n = (rw past refl) ∙ ap full there in
      let ticks = (subst (All (StepLimits m)) there (all_drop (StepLimits m) (next_run task j) task.steps τ.steps)).0 in
      record { ticks = n; rest = more; there = there; from = omega (arith, left, ticks.0); to = omega (arith, left) }

  -- so from wherever a job stands well, it comes to a run
  pub next_run_lem : stands_well (ahead task j) j.left ≡ true → NextRun task j
  unfolding stands_well
  next_run_lem e = go (ahead task j) refl e
    where
      go : (steps : List Step) → ahead task j ≡ steps → stands_well steps j.left ≡ true → NextRun task j
      go [] at e = true_false false e refl
      go (run n ∷ steps) at e = run_next n steps at e
      go (lock s ∷ steps) at e = let r = behind_locks s steps at in lock_next s r.0 steps r.1 at r.2
      go (unlock s ∷ steps) at e = true_false false e refl

-- it goes on with that run where more than one tick is left
pub goes_on_well : (task : Task) (j : Job) → NextRun task j → 1 < left_of_run task j → stands_well (drop (next_run task j) task.steps) (left_of_run task j - 1) ≡ true
unfolding stands_well within
goes_on_well task j ν l =
    let left = left_of_run task j - 1 in
    ap (λ (steps : List Step). stands_well steps left) ν.there
    ∙ and_both (1 ≤? left) (left ≤? ν.ticks) (le-leb 1 left (omega arith)) (le-leb left ν.ticks (omega (arith, ν.to)))

-- a job that comes to steps stands well: a run's full length is left or, at a lock, 0
full_stands : (m : ℕ) (steps : List Step) → All (StepLimits m) steps → 1 ≤ length steps → leading is_unlock steps ≡ 0 → stands_well steps (full steps) ≡ true
unfolding stands_well full leading is_unlock within
full_stands m [] h l e = absurd (omega arith)
full_stands m (run n ∷ steps) h l e = and_both (1 ≤? n) (n ≤? n) (le-leb 1 n h.0.0) (le-leb n n (omega arith))
full_stands m (lock s ∷ steps) h l e = refl
full_stands m (unlock s ∷ steps) h l e = absurd (omega (arith, e))

-- to its first step: no body begins with an unlock
body_first : {outer : List ℕ} {steps : List Step} → Body outer steps → leading is_unlock steps ≡ 0
unfolding leading is_unlock
body_first end = refl
body_first (a_run β) = refl
body_first (a_section new few some β γ) = refl

-- so a job that starts stands well
pub begins_well : (m : ℕ) (task : Task) → TaskLimits m task → stands_well task.steps (full task.steps) ≡ true
begins_well m task τ = full_stands m task.steps τ.steps τ.steps_from (body_first τ.body)

-- to the step behind the unlocks that follow its run: there stands no more of them
no_more : (steps : List Step) → leading is_unlock (drop (leading is_unlock steps) steps) ≡ 0
unfolding leading is_unlock
no_more [] = refl
no_more (run n ∷ steps) = refl
no_more (lock s ∷ steps) = refl
no_more (unlock s ∷ steps) = no_more steps

-- so a job that comes to a next step stands well
pub comes_well : (m : ℕ) (task : Task) (j : Job) → TaskLimits m task → behind_unlocks task j < length task.steps
    → stands_well (drop (behind_unlocks task j) task.steps) (full (drop (behind_unlocks task j) task.steps)) ≡ true
unfolding behind_unlocks
comes_well m task j τ l =
    let steps = task.steps in
    let next = behind_unlocks task j in
    let rest = drop (next_run task j + 1) steps in
    full_stands m (drop next steps) (all_drop (StepLimits m) next steps τ.steps) (omega (arith, length-drop next steps))
    (ap (leading is_unlock) (sym (drop-drop (leading is_unlock rest) (next_run task j + 1) steps)) ∙ no_more rest)

-- what a job holds once it has passed some of the steps ahead: these on top of what it held
pub held_passed : (task : Task) (j : Job) (q : ℕ) → j.position ≤ q
    → held (take q task.steps) ≡ held_on_top (held (behind task j)) (take (q - j.position) (ahead task j))
unfolding held behind ahead
held_passed task j q l =
    let p = j.position in
    let steps = task.steps in
    let split : q ≡ p + (q - p) = omega arith in
    ap (λ (k : ℕ). held (take k steps)) split ∙ ap held (take-add p (q - p) steps) ∙ held_snoc [] (take p steps) (take (q - p) (drop p steps))

-- among unlocks stands no lock
unlocks_only : (s m : ℕ) (steps : List Step) → m ≤ leading is_unlock steps → any (is_lock_of s) (take m steps) ≡ false
unfolding any is_lock_of leading is_unlock
unlocks_only s zero steps l = refl
unlocks_only s (suc m) [] l = refl
unlocks_only s (suc m) (run n ∷ steps) l = absurd (omega arith)
unlocks_only s (suc m) (lock u ∷ steps) l = absurd (omega arith)
unlocks_only s (suc m) (unlock u ∷ steps) l = unlocks_only s m steps (omega arith)

-- so of locks, one more step and unlocks only the first part locks
locks_lead : (s m : ℕ) (steps : List Step) → m ≤ suc (leading is_lock steps + leading is_unlock (drop (suc (leading is_lock steps)) steps))
    → any (is_lock_of s) (take m steps) ≡ true → any (is_lock_of s) (take (leading is_lock steps) steps) ≡ true
unfolding any is_lock_of leading is_lock
locks_lead s zero steps l e = true_false false e refl
locks_lead s (suc m) [] l e = e
locks_lead s (suc m) (run n ∷ steps) l e = true_false (any (is_lock_of s) (take m steps)) e (unlocks_only s m steps (omega arith))
locks_lead s (suc m) (unlock u ∷ steps) l e = true_false (any (is_lock_of s) (take m steps)) e (unlocks_only s m steps (omega arith))
locks_lead s (suc m) (lock u ∷ steps) l e = ⊎_elim
    (λ v. rw v refl)
    (λ v. or_right (u =? s) _ (locks_lead s m steps (omega arith) v))
    (or_cases (u =? s) (any (is_lock_of s) (take m steps)) e)

-- what the runner locks on its way to a position in this tick, it takes
pub passed_takes : (task : Task) (j : Job) (q s : ℕ) → q ≤ behind_unlocks task j
    → any (is_lock_of s) (take (q - j.position) (ahead task j)) ≡ true → takes task j s ≡ true
unfolding behind_unlocks next_run takes ahead
passed_takes task j q s l e =
    let p = j.position in
    let steps = task.steps in
    let n = leading is_lock (drop p steps) in
    let further : drop (p + n + 1) steps ≡ drop (suc n) (drop p steps) =
    (let z : p + n + 1 ≡ p + suc n = omega arith in ap (λ (k : ℕ). drop k steps) z) ∙ sym (drop-drop (suc n) p steps) in
    locks_lead s (q - p) (drop p steps) (omega (arith, ap (leading is_unlock) further)) e

-- so the runner holds afterwards only what it held before or took
pub advanced_carries : (t : ℕ) (task : Task) (r : TaskRecord) (s : ℕ) → r.job.pending ≡ true
    → carries task (advanced t task r).job s ≡ true → (carries task r.job s ≡ true) ⊎ (takes task r.job s ≡ true)
unfolding carries behind behind_unlocks next_run
advanced_carries t task r s p =
    let j = r.job in
    let at : (q : ℕ) → j.position ≤ q → q ≤ behind_unlocks task j → among s (held (take q task.steps)) ≡ true → (carries task j s ≡ true) ⊎ (takes task j s ≡ true) =
    λ q from to e. ⊎_elim
    (λ u. inl (and_both j.pending _ p u))
    (λ u. inr (passed_takes task j q s to u))
    (held_locked s (held (behind task j)) (take (q - j.position) (ahead task j)) (sym (ap (among s) (held_passed task j q from)) ∙ e)) in
    advanced_cases (λ x. carries task x.job s ≡ true → (carries task j s ≡ true) ⊎ (takes task j s ≡ true)) t task r
    (λ l e. at (next_run task j) (omega arith) (omega arith) e)
    (λ l h e. at (behind_unlocks task j) (omega arith) (omega arith) e)
    (λ l h e. true_false false e refl)
