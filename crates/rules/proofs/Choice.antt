-- Laws of the choice: what is held is locked; a job that may not go is barred; who is in its way holds what bars it.
use Prim.Native.Nat.{ℕ, ◌≤◌, ◌<◌}
use mathlib.Core.Path.{◌≡◌, refl}
use mathlib.Core.Logic.{◌⊎◌, inl, inr, ⊎_elim}
use mathlib.Core.List.{List, [], ◌∷◌}
use mathlib.Core.Bool.{Bool, true, false, not, ◌&&◌, ◌||◌}
use lib.ListN.{take}
use borrow.Author.Tests.{ltb-false, le-leb, lt-leb}
use Rattle.std.specs.Prelude.{if◌then◌else◌}
use Rattle.rules.specs.Words.{◌<?◌, ◌≤?◌, ◌=?◌, ◌⇒◌, every, any, among}
use Rattle.rules.specs.Sheet.{Step, run, lock, unlock, Task, Sheet, task_at, is_lock, is_lock_of, without, held_on_top, held}
use Rattle.rules.specs.Record.{record_at, behind, carries, holds}
use Rattle.rules.specs.Choice.{locks, ceiling, at_run, fresh, goes, held_by_other, free_of_ceilings, may_go, in_the_way, next_candidate}
use Rattle.rules.specs.declared.Job.{Job}
use Rattle.rules.specs.declared.TaskRecord.{TaskRecord}
use Rattle.rules.proofs.Laws.{sure, true_false, and_left, and_right, or_cases, or_right, or_no, implied, implies_no, denied, someone, every_of, not_every, every_no, smallest_found, smallest_there, lightest, any_take}

-- what steps hold, they have a lock of
pub among_without : (s u : ℕ) (xs : List ℕ) → among s (without u xs) ≡ true → among s xs ≡ true
unfolding among any without
among_without s u [] e = e
among_without s u (x ∷ xs) e = go (x =? u) (among_without s u xs) e
  where
    go : (b : Bool) → (among s (without u xs) ≡ true → among s xs ≡ true) → among s (if b then without u xs else x ∷ without u xs) ≡ true → among s (x ∷ xs) ≡ true
    go true h e = or_right (x =? s) (among s xs) (h e)
    go false h e = ⊎_elim (λ v. rw v refl) (λ v. or_right (x =? s) (among s xs) (h v)) (or_cases (x =? s) (among s (without u xs)) e)

pub held_locked : (s : ℕ) (before : List ℕ) (steps : List Step) → among s (held_on_top before steps) ≡ true → (among s before ≡ true) ⊎ (any (is_lock_of s) steps ≡ true)
unfolding held_on_top any is_lock_of among
held_locked s before [] e = inl e
held_locked s before (run n ∷ steps) e = held_locked s before steps e
held_locked s before (unlock u ∷ steps) e = ⊎_elim (λ v. inl (among_without s u before v)) inr (held_locked s (without u before) steps e)
held_locked s before (lock u ∷ steps) e = ⊎_elim
    (λ v. ⊎_elim (λ w. inr (rw w refl)) inl (or_cases (u =? s) (among s before) v))
    (λ v. inr (or_right (u =? s) (any (is_lock_of s) steps) v))
    (held_locked s (u ∷ before) steps e)

pub carries_locks : (task : Task) (j : Job) (s : ℕ) → carries task j s ≡ true → locks task s ≡ true
unfolding carries locks held behind among any
carries_locks task j s e =
    any_take (is_lock_of s) j.position task.steps
    (⊎_elim (λ v. true_false false v refl) (λ v. v)
    (held_locked s [] (take j.position task.steps) (and_right j.pending (among s (held (behind task j))) e)))

pub holds_locks : (sheet : Sheet) (rs : List TaskRecord) (i s : ℕ) → holds sheet rs i s ≡ true → locks (task_at sheet i) s ≡ true
unfolding holds
holds_locks sheet rs i s e = carries_locks (task_at sheet i) (record_at rs i).job s e

-- a job that may not go is barred: another holds a semaphore whose ceiling it does not pass
pub record Barred (a : Sheet) (rs : List TaskRecord) (i w : ℕ) : Type 0 where
  pub number : w < 16
  pub other : held_by_other a rs i w ≡ true
  pub ceiled : ceiling a w ≤ i

not_free : (c f g : Bool) → (if c then f else (f || g)) ≡ false → f ≡ false
not_free true f g e = e
not_free false f g e = or_no f g e

pub barred : (a : Sheet) (rs : List TaskRecord) (i : ℕ) → may_go a rs i ≡ false → (w : ℕ) × Barred a rs i w
unfolding may_go goes free_of_ceilings
barred a rs i e =
    let j = (record_at rs i).job in
    let w = not_every 16 _ (not_free (a.mode =? 1 && fresh (task_at a i) j && any is_lock (task_at a i).steps) (free_of_ceilings a rs i) (at_run (task_at a i) j) e) in
    let d = denied (held_by_other a rs i w.0) (i <? ceiling a w.0) w.2 in
    (w.0, record { number = w.1; other = d.0; ceiled = ltb-false i (ceiling a w.0) d.1 })

-- the semaphore in the way is held by another and has the smallest ceiling
abbrev pub Lowest : Sheet → List TaskRecord → ℕ → ℕ → Bool
Lowest a rs i s = every 16 λ u. held_by_other a rs i u ⇒ ceiling a s ≤? ceiling a u

pub not_lowest : (a : Sheet) (rs : List TaskRecord) (i w s : ℕ) → Barred a rs i w → ceiling a w < ceiling a s → Lowest a rs i s ≡ false
not_lowest a rs i w s β l = every_no 16 _ w β.number (implies_no (held_by_other a rs i w) (ceiling a s ≤? ceiling a w) β.other (lt-leb (ceiling a s) (ceiling a w) l))

pub in_the_way_lem : (a : Sheet) (rs : List TaskRecord) (i w : ℕ) → Barred a rs i w
    → (held_by_other a rs i (in_the_way a rs i) && Lowest a rs i (in_the_way a rs i)) ≡ true
unfolding in_the_way
in_the_way_lem a rs i w β = ⊎_elim
    (λ z. smallest_there 16 255 (λ s. held_by_other a rs i s && Lowest a rs i s) z.0 z.1 (rw z.2 (every_of 16 _ (λ u l. ⊎_elim
    (λ e. implied (held_by_other a rs i u) _ (le-leb _ _ (z.3 u l e)))
    (λ e. rw e refl)
    (sure (held_by_other a rs i u))))))
    (λ h. true_false (held_by_other a rs i w) β.other (h w β.number))
    (lightest 16 (held_by_other a rs i) (ceiling a))

-- the next candidate holds it
pub next_holds : (a : Sheet) (rs : List TaskRecord) (i : ℕ) → may_go a rs i ≡ false
    → (next_candidate a rs i < 16) × (holds a rs (next_candidate a rs i) (in_the_way a rs i) ≡ true)
unfolding next_candidate held_by_other
next_holds a rs i e =
    let β = barred a rs i e in
    let s = in_the_way a rs i in
    let j = next_candidate a rs i in
    let z = someone 16 (λ j. not (j =? i) && holds a rs j s) (and_left (held_by_other a rs i s) (Lowest a rs i s) (in_the_way_lem a rs i β.0 β.1)) in
    ⊎_elim
    (λ w. (w.0, and_right (not (j =? i)) (holds a rs j s) w.1))
    (λ w. true_false (not (z.0 =? i) && holds a rs z.0 s) z.2 (w.1 z.0 z.1))
    (smallest_found 16 255 (λ j. not (j =? i) && holds a rs j s))
