-- By computation of A and its like.
use Prim.Native.Nat.{ℕ, zero, suc, ◌<◌}
use mathlib.Core.Path.{◌≡◌, refl, sym, ap}
use mathlib.Core.Logic.{⊎_elim}
use mathlib.Core.List.{List, [], ◌∷◌, ◌++◌}
use mathlib.Core.Bool.{true, false}
use native.Mathlib.Omega.{arith}
use lib.ListN.{take}
use borrow.Author.Tests.{eqb-true}
use Rattle.rules.specs.Words.{◌=?◌, any}
use Rattle.rules.specs.Sheet.{Task, Sheet, run, lock, unlock, task_at, is_lock_of}
use Rattle.rules.specs.Choice.{locks}
use Rattle.rules.specs.Cases.{head_bytes, tasksA, A, A2, A3}
use Rattle.rules.specs.declared.TaskRecord.{TaskRecord}
use Rattle.rules.proofs.Laws.{true_false, or_cases}
use Rattle.rules.proofs.Open.{rules}
use Rattle.theorems.specs.Demand3.{Accepted, SameFirst, NoLowerLocks, Premises}
use Rattle.theorems.specs.Needed.{WithLocks, WithModes, WithSwitches, Needed}

abbrev task0 : Task
task0 = record { period = 10; offset = 2; steps = run 1 ∷ lock 0 ∷ run 1 ∷ unlock 0 ∷ [] }

abbrev task1 : Task
task1 = record { period = 20; offset = 0; steps = run 1 ∷ lock 0 ∷ run 3 ∷ unlock 0 ∷ run 1 ∷ [] }

abbrev task2 : Task
task2 = record { period = 20; offset = 0; steps = lock 1 ∷ run 2 ∷ unlock 1 ∷ [] }

-- A, in a mode
abbrev pub sheetA : (mode : ℕ) → Sheet
sheetA mode = record { mode = mode; semaphores = 1; tasks = task0 ∷ task1 ∷ [] }

abbrev sheetA3 : Sheet
sheetA3 = record { mode = 0; semaphores = 2; tasks = task0 ∷ task1 ∷ task2 ∷ [] }

-- A's rank 0 alone
abbrev alone : Sheet
alone = record { mode = 0; semaphores = 1; tasks = task0 ∷ [] }

abbrev bytes_alone : List ℕ
bytes_alone = head_bytes 1 1 0 ++ take 17 tasksA

pub readsA : Accepted A.sheet (sheetA 0)
unfolding rules
readsA = refl

-- no task stands below A's two
apartA : (mode : ℕ) → NoLowerLocks 2 (sheetA mode)
unfolding task_at locks any
apartA mode i zero s l m e = absurd (omega arith)
apartA mode i (suc zero) s l m e = absurd (omega arith)
apartA mode i (suc (suc j)) s l m e = refl

-- ranks 0 and 1 lock semaphore 0 only
only0 : (i s : ℕ) → i < 2 → locks (task_at sheetA3 i) s ≡ true → 0 ≡ s
unfolding task_at locks any is_lock_of
only0 zero s l e = ⊎_elim (λ u. eqb-true 0 s u) (λ u. true_false false u refl) (or_cases (0 =? s) false e)
only0 (suc zero) s l e = ⊎_elim (λ u. eqb-true 0 s u) (λ u. true_false false u refl) (or_cases (0 =? s) false e)
only0 (suc (suc i)) s l e = absurd (omega arith)

apartA3 : NoLowerLocks 2 sheetA3
unfolding task_at locks any is_lock_of
apartA3 i zero s l m e = absurd (omega arith)
apartA3 i (suc zero) s l m e = absurd (omega arith)
apartA3 i (suc (suc zero)) s l m e = rw (sym (only0 i s l e)) refl
apartA3 i (suc (suc (suc j))) s l m e = refl

A-and-A3 : Premises 2 A.sheet A3.sheet (sheetA 0) sheetA3
unfolding rules
A-and-A3 = record {
  first = record { accepted = refl; accepted' = refl; at_least_one = omega arith; present = omega arith; present' = omega arith; identical = refl };
  mode = refl;
  apart = apartA 0;
  apart' = apartA3;
}

A-and-A2 : SameFirst 2 A.sheet A2.sheet (sheetA 0) (sheetA 1)
unfolding rules
A-and-A2 = record { accepted = refl; accepted' = refl; at_least_one = omega arith; present = omega arith; present' = omega arith; identical = refl }

-- nor below its rank 0 alone
apart_alone : NoLowerLocks 1 alone
unfolding task_at locks any
apart_alone i zero s l m e = absurd (omega arith)
apart_alone i (suc j) s l m e = refl

alone_and_A : SameFirst 1 bytes_alone A.sheet alone (sheetA 0)
unfolding rules
alone_and_A = record { accepted = refl; accepted' = refl; at_least_one = omega arith; present = omega arith; present' = omega arith; identical = refl }

-- alone, rank 0 has its first response after 2 ticks; in A it is blocked, and has it after 4
locks_needed : WithLocks → ⊥
unfolding rules
locks_needed demand =
    let same = demand 1 bytes_alone A.sheet alone (sheetA 0) alone_and_A refl apart_alone 10 (omega arith) 0 (omega arith) in
    let worst : ◌≡◌ {A = ℕ} 2 4 = ap (λ (r : TaskRecord). r.counts.worst) same in
    omega arith

-- the preemption rule keeps rank 0 from running at tick 2
modes_needed : WithModes → ⊥
unfolding rules
modes_needed demand =
    let same = demand 2 A.sheet A2.sheet (sheetA 0) (sheetA 1) A-and-A2 (apartA 0) (apartA 1) 3 (omega arith) 0 (omega arith) in
    let ran : ◌≡◌ {A = ℕ} 1 0 = ap (λ (r : TaskRecord). r.counts.ran) same in
    omega arith

switches_differ : WithSwitches → ⊥
unfolding rules
switches_differ demand =
    let same : ◌≡◌ {A = ℕ} 5 6 = demand 2 A.sheet A3.sheet (sheetA 0) sheetA3 A-and-A3 10 (omega arith) in
    omega arith

pub needed : Needed
needed = record { met = (sheetA 0, sheetA3, A-and-A3); locks = locks_needed; modes = modes_needed; switches = switches_differ }
