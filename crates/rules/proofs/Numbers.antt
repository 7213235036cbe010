-- Every refusal has a number and its place: so it is of each test, and of tests in turn. 0 says that the call went through.
use Prim.Native.Nat.{ℕ, zero, suc, ◌+◌, ◌≤◌, ◌<◌}
use mathlib.Core.Path.{◌≡◌, refl}
use mathlib.Core.Logic.{◌⊎◌, ⊎_elim}
use mathlib.Core.List.{List, [], ◌∷◌, ◌++◌}
use mathlib.Core.Bool.{Bool, true, false, ◌&&◌}
use native.Mathlib.Omega.{arith}
use lib.ListN.{length, drop, length-append}
use borrow.Author.Tests.{leb-true}
use Rattle.rules.specs.Words.{◌≤?◌}
use Rattle.rules.specs.Sheet.{Step}
use Rattle.rules.specs.Reading.{Reading, read, refused, refusal, ◌>>=◌, refuse◌of◌at◌when◌, read_head, head_length, read_task_head, read_step, read_steps, read_task, read_tasks, read_sheet}
use Rattle.rules.specs.Laws.{Given, Numbered, RefusalsGiven}
use Rattle.rules.specs.Answers.{why, read_tick, read_run}
use Rattle.rules.specs.declared.Head.{Head}
use Rattle.rules.specs.declared.State.{State}
use Rattle.rules.proofs.Laws.{and_left, and_right}
use Rattle.rules.proofs.Reading.{head_passed, task_head_passed}

given_bind : {A B : Type 0} (r : Reading A) (f : A → Reading B) → Numbered r → ((a : A) → Numbered (f a)) → Numbered (r >>= f)
unfolding ◌>>=◌
given_bind (read a) f g h = h a
given_bind (refused x) f g h = g

-- the same, with what was read at hand
given_read : {A B : Type 0} (r : Reading A) (f : A → Reading B) → Numbered r
    → ((a : A) → r ≡ read a → Numbered (f a)) → Numbered (r >>= f)
unfolding ◌>>=◌
given_read (read a) f g h = h a refl
given_read (refused x) f g h = g

given_test : {B : Type 0} (number rank step : ℕ) (test : Bool) (rest : Reading B) → Given (refusal number rank step) → (test ≡ false → Numbered rest)
    → Numbered (refuse◌of◌at◌when◌ number rank step test >>= λ passed. rest)
unfolding ◌>>=◌ refuse◌of◌at◌when◌
given_test number rank step true rest g h = g
given_test number rank step false rest g h = h refl

from_to : (low high x : ℕ) → (low ≤? x && x ≤? high) ≡ true → (low ≤ x) × (x ≤ high)
from_to low high x e = (leb-true low x (and_left (low ≤? x) (x ≤? high) e), leb-true x high (and_right (low ≤? x) (x ≤? high) e))

neither : (low high x : ℕ) → (low ≤ x) × (x ≤ high) → (x < low) ⊎ (high < x) → ⊥
neither low high x l u = ⊎_elim (λ v. omega arith) (λ v. omega arith) u

-- the three kinds: of a step, of a task, of the whole
of_step : (number rank step : ℕ) → (11 ≤? number && number ≤? 12) ≡ true → rank < 16 → step ≤ 64 → Given (refusal number rank step)
of_step number rank step e r s = let l = from_to 11 12 number e in record {
  some = omega arith;
  number = omega arith;
  rank = λ u. absurd (neither 7 12 number (omega arith, l.1) u);
  rank_to = r;
  step = λ u. absurd (neither 11 12 number l u);
  step_to = s;
}

of_task : (number rank : ℕ) → (7 ≤? number && number ≤? 12) ≡ true → rank < 16 → Given (refusal number rank 0)
of_task number rank e r = let l = from_to 7 12 number e in record {
  some = omega arith;
  number = omega arith;
  rank = λ u. absurd (neither 7 12 number l u);
  rank_to = r;
  step = λ u. refl;
  step_to = omega arith;
}

of_whole : (number : ℕ) → (1 ≤? number && number ≤? 17) ≡ true → Given (refusal number 0 0)
of_whole number e = let l = from_to 1 17 number e in record {
  some = l.0;
  number = l.1;
  rank = λ u. refl;
  rank_to = omega arith;
  step = λ u. refl;
  step_to = omega arith;
}

steps_numbered : (m i n : ℕ) (before : List Step) (bytes : List ℕ) → i < 16 → length before + n ≤ 64 → Numbered (read_steps m i n before bytes)
unfolding read_steps read_step
steps_numbered m i zero before bytes l h = given_test 12 i (length before) _ _ (of_step 12 i _ refl l (omega arith)) (λ u. tt)
steps_numbered m i (suc n) before bytes l h = given_bind (read_step m i before bytes) _
    (given_test 11 i (length before) _ _ (of_step 11 i _ refl l (omega arith)) λ u.
    given_test 12 i (length before) _ _ (of_step 12 i _ refl l (omega arith)) λ v. tt)
    (λ x. steps_numbered m i n (before ++ (x ∷ [])) (drop 3 bytes) l (omega (arith, length-append before (x ∷ []))))

task_numbered : (head : Head) (i : ℕ) (bytes : List ℕ) → i < 16 → Numbered (read_task head i bytes)
unfolding read_task read_task_head
task_numbered head i bytes l = given_read (read_task_head head i bytes) _
    (given_test 7 i 0 _ _ (of_task 7 i refl l) λ u.
    given_test 8 i 0 _ _ (of_task 8 i refl l) λ u.
    given_test 9 i 0 _ _ (of_task 9 i refl l) λ u.
    given_test 10 i 0 _ _ (of_task 10 i refl l) λ u.
    given_test 7 i 0 _ _ (of_task 7 i refl l) λ u. tt)
    (λ own e.
    let few = (task_head_passed head i bytes own e).count_to in
    let rest = drop (head_length head) bytes in
    given_bind (read_steps head.semaphores i own.count [] rest) _
    (steps_numbered head.semaphores i own.count [] rest l (omega arith)) (λ steps. tt))

tasks_numbered : (head : Head) (i n : ℕ) (bytes : List ℕ) → i + n ≤ 16 → Numbered (read_tasks head i n bytes)
unfolding read_tasks
tasks_numbered head i zero bytes l = tt
tasks_numbered head i (suc n) bytes l =
    given_bind (read_task head i bytes) _ (task_numbered head i bytes (omega arith))
    (λ one. given_bind (read_tasks head (i + 1) n one.1) _ (tasks_numbered head (i + 1) n one.1 (omega arith)) (λ more. tt))

sheet_numbered : (bytes : List ℕ) → Numbered (read_sheet bytes)
unfolding read_sheet read_head
sheet_numbered bytes = given_read (read_head bytes) _
    (given_test 1 0 0 _ _ (of_whole 1 refl) λ u.
    given_test 2 0 0 _ _ (of_whole 2 refl) λ u.
    given_test 3 0 0 _ _ (of_whole 3 refl) λ u.
    given_test 4 0 0 _ _ (of_whole 4 refl) λ u.
    given_test 5 0 0 _ _ (of_whole 5 refl) λ u.
    given_test 6 0 0 _ _ (of_whole 6 refl) λ u. tt)
    (λ head e. given_bind (read_tasks head 0 head.n (drop 8 bytes)) _
    (tasks_numbered head 0 head.n (drop 8 bytes) (omega (arith, (head_passed bytes head e).few)))
    (λ tasks. given_test 13 0 0 _ _ (of_whole 13 refl) λ u. tt))

tick_numbered : (bytes : List ℕ) (st : State) → Numbered (read_tick bytes st)
unfolding read_tick
tick_numbered bytes st = given_bind (read_sheet bytes) _ (sheet_numbered bytes) λ sheet.
    given_test 16 0 0 _ _ (of_whole 16 refl) λ u.
    given_test 17 0 0 _ _ (of_whole 17 refl) λ u. tt

run_numbered : (bytes : List ℕ) (horizon : ℕ) (buffer : List ℕ) → Numbered (read_run bytes horizon buffer)
unfolding read_run
run_numbered bytes horizon buffer = given_bind (read_sheet bytes) _ (sheet_numbered bytes) λ sheet.
    given_test 14 0 0 _ _ (of_whole 14 refl) λ u.
    given_test 15 0 0 _ _ (of_whole 15 refl) λ u. tt

-- THE LAW: every refusal is as document 01 says
pub refusals_given : RefusalsGiven
refusals_given = record { of_sheet = sheet_numbered; of_tick = tick_numbered; of_run = run_numbered }

-- a call that gives number 0 was read
pub was_read : {A : Type 0} (r : Reading A) → Numbered r → (why r).number ≡ 0 → (a : A) × (r ≡ read a)
unfolding why
was_read (read a) p e = (a, refl)
was_read (refused x) p e = absurd (omega arith)
