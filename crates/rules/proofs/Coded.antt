-- The tie of answers in code loses nothing: each part of it has a way back.
use Prim.Native.Nat.{ℕ, ◌+◌, ◌-◌, ◌≤◌, ◌<◌}
use mathlib.Core.Path.{◌≡◌, refl, sym, ap, ◌∙◌}
use mathlib.Core.Logic.{⊎_elim}
use native.Mathlib.Omega.{arith}
use borrow.Author.Tests.{lt-ltb, le-ltb, ne_eqb}
use Rattle.std.specs.Prelude.{Result, Ok, Err, if◌then◌else◌}
use Rattle.rules.specs.Words.{◌<?◌, ◌=?◌}
use Rattle.rules.specs.Reading.{Numbers}
use Rattle.rules.specs.Choice.{runner_byte}
use Rattle.rules.specs.Answers.{Checked, Told}
use Rattle.rules.specs.Coded.{numbers, said, field, checked, ceilings_in, bounds_in, laxities_in, told_byte, told_in, ticked_in, ran_in}
use Rattle.rules.specs.Laws.{LosesNothing, TieLosesNothing, RefusedAreZero}
use Rattle.rules.specs.declared.Head.{Head}
use Rattle.rules.specs.declared.Runner.{Runner}
use Rattle.rules.specs.declared.Runner.TheVariants.{Rank, Stuck, Idle}
use Rattle.rules.specs.declared.Refusal.{Refusal}
use Rattle.rules.specs.declared.Refusal.TheVariants.{Short, Mark, Version, TaskCount, SemaphoreCount, Mode, Cut, Period, Offset, StepCount, UnknownStep, Nesting, BytesLeft, Horizon, Buffer, Impossible, Ended}
use Rattle.rules.proofs.Laws.{below}

-- what has a way back loses nothing
kept : {A B : Type 0} (tie : A → B) (back : B → A) → ((x : A) → back (tie x) ≡ x) → LosesNothing tie
kept tie back same one other e = sym (same one) ∙ ap back e ∙ same other

-- an answer from the numbers of its refusal and its other fields
answer_of : {A : Type 0} → Numbers → A → Result A Refusal
answer_of x a =
    if x.number =? 0 then Ok a else
    if x.number =? 1 then Err Short else
    if x.number =? 2 then Err Mark else
    if x.number =? 3 then Err Version else
    if x.number =? 4 then Err TaskCount else
    if x.number =? 5 then Err SemaphoreCount else
    if x.number =? 6 then Err Mode else
    if x.number =? 7 then Err (Cut x.rank) else
    if x.number =? 8 then Err (Period x.rank) else
    if x.number =? 9 then Err (Offset x.rank) else
    if x.number =? 10 then Err (StepCount x.rank) else
    if x.number =? 11 then Err (UnknownStep x.rank x.step) else
    if x.number =? 12 then Err (Nesting x.rank x.step) else
    if x.number =? 13 then Err BytesLeft else
    if x.number =? 14 then Err Horizon else
    if x.number =? 15 then Err Buffer else
    if x.number =? 16 then Err Impossible else
    Err Ended

went_back : {A : Type 0} (x : Numbers) (a : A) → x.number ≡ 0 → answer_of x a ≡ Ok a
unfolding answer_of
went_back x a z = rw z refl

away_back : {A : Type 0} (x : Refusal) (a : A) → answer_of (numbers x) a ≡ Err x
unfolding answer_of
away_back Short a = refl
away_back Mark a = refl
away_back Version a = refl
away_back TaskCount a = refl
away_back SemaphoreCount a = refl
away_back Mode a = refl
away_back (Cut rank) a = refl
away_back (Period rank) a = refl
away_back (Offset rank) a = refl
away_back (StepCount rank) a = refl
away_back (UnknownStep rank step) a = refl
away_back (Nesting rank step) a = refl
away_back BytesLeft a = refl
away_back Horizon a = refl
away_back Buffer a = refl
away_back Impossible a = refl
away_back Ended a = refl

numbered : (x : Refusal) → 1 ≤ (numbers x).number
numbered x = ⊎_elim
    (λ (l : (numbers x).number < 1).
    let z : ◌≡◌ {A = Result ℕ Refusal} (Ok 0) (Err x) = sym (went_back (numbers x) 0 (omega arith)) ∙ away_back x 0 in
    absurd (let e : ◌≡◌ {A = ℕ} 0 1 = cc in omega arith))
    (λ (l : 1 ≤ (numbers x).number). l)
    (below (numbers x).number 1)

different : LosesNothing numbers
different one other e =
    let z : ◌≡◌ {A = Result ℕ Refusal} (Err one) (Err other) = sym (away_back one 0) ∙ ap (λ x. answer_of x 0) e ∙ away_back other 0 in cc

answer_back : {A : Type 0} (other : A) (r : Result A Refusal) → answer_of (said r) (field other (λ a. a) r) ≡ r
answer_back other (Ok a) = went_back _ a refl
answer_back other (Err x) = away_back x other

check_of : Checked → Result Head Refusal
check_of c = answer_of c.refusal (record { n = c.tasks; semaphores = c.semaphores; mode = c.mode })

check_back : (r : Result Head Refusal) → check_of (checked r) ≡ r
unfolding check_of
check_back (Ok h) = went_back _ _ refl
check_back (Err x) = away_back x _

-- who ran
runner_from : ℕ → Runner
runner_from byte =
    if byte <? 254 then Rank byte else
    if byte =? 254 then Stuck else
    if byte =? 255 then Idle else
    Rank (byte - 2)

told_below : (i : ℕ) → i < 254 → told_byte (Rank i) ≡ i
told_below i l = rw (lt-ltb i 254 l) refl

told_past : (i : ℕ) → 254 ≤ i → told_byte (Rank i) ≡ i + 2
told_past i l = rw (le-ltb i 254 l) refl

runner_back : (x : Runner) → runner_from (told_byte x) ≡ x
unfolding runner_from
runner_back (Rank i) = ⊎_elim
    (λ (l : i < 254). rw (told_below i l, lt-ltb i 254 l) refl)
    (λ (l : 254 ≤ i).
    let past : i + 2 - 2 ≡ i = omega arith in
    rw (told_past i l, le-ltb (i + 2) 254 (omega arith), ne_eqb (i + 2) 254 (λ z. omega arith), ne_eqb (i + 2) 255 (λ z. omega arith), past) refl)
    (below i 254)
runner_back Stuck = refl
runner_back Idle = refl

by_byte : (x : Runner) → ((i : ℕ) → x ≡ Rank i → i < 254) → told_byte x ≡ runner_byte x
unfolding runner_byte
by_byte (Rank i) l = told_below i (l i refl)
by_byte Stuck l = refl
by_byte Idle l = refl

told_of : Told → Result Runner Refusal
told_of r = answer_of r.refusal (runner_from r.runner)

told_back : (r : Result Runner Refusal) → told_of (told_in r) ≡ r
unfolding told_of
told_back (Ok x) = ap (answer_of (said (Ok x))) (runner_back x) ∙ went_back _ x refl
told_back (Err x) = away_back x _

pub tie_loses_nothing : TieLosesNothing
tie_loses_nothing = record {
  some = numbered;
  of_refusals = different;
  of_check = kept checked check_of check_back;
  of_ceilings = kept ceilings_in (λ r. answer_of r.refusal r.ceilings) (answer_back _);
  of_bounds = kept bounds_in (λ r. answer_of r.refusal r.bounds) (answer_back _);
  of_laxities = kept laxities_in (λ r. answer_of r.refusal r.laxities) (answer_back _);
  of_runners = kept told_byte runner_from runner_back;
  runner = by_byte;
  of_told = kept told_in told_of told_back;
  of_tick = kept ticked_in (λ r. record { told = told_of r.told; state = r.state }) (λ a. ap (λ r. record { told = r; state = a.state }) (told_back a.told));
  of_run = kept ran_in (λ r. answer_of r.refusal r.state) (answer_back _);
}

pub refused_are_zero : RefusedAreZero
refused_are_zero = record {
  of_check = λ x. refl;
  of_ceilings = λ x. refl;
  of_bounds = λ x. refl;
  of_laxities = λ x. refl;
  of_told = λ x. refl;
  of_run = λ x. refl;
}
