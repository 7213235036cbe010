-- W6. The name says what gives the bound: a counted section that attains it, the first by rank and then by step; and nothing
-- where none is counted.
use Prim.Native.Nat.{ℕ, zero, suc, ◌≤◌, ◌<◌}
use mathlib.Core.Path.{◌≡◌, refl, sym, ap, ap₂, ◌∙◌, subst}
use mathlib.Core.Logic.{◌⊎◌, inl, inr, ⊎_elim}
use mathlib.Core.List.{List, [], ◌∷◌}
use mathlib.Core.Bool.{Bool, true, false}
use native.Mathlib.Omega.{arith}
use borrow.Author.Tests.{eqb-true, eq-eqb, ne_eqb}
use lib.ListN.{length, drop, get_or-eq_default}
use Rattle.std.specs.Prelude.{Option, Some, None, if◌then◌else◌}
use Rattle.rules.specs.Words.{◌<?◌, ◌≤?◌, ◌=?◌, some, smallest, largest}
use Rattle.rules.specs.Sheet.{Step, Task, Sheet, no_task, task_at}
use Rattle.rules.specs.Reading.{read, read_sheet}
use Rattle.rules.specs.Choice.{ceiling}
use Rattle.rules.specs.Bounds.{section_length, begins, steps_from, is_counted, counted_length, bound, gives, bound_by, section}
use Rattle.rules.specs.Laws.{GivenBy, GivenByNothing, Gives, NamesWhatGives}
use Rattle.rules.specs.declared.Section.{Section}
use Rattle.rules.proofs.Laws.{sure, below, true_false, and_left, and_right, and_both, some_of, someone, smallest_found, smallest_le, smallest_there, largest_at, largest_there}
use Rattle.rules.proofs.Limits.{accepted_within_limits}

-- where a section begins, there is a step
begins_inside : (test : ℕ → Bool) (k : ℕ) (steps : List Step) → begins test (drop k steps) ≡ true → k < length steps
unfolding begins
begins_inside test zero [] e = true_false false e refl
begins_inside test zero (x ∷ steps) e = omega arith
begins_inside test (suc k) [] e = true_false false e refl
begins_inside test (suc k) (x ∷ steps) e = omega (arith, begins_inside test k steps e)

-- A sheet whose counted sections are those of its at most sixteen tasks of at most 64 steps.
module _ (sheet : Sheet) (i : ℕ) (inside : (j k : ℕ) → is_counted sheet i j k ≡ true → (j < 16) × (k < 64)) where
  abbrev long : (j k : ℕ) → ℕ
  long j k = section_length (steps_from sheet j k)

  abbrev longest_of : (j : ℕ) → ℕ
  longest_of j = largest 64 λ k. counted_length sheet i j k

  abbrev it : (j k : ℕ) → Bool
  it = gives sheet i (bound sheet i)

  -- one that attains the bound gives it, and only such a one
  attains : (j k : ℕ) → is_counted sheet i j k ≡ true → long j k ≡ bound sheet i → it j k ≡ true
  unfolding gives
  attains j k e l = and_both _ _ e (eq-eqb (long j k) (bound sheet i) l)

  is_counted_lem : (j k : ℕ) → it j k ≡ true → is_counted sheet i j k ≡ true
  unfolding gives
  is_counted_lem j k e = and_left _ _ e

  is_long : (j k : ℕ) → it j k ≡ true → long j k ≡ bound sheet i
  unfolding gives
  is_long j k e = eqb-true (long j k) (bound sheet i) (and_right (is_counted sheet i j k) (long j k =? bound sheet i) e)

  -- its length, where it is counted, and no counted section is longer
  length_is : (j k : ℕ) (b : Bool) → is_counted sheet i j k ≡ b → counted_length sheet i j k ≡ (if b then long j k else 0)
  unfolding counted_length
  length_is j k b e = rw e refl

  no_longer : (j k : ℕ) → is_counted sheet i j k ≡ true → long j k ≤ bound sheet i
  unfolding bound
  no_longer j k e =
      let w = inside j k e in
      omega (arith, length_is j k true e, largest_at 16 longest_of j w.0, largest_at 64 (counted_length sheet i j) k w.1)

  -- a bound above 0 is attained
  above_zero : 1 ≤ bound sheet i → (j : ℕ) × (k : ℕ) × (it j k ≡ true)
  unfolding bound
  above_zero l =
      let w = largest_there 16 longest_of l in
      let v = largest_there 64 (counted_length sheet i w.0) (omega (arith, w.2)) in
      (w.0, v.0, go w.0 v.0 (v.2 ∙ w.2) (sure (is_counted sheet i w.0 v.0)))
    where
      go : (j k : ℕ) → counted_length sheet i j k ≡ bound sheet i → (is_counted sheet i j k ≡ true) ⊎ (is_counted sheet i j k ≡ false) → it j k ≡ true
      go j k e (inl c) = attains j k c (sym (length_is j k true c) ∙ e)
      go j k e (inr c) = absurd (omega (arith, length_is j k false c))

  -- where one is counted, one gives the bound
  someone_gives : (j k : ℕ) → is_counted sheet i j k ≡ true → (j : ℕ) × (k : ℕ) × (it j k ≡ true)
  someone_gives j k e = ⊎_elim
      (λ l. above_zero l)
      (λ l. (j, k, attains j k e (omega (arith, no_longer j k e))))
      (below 0 (bound sheet i))

  abbrev rank : ℕ
  rank = smallest 16 255 λ j. some 64 (it j)

  abbrev step : ℕ
  step = smallest 64 255 (it rank)

  some_step : (j k : ℕ) → it j k ≡ true → some 64 (it j) ≡ true
  some_step j k e = some_of 64 (it j) k (inside j k (is_counted_lem j k e)).1 e

  -- the first that gives it
  first : some 64 (it rank) ≡ true → GivenBy sheet i rank step
  first e =
      let w = someone 64 (it rank) e in
      let s = smallest_there 64 255 (it rank) w.0 w.1 w.2 in
      record {
        counted = is_counted_lem rank step s;
        length = is_long rank step s;
        longest = no_longer;
        rank = λ j k c l. smallest_le 16 255 (λ j. some 64 (it j)) j (inside j k c).0 (some_step j k (attains j k c l));
        step = λ k c l. smallest_le 64 255 (it rank) k (inside rank k c).1 (attains rank k c l);
      }

  nothing : ((j : ℕ) → j < 16 → some 64 (it j) ≡ false) → GivenByNothing sheet i
  nothing h = record {
    none = λ j k. ⊎_elim (λ e. let w = someone_gives j k e in deny w.0 w.1 w.2) (λ e. e) (sure (is_counted sheet i j k));
    zero = ⊎_elim (λ l. let w = above_zero l in deny w.0 w.1 w.2) (λ l. omega arith) (below 0 (bound sheet i));
  }
    where
      deny : {A : Type 0} (j k : ℕ) → it j k ≡ true → A
      deny j k e = true_false (some 64 (it j)) (some_step j k e) (h j (inside j k (is_counted_lem j k e)).0)

  named : Gives sheet i (bound_by sheet i)
  unfolding bound_by
  named = ⊎_elim
      (λ w. subst (λ (b : Bool). Gives sheet i (if b then None else Some (section rank step))) (sym (ne_eqb rank 255 (λ z. omega (arith, w.0)))) (first w.1))
      (λ w. subst (λ (b : Bool). Gives sheet i (if b then None else Some (section rank step))) (sym (eq-eqb rank 255 w.0)) (nothing w.1))
      (smallest_found 16 255 (λ j. some 64 (it j)))

  -- two names that say so are one
  same_rank : (j k r s : ℕ) → GivenBy sheet i j k → GivenBy sheet i r s → j ≤ r
  same_rank j k r s a b = a.rank r s b.counted b.length

  same_step : (j k r s : ℕ) → r ≡ j → GivenBy sheet i j k → GivenBy sheet i r s → k ≤ s
  same_step j k r s e a b = a.step s
      (ap (λ (x : ℕ). is_counted sheet i x s) (sym e) ∙ b.counted)
      (ap (λ (x : ℕ). long x s) (sym e) ∙ b.length)

  only_one : (x y : Option Section) → Gives sheet i x → Gives sheet i y → x ≡ y
  only_one (Some x) (Some y) a b =
      let e : x.rank ≡ y.rank = omega (arith, same_rank x.rank x.step y.rank y.step a b, same_rank y.rank y.step x.rank x.step b a) in
      ap Some (ap₂ section e (omega (arith, same_step x.rank x.step y.rank y.step (sym e) a b, same_step y.rank y.step x.rank x.step e b a)))
  only_one (Some x) None a b = true_false _ a.counted (b.none x.rank x.step)
  only_one None (Some y) a b = true_false _ b.counted (a.none y.rank y.step)
  only_one None None a b = refl

-- an accepted sheet is such a one
module _ (bytes : List ℕ) (sheet : Sheet) (e : read_sheet bytes ≡ read sheet) where
  few : (j k : ℕ) → k < length (task_at sheet j).steps → (j < 16) × (k < 64)
  unfolding task_at
  few j k l =
      let limits = accepted_within_limits bytes sheet e in
      ⊎_elim
      (λ m. (omega (arith, limits.tasks_to), omega (arith, (limits.each j m).steps_to)))
      (λ m. absurd (omega (arith, ap (λ (t : Task). length t.steps) (get_or-eq_default sheet.tasks no_task m))))
      (below j (length sheet.tasks))

  counted_few : (i j k : ℕ) → is_counted sheet i j k ≡ true → (j < 16) × (k < 64)
  unfolding is_counted steps_from
  counted_few i j k c =
      let low : ℕ → Bool = λ s. ceiling sheet s ≤? i in
      few j k (begins_inside low k (task_at sheet j).steps (and_right (i <? j) (begins low (drop k (task_at sheet j).steps)) c))

pub names_what_gives : NamesWhatGives
names_what_gives bytes sheet e i x =
    let inside = counted_few bytes sheet e i in (
      (λ w. subst (λ (y : Option Section). Gives sheet i y) w (named sheet i inside)),
      (λ g. only_one sheet i inside (bound_by sheet i) x (named sheet i inside) g),
    )
