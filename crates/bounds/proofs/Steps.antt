-- Laws of runs: the sum of the ticks of steps, and of those inside a section.
use Rattle.std.proofs.Common.{ℕ, zero, suc, ◌+◌, ◌-◌, ◌*◌, ◌≤◌, ◌<◌, ◌≡◌, refl, sym, ap, ◌∙◌, List, [], ◌∷◌, Bool, true, false, not, length, drop, map, sum_by, take, unwrap_or, take_while, arith, if◌then◌else◌, zero-add, Option, Some, None}
use Rattle.std.specs.List.{position_or_len}
use Rattle.std.proofs.lemmas.List.{length-map, drop-map, length-drop, take_all}
use Rattle.std.proofs.lemmas.List.Sums.{sum_by-cons, take_while-cons, prefix_len-le-length}
use borrow.Author.Tests.{ltb-false}
use Rattle.rules.specs.Words.{◌=?◌, ◌<?◌}
use Rattle.rules.specs.Sheet.{Step as Rules·Step, run, lock, unlock}
use Rattle.rules.specs.Choice.{full}
use Rattle.rules.specs.Bounds.{runs, inside}
use Rattle.rules.specs.Laws.{All, StepLimits}
use Rattle.rules.proofs.Laws.{if_cases}
use Rattle.table.specs.Steps.{said}

-- a step runs 1,000 ticks at most
pub runs_few : (m : ℕ) (steps : List Rules·Step) → All (StepLimits m) steps → runs steps ≤ 1000 * length steps
unfolding runs
runs_few m [] α = omega arith
runs_few m (run n ∷ steps) α = omega (arith, runs_few m steps α.1, α.0.1)
runs_few m (lock s ∷ steps) α = omega (arith, runs_few m steps α.1)
runs_few m (unlock s ∷ steps) α = omega (arith, runs_few m steps α.1)

pub runs_drop : (steps : List Rules·Step) (k : ℕ) → runs (drop k steps) ≤ runs steps
unfolding runs
runs_drop steps zero = omega arith
runs_drop [] (suc k) = omega arith
runs_drop (run n ∷ steps) (suc k) = omega (arith, runs_drop steps k)
runs_drop (lock s ∷ steps) (suc k) = runs_drop steps k
runs_drop (unlock s ∷ steps) (suc k) = runs_drop steps k

pub inside_le : (u : ℕ) (steps : List Rules·Step) → runs (inside u steps) ≤ runs steps
unfolding runs inside
inside_le u [] = omega arith
inside_le u (run n ∷ steps) = omega (arith, inside_le u steps)
inside_le u (lock s ∷ steps) = inside_le u steps
inside_le u (unlock s ∷ steps) = if_cases (λ xs. runs xs ≤ runs steps) (s =? u) [] (unlock s ∷ inside u steps) (λ e. omega arith) (λ e. inside_le u steps)

-- the ticks of a step as it stands in the sheet, and their sum
abbrev pub ticks : List ℕ → ℕ
ticks bytes = full (said bytes ∷ [])

first : (x : Rules·Step) (steps : List Rules·Step) → full (x ∷ []) + runs steps ≡ runs (x ∷ steps)
unfolding runs full
first (run n) steps = refl
first (lock s) steps = zero-add _
first (unlock s) steps = zero-add _

pub ticks_sum : (steps : List (List ℕ)) → sum_by ticks steps ≡ runs (map said steps)
unfolding runs
ticks_sum [] = refl
ticks_sum (x ∷ steps) = sum_by-cons ticks x steps ∙ ap (λ r. ticks x + r) (ticks_sum steps) ∙ first (said x) (map said steps)

-- the steps before the unlock of a semaphore, up to where a look for it ends
abbrev pub unlocks : (u : ℕ) → Rules·Step → Bool
unlocks u (run n) = false
unlocks u (lock s) = false
unlocks u (unlock s) = s =? u

abbrev pub is_unlock : (u : ℕ) → List ℕ → Bool
is_unlock u bytes = unlocks u (said bytes)

before_unlock : (u : ℕ) (steps : List (List ℕ)) → map said (take_while (λ x. not (is_unlock u x)) steps) ≡ inside u (map said steps)
unfolding inside
before_unlock u [] = refl
before_unlock u (x ∷ steps) = ap (map said) (take_while-cons (λ x. not (is_unlock u x)) x steps) ∙ go (said x) refl (before_unlock u steps)
  where
    go : (y : Rules·Step) → said x ≡ y → map said (take_while (λ x. not (is_unlock u x)) steps) ≡ inside u (map said steps)
        → map said (if not (unlocks u y) then x ∷ take_while (λ x. not (is_unlock u x)) steps else []) ≡ inside u (y ∷ map said steps)
    go (run n) z e = rw z (ap (λ xs. run n ∷ xs) e)
    go (lock s) z e = rw z (ap (λ xs. lock s ∷ xs) e)
    go (unlock s) z e = ends (s =? u)
      where
        ends : (b : Bool) → map said (if not b then x ∷ take_while (λ x. not (is_unlock u x)) steps else []) ≡ (if b then [] else unlock s ∷ inside u (map said steps))
        ends true = refl
        ends false = rw z (ap (λ xs. unlock s ∷ xs) e)

pub inside_map : (u : ℕ) (steps : List (List ℕ)) (r : Option ℕ) (end : ℕ)
    → r ≡ (if position_or_len (is_unlock u) steps <? length steps then Some (position_or_len (is_unlock u) steps) else None)
    → end ≡ unwrap_or r (length steps) → map said (take end steps) ≡ inside u (map said steps)
inside_map u steps r end e f =
    let at = position_or_len (is_unlock u) steps in
    let go : (b : Bool) → (at <? length steps) ≡ b → unwrap_or (if b then Some at else None) (length steps) ≡ at = λ b.
    elim b as (λ b. (at <? length steps) ≡ b → unwrap_or (if b then Some at else None) (length steps) ≡ at) [
      | true ↦ λ t. refl
      | false ↦ λ t. omega (arith, ltb-false at (length steps) t, prefix_len-le-length (λ x. not (is_unlock u x)) steps)
    ] in
    ap (λ n. map said (take n steps)) (f ∙ ap (λ r. unwrap_or r (length steps)) e ∙ go (at <? length steps) refl) ∙ before_unlock u steps

-- a task's steps, as the table lends them: their runs fit, and so do those inside a section
module _ (steps : List (List ℕ)) (of : List Rules·Step) (value : map said steps ≡ of) (few : length steps ≤ 64) (limits : All (StepLimits 16) of) where
  pub runs_fit : runs (map said steps) < 65536
  runs_fit = omega (arith, runs_few 16 of limits, ap length value, ap runs value, length-map steps said)

  pub inside_fit : (u k : ℕ) → runs (inside u (map said (take (length steps - (k + 1)) (drop (k + 1) steps)))) < 65536
  inside_fit u k =
      let all = take_all (length steps - (k + 1)) (drop (k + 1) steps) (omega (arith, length-drop (k + 1) steps)) in
      omega (
        arith,
        ap (λ (xs : List (List ℕ)). runs (inside u (map said xs))) all,
        inside_le u (map said (drop (k + 1) steps)),
        ap runs (sym (drop-map said (k + 1) steps)),
        runs_drop (map said steps) (k + 1),
        runs_fit,
      )
