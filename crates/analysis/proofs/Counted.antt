-- Points that another task has too add nothing: the largest over the tasks whose points no other has is the laxity.
use Rattle.std.proofs.Common.{ℕ, ◌+◌, ◌-◌, ◌*◌, ◌/◌, ◌%◌, ◌≤◌, ◌<◌, ◌≡◌, refl, sym, ap, ◌∙◌, subst, List, length, true, false, ◌&&◌, ◌||◌, arith, ℤ, eq-eqb}
use Rattle.std.proofs.Math.Nat.{mul_assoc, mul-pos, mod_self, dvd_trans, le_of_dvd, dvd_of_mod-eq-zero, mod-eq-zero_of_dvd, div-mul_cancel}
use mathlib.Core.Logic.{⊎_elim}
use borrow.Author.Tests.{ltb-true, eqb-true}
use Rattle.rules.specs.Words.{◌<?◌, ◌=?◌}
use Rattle.rules.specs.Bounds.{largest_of}
use Rattle.rules.specs.Laws.{◌≼◌}
use Rattle.rules.proofs.Laws.{sure, below, true_false, if_cases, and_left, and_right, or_cases, none_of, lightest}
use Rattle.rules.proofs.Points.{≼_trans, largest_first, largest_at_least}
use Rattle.analysis.specs.declared.loads.Load.{Load}
use Rattle.analysis.specs.Laxity.{period_of, own_period, has_points_of, another_has, slack_from, point_from, largest_from, counted_from, laxity_from}
use Rattle.analysis.proofs.Integers.{≼_antisym, largest_at_most}
use Rattle.analysis.proofs.Ranks.{period_some}
use Rattle.analysis.proofs.Laxity.{points, point_in}

-- the largest of a task's points without them and with them
module _ (loads : List Load) (b k : ℕ) where
  pub counted_without : another_has loads k ≡ true → slack_from loads b (own_period loads) ≡ counted_from loads b k
  unfolding counted_from
  counted_without e = rw e refl

  pub counted_with : another_has loads k ≡ false → largest_from loads b k ≡ counted_from loads b k
  unfolding counted_from
  counted_with e = rw e refl

module _ (loads : List Load) (b : ℕ) (few : length loads ≤ 16) where
  abbrev period : ℕ → ℕ
  period = period_of loads

  abbrev slack : ℕ → ℤ
  slack = slack_from loads b

  abbrev first : ℤ
  first = slack (own_period loads)

  abbrev largest : ℕ → ℤ
  largest = largest_from loads b

  abbrev counted : ℕ → ℤ
  counted = counted_from loads b

  -- a multiple of j's period is one of its points
  multiple_at_most : (j n t : ℕ) → j < length loads → 1 ≤ t → t ≤ own_period loads → t ≡ n * period j → slack t ≼ largest j
  unfolding largest_from point_from
  multiple_at_most j n t l m k e =
      let one : 1 ≤ n = ⊎_elim (λ u. let z : n ≡ 0 = omega arith in omega (arith, rw z at e)) (λ u. u) (below n 1) in
      let within : n ≤ own_period loads / period j = (points loads j n l).1 (omega arith) in
      subst (λ (x : ℕ). slack x ≼ largest j) (ap (λ (x : ℕ). x * period j) (let z : n - 1 + 1 ≡ n = omega arith in z) ∙ sym e)
      (largest_at_least first (point_from loads b j) (own_period loads / period j) (n - 1) (omega arith))

  -- so a task whose period divides k's has all of k's points
  divisor_at_least : (j k : ℕ) → j < length loads → k < length loads → period k % period j ≡ 0 → largest k ≼ largest j
  unfolding largest_from point_from
  divisor_at_least j k l m e =
      let whole = div-mul_cancel (period j) (dvd_of_mod-eq-zero (period j) e) in
      largest_at_most first (point_from loads b k) (largest j) (own_period loads / period k)
      (largest_first first (point_from loads b j) (own_period loads / period j))
      (λ x u. multiple_at_most j ((x + 1) * (period k / period j)) ((x + 1) * period k) l
      (mul-pos {m = x + 1} {n = period k} (omega arith) (period_some loads k m))
      (point_in loads k x m u)
      (ap (λ (y : ℕ). (x + 1) * y) (sym whole) ∙ sym (mul_assoc (x + 1) (period k / period j) (period j))))

  -- of the tasks whose periods divide k's, one that comes before all others by period and then by rank
  abbrev weight : ℕ → ℕ
  weight j = period j * 16 + j

  lightest_kept : (k s j : ℕ) → s < length loads → j < length loads → period k % period s ≡ 0 → (period k % period j ≡ 0 → weight s ≤ weight j)
      → has_points_of loads s j ≡ false
  unfolding has_points_of
  lightest_kept k s j l m d h =
      let whole = period s % period j =? 0 in
      let earlier = j <? s || period j <? period s in
      ⊎_elim
      (λ e. let divides = dvd_of_mod-eq-zero (period j) (eqb-true (period s % period j) 0 (and_left whole earlier e)) in
      let light = h (mod-eq-zero_of_dvd (period j) (dvd_trans (period j) divides (dvd_of_mod-eq-zero (period s) d))) in
      let le = le_of_dvd (period_some loads s l) divides in
      absurd (⊎_elim
      (λ u. omega (arith, ltb-true j s u))
      (λ u. omega (arith, ltb-true (period j) (period s) u))
      (or_cases (j <? s) (period j <? period s) (and_right whole earlier e))))
      (λ e. e)
      (sure (whole && earlier))

  kept : (k : ℕ) → k < length loads → (s : ℕ) × (s < length loads) × (period k % period s ≡ 0) × (another_has loads s ≡ false)
  unfolding another_has
  kept k m = ⊎_elim
      (λ w. let s = w.0 in
      let divides = eqb-true (period k % period s) 0 w.2 in
      let none = none_of (length loads) (has_points_of loads s) (λ j u. lightest_kept k s j w.1 u divides (λ e. w.3 j u (eq-eqb (period k % period j) 0 e))) in
      (s, w.1, divides, none))
      (λ h. true_false (period k % period k =? 0) (eq-eqb (period k % period k) 0 (mod_self (period k))) (h k m))
      (lightest (length loads) (λ j. period k % period j =? 0) weight)

  pub counted_all : largest_of (length loads) first counted ≡ laxity_from loads b
  unfolding laxity_from counted_from
  counted_all =
      let all = laxity_from loads b in
      let least = largest_first first largest (length loads) in
      ≼_antisym (largest_of (length loads) first counted) all
      (largest_at_most first counted all (length loads) least (λ k u.
      if_cases (λ z. z ≼ all) (another_has loads k) first (largest k) (λ e. least) (λ e. largest_at_least first largest (length loads) k u)))
      (largest_at_most first largest (largest_of (length loads) first counted) (length loads) (largest_first first counted (length loads)) (λ k u.
      let w = kept k u in
      let same : counted w.0 ≡ largest w.0 = rw w.3 refl in
      ≼_trans (largest k) (largest w.0) (largest_of (length loads) first counted)
      (divisor_at_least w.0 k w.1 u w.2)
      (subst (λ (z : ℤ). z ≼ largest_of (length loads) first counted) same (largest_at_least first counted (length loads) w.0 w.1))))
