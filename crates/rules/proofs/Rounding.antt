-- The quotient, and one more if a remainder is left, is the least number of periods that reaches.
use Prim.Native.Nat.{ℕ, ◌+◌, ◌*◌, ◌/◌, ◌%◌, ◌≤◌, ◌<◌}
use mathlib.Core.Path.{◌≡◌, ap, ◌∙◌}
use mathlib.Core.Logic.{⊎_elim}
use native.Mathlib.Omega.{arith}
use native.Mathlib.Nat.{add-zero, div-add-mod', div-lt_iff_lt-mul, le_of_mul-le-mul_right, mul-mod_left}
use borrow.Author.Tests.{eqb-true, eqb-false}
use Rattle.rules.specs.Words.{◌=?◌}
use Rattle.rules.specs.Bounds.{rounded_up}
use Rattle.rules.specs.Laws.{LeastThatReaches, RoundedUp}
use Rattle.rules.proofs.Laws.{below, if_cases}

module _ (t p : ℕ) (h : 1 ≤ p) where
  none_left : t % p ≡ 0 → LeastThatReaches t p (t / p)
  none_left e = record {
    reaches = omega (arith, div-add-mod' t p);
    least = λ q l. le_of_mul-le-mul_right {m = t / p} {n = q} {k = p} (omega (arith, div-add-mod' t p)) h;
  }

  -- a multiple of the period leaves nothing
  past : (t % p ≡ 0 → ⊥) → (q : ℕ) → t ≤ q * p → t < q * p
  past e q l = ⊎_elim
      (λ u. u)
      (λ u. absurd (e (ap (λ (x : ℕ). x % p) (let z : t ≡ q * p = omega arith in z) ∙ mul-mod_left q p)))
      (below t (q * p))

  some_left : (t % p ≡ 0 → ⊥) → LeastThatReaches t p (t / p + 1)
  some_left e = record {
    reaches = omega (arith, (div-lt_iff_lt-mul {k = p} {x = t} {y = t / p + 1} h).0 (omega arith));
    least = λ q l. omega (arith, (div-lt_iff_lt-mul {k = p} {x = t} {y = q} h).1 (past e q l));
  }

pub rounded_up_least : RoundedUp
unfolding rounded_up
rounded_up_least t p h = if_cases (λ n. LeastThatReaches t p (t / p + n)) (t % p =? 0) 0 1
    (λ e. rw (add-zero (t / p)) (none_left t p h (eqb-true (t % p) 0 e)))
    (λ e. some_left t p h (eqb-false (t % p) 0 e))
