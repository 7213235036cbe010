-- Laws of slacks: the larger of two, the largest of many, and their order.
use Rattle.std.proofs.Common.{ℕ, zero, suc, ◌+◌, ◌-◌, ◌^◌, ◌≤◌, ◌<◌, ◌≡◌, refl, sym, ap, ◌∙◌, subst, arith, ℤ, pos, ◌-ℤ◌, add-one, to_z, of_z, w64, FitsSigned}
use Rattle.std.specs.Prelude.{negsuc}
use Rattle.std.specs.Int.{int_max}
use Rattle.std.specs.Int.RustNames.{unsigned_abs}
use Rattle.std.proofs.lemmas.Int.{ints, to_z-of_z}
use Rattle.rules.specs.Bounds.{larger, largest_of}
use Rattle.rules.specs.Laws.{◌≼◌}
use mathlib.Core.Logic.{⊎_elim}
use borrow.Author.Tests.{lt-ltb, le-ltb}
use Rattle.rules.proofs.Laws.{below}
use Rattle.rules.proofs.Points.{largest_has}

-- the larger of two, as `max` picks it
larger_is : (x y : ℤ) → int_max x y ≡ larger x y
unfolding larger
larger_is x y = grind (arith, ints)

-- the largest of many: one more, as the code has them in 64 bits
module _ (f : ℕ → ℤ) (first : ℤ) where
  pub largest_of_turn : (n : ℕ) (best v r : ℤ) → FitsSigned w64 v → FitsSigned w64 r → best ≡ largest_of n first f → v ≡ f n → r ≡ int_max best (to_z w64 (of_z w64 v)) → to_z w64 (of_z w64 r) ≡ largest_of (n + 1) first f
  unfolding largest_of
  largest_of_turn n best v r fv fr eb ev er = to_z-of_z w64 r fr ∙ er ∙ ap (int_max best) (to_z-of_z w64 v fv) ∙ larger_is best v ∙ rw (eb, ev, add-one n) refl

-- the order
pub ≼_antisym : (x y : ℤ) → x ≼ y → y ≼ x → x ≡ y
≼_antisym (pos a) (pos b) p q = ap pos (omega arith)
≼_antisym (pos a) (negsuc b) p q = absurd p
≼_antisym (negsuc a) (pos b) p q = absurd q
≼_antisym (negsuc a) (negsuc b) p q = ap negsuc (omega arith)

-- the largest of many is at most what each is at most
pub largest_at_most : (first : ℤ) (f : ℕ → ℤ) (z : ℤ) (n : ℕ) → first ≼ z → ((j : ℕ) → j < n → f j ≼ z) → largest_of n first f ≼ z
largest_at_most first f z n p h = largest_has first f (λ w. w ≼ z) n p h

-- a difference by its sign
minus_le : (a b : ℕ) → b ≤ a → pos a -ℤ pos b ≡ pos (a - b)
minus_le a zero l = ap pos (omega arith)
minus_le a (suc b) l = rw (le-ltb a (suc b) l) refl

minus_lt : (a b : ℕ) → a < b → pos a -ℤ pos b ≡ negsuc (b - suc a)
minus_lt a zero l = absurd (omega arith)
minus_lt a (suc b) l = rw (lt-ltb a (suc b) l) refl

-- a slack: at least -m - 1, and at most m
module _ (m : ℕ) where
  pub slack_at_least : (t d : ℕ) → d ≤ t + m → negsuc m ≼ (pos t -ℤ pos d)
  slack_at_least t d l = ⊎_elim
      (λ u. subst (λ (z : ℤ). negsuc m ≼ z) (sym (minus_lt t d u)) (let k : d - suc t ≤ m = omega arith in k))
      (λ u. subst (λ (z : ℤ). negsuc m ≼ z) (sym (minus_le t d u)) tt)
      (below t d)

  pub slack_at_most : (t d : ℕ) → t ≤ m → (pos t -ℤ pos d) ≼ pos m
  slack_at_most t d l = ⊎_elim
      (λ u. subst (λ (z : ℤ). z ≼ pos m) (sym (minus_lt t d u)) tt)
      (λ u. subst (λ (z : ℤ). z ≼ pos m) (sym (minus_le t d u)) (let k : t - d ≤ m = omega arith in k))
      (below t d)

-- between two such, the size has 32 bits
pub near_between : (z : ℤ) → negsuc 1_114_112 ≼ z → z ≼ pos 65536 → unsigned_abs z < 2 ^ 32
near_between (pos a) l m = omega (arith, m)
near_between (negsuc a) l m = omega (arith, l)
