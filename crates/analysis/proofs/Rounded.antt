-- The two ways out of rounding up: nothing is left, or one more.
use Rattle.std.proofs.Common.{ℕ, ◌+◌, ◌/◌, ◌%◌, ◌<◌, ◌≡◌, refl, arith, Fits, w32}
use Rattle.std.proofs.Math.Nat.{div-le_self}
use borrow.Author.Tests.{eq-eqb, ne_eqb}
use Rattle.rules.specs.Bounds.{rounded_up}

pub rounded_whole : (t p : ℕ) → t < 65536 → t % p ≡ 0 → (t / p ≡ rounded_up t p) × (t / p < 131072)
unfolding rounded_up
rounded_whole t p l e = (rw (eq-eqb (t % p) 0 e) (omega arith), omega (arith, div-le_self t p))

pub rounded_fits : (t p : ℕ) → t < 65536 → Fits w32 (t / p + 1)
rounded_fits t p l = record { fits = omega (arith, div-le_self t p) }

pub rounded_more : (t p : ℕ) → t < 65536 → (t % p ≡ 0 → ⊥) → (t / p + 1 ≡ rounded_up t p) × (t / p + 1 < 131072)
unfolding rounded_up
rounded_more t p l e = (rw (ne_eqb (t % p) 0 e) refl, omega (arith, div-le_self t p))
