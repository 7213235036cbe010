-- An array that `from_fn` makes is a row, and has in each place what each call gives.
use Rattle.std.proofs.Common.{ℕ, zero, suc, ◌+◌, ◌≤◌, ◌<◌, ◌≡◌, refl, sym, ◌∙◌, subst, List, [], ◌∷◌, length, get_or, arith}
use Rattle.std.specs.Array.{IsFromFnResultFrom, IsFromFnResult}
use Rattle.std.specs.Fn.{Called, Mut}
use lib.Seq.{ext_get_or}
use Rattle.rules.specs.Words.{row}
use Rattle.rules.specs.Laws.{All}
use mathlib.Core.Logic.{⊎_elim}
use Rattle.rules.proofs.Laws.{below, length_row, row_at}

-- where each call leaves the closure as it was, and what it gives has P
module _ {F B : Type 0} (g : Mut F (ℕ × Unit {0}) B) (f : F) (P : ℕ → B → Type 0) (gives : (x : ℕ) (r : B) (q : F) → Called g f (x, tt) r q → (q ≡ f) × P x r) (ys : List B) where
  each : (i n : ℕ) (p : F) → p ≡ f → IsFromFnResultFrom g p ys i n → (d : B) (k : ℕ) → i ≤ k → k < i + n → P k (get_or ys k d)
  each i zero p e w d k l m = absurd (omega arith)
  each i (suc n) p e w d k l m =
      let one = gives i w.1 w.0 (subst (λ (p : F). Called g p (i, tt) w.1 w.0) e w.3) in
      ⊎_elim
      (λ u. let z : k ≡ i = omega arith in rw z (subst (P i) (sym (w.2.1 d)) one.1))
      (λ u. each (i + 1) n w.0 one.0 w.4 d k u (omega arith))
      (below k (i + 1))

  each_made : (n : ℕ) → IsFromFnResult g f ys n → (d : B) (k : ℕ) → k < length ys → P k (get_or ys k d)
  each_made n w d k l = each 0 n f refl w.each d k (omega arith) (omega (arith, w.long))

pub row_made : {F B : Type 0} (g : Mut F (ℕ × Unit {0}) B) (f : F) (h : ℕ → B) → ((x : ℕ) (r : B) (q : F) → Called g f (x, tt) r q → (q ≡ f) × (r ≡ h x))
    → (ys : List B) (n : ℕ) → IsFromFnResult g f ys n → B → ys ≡ row n h
row_made g f h gives ys n w d = ext_get_or d ys (row n h) (w.long ∙ sym (length_row n h)) (λ k l.
    each_made g f (λ x r. r ≡ h x) gives ys n w d k l ∙ sym (row_at n h d k (omega (arith, w.long))))

all_of : {B : Type 0} (P : B → Type 0) (d : B) (ys : List B) → ((k : ℕ) → k < length ys → P (get_or ys k d)) → All P ys
all_of P d [] h = tt
all_of P d (y ∷ ys) h = (h 0 (omega arith), all_of P d ys (λ k l. h (suc k) (omega arith)))

pub all_made : {F B : Type 0} (g : Mut F (ℕ × Unit {0}) B) (f : F) (P : B → Type 0) → ((x : ℕ) (r : B) (q : F) → Called g f (x, tt) r q → (q ≡ f) × P r)
    → (ys : List B) (n : ℕ) → IsFromFnResult g f ys n → B → All P ys
all_made g f P gives ys n w d = all_of P d ys (each_made g f (λ x. P) gives ys n w d)
