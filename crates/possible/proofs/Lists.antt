-- Laws of what an iterator looks through: every number below the length passes where every element does.
use Rattle.std.proofs.Common.{ℕ, zero, suc, ◌≤◌, ◌≡◌, refl, sym, ap, ◌∙◌, List, Bool, ◌&&◌, length, get_or, take, arith, add-one, zero-add}
use Rattle.std.specs.List.{list_all, enumerate_from, zip}
use Rattle.std.proofs.lemmas.List.{take_all}
use Rattle.std.proofs.lemmas.List.Folds.{list_all_more}
use Rattle.std.proofs.lemmas.List.FromFn.{length-enumerate_from, get_or-enumerate_from}
use Rattle.std.proofs.lemmas.Slice.Zip.{length-zip, get_or-zip}
use Rattle.std.proofs.Math.Bool.{and_comm}
use Rattle.rules.specs.Words.{every}
use Rattle.rules.proofs.Laws.{every_same}

module _ {A : Type 0} (p : A → Bool) (xs : List A) (d : A) where
  fronts : (n : ℕ) → n ≤ length xs → list_all p (take n xs) ≡ every n (λ i. p (get_or xs i d))
  unfolding every
  fronts zero l = refl
  fronts (suc n) l =
      ap (λ (n : ℕ). list_all p (take n xs)) (sym (add-one n)) ∙ list_all_more p xs n d (omega arith)
      ∙ and_comm (list_all p (take n xs)) (p (get_or xs n d)) ∙ ap (λ (b : Bool). p (get_or xs n d) && b) (fronts n (omega arith))

  listed : list_all p xs ≡ every (length xs) (λ i. p (get_or xs i d))
  listed = ap (list_all p) (sym (take_all (length xs) xs (omega arith))) ∙ fronts (length xs) (omega arith)

-- each with its place
pub every_enumerated : {A : Type 0} (f : ℕ → A → Bool) (xs : List A) (d : A) (n : ℕ) → length xs ≡ n
    → list_all (λ p. f p.0 p.1) (enumerate_from 0 xs) ≡ every n (λ i. f i (get_or xs i d))
every_enumerated f xs d n e =
    listed (λ p. f p.0 p.1) (enumerate_from 0 xs) (0, d) ∙ ap (λ (n : ℕ). every n (λ i. f (get_or (enumerate_from 0 xs) i (0, d)).0 (get_or (enumerate_from 0 xs) i (0, d)).1)) (length-enumerate_from 0 xs ∙ e)
    ∙ every_same n _ _ (λ i l. ap (λ p. f p.0 p.1) (get_or-enumerate_from 0 xs i (0, d) (omega arith)) ∙ ap (λ (k : ℕ). f k (get_or xs i d)) (zero-add i))

-- two rows side by side
pub every_zipped : {A B : Type 0} (f : A → B → Bool) (xs : List A) (ys : List B) (d : A) (e : B) (n : ℕ) → length xs ≡ n → length ys ≡ n
    → list_all (λ p. f p.0 p.1) (zip xs ys) ≡ every n (λ i. f (get_or xs i d) (get_or ys i e))
every_zipped f xs ys d e n m k =
    listed (λ p. f p.0 p.1) (zip xs ys) (d, e) ∙ ap (λ (n : ℕ). every n (λ i. f (get_or (zip xs ys) i (d, e)).0 (get_or (zip xs ys) i (d, e)).1)) (omega (arith, length-zip xs ys))
    ∙ every_same n _ _ (λ i l. ap (λ p. f p.0 p.1) (get_or-zip xs ys i (d, e) (omega arith) (omega arith)))
