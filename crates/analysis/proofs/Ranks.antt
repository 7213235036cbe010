-- Laws of loads: what stands at a rank, their sums, and which tasks have another's points.
use Rattle.std.proofs.Common.{ℕ, zero, suc, ◌≤◌, ◌<◌, ◌≡◌, refl, sym, ap, ◌∙◌, subst, List, [], ◌∷◌, Bool, true, false, length, get_or, take, sum_by, arith, zero-add, add-one}
use Rattle.std.specs.Bool.{MatchBool}
use Rattle.std.specs.List.{range_with_len, HoldsAt, AllWithin}
use Rattle.std.proofs.lemmas.List.Sums.{sum_by_more}
use Rattle.std.proofs.lemmas.List.FromFn.{get_or-range_with_len, length-range_with_len}
use Rattle.rules.specs.Words.{some, total}
use Rattle.rules.proofs.Laws.{some_of, none_of}
use Rattle.analysis.specs.declared.loads.Load.{Load}
use Rattle.analysis.specs.Laxity.{period_of}

-- the load of a rank, and its period, which is at least 1
pub period_at : (loads : List Load) (k : ℕ) (x : Load) → k < length loads → (get_or loads k x).period ≡ period_of loads k
unfolding period_of
period_at [] k x l = absurd (omega arith)
period_at (y ∷ loads) zero x l = refl
period_at (y ∷ loads) (suc k) x l = period_at loads k x (omega arith)

pub period_some : (loads : List Load) (k : ℕ) → k < length loads → 1 ≤ period_of loads k
unfolding period_of
period_some [] k l = absurd (omega arith)
period_some (x ∷ loads) zero l = x.at_least_one
period_some (x ∷ loads) (suc k) l = period_some loads k (omega arith)

-- a sum over the first ranks, rank by rank
pub sum_taken : (loads : List Load) (f : Load → ℕ) (g : ℕ → ℕ) (d : Load) → ((r : ℕ) → r < length loads → f (get_or loads r d) ≡ g r)
    → (n : ℕ) → n ≤ length loads → sum_by f (take n loads) ≡ total n g
unfolding total
sum_taken loads f g d h zero l = refl
sum_taken loads f g d h (suc n) l =
    ap (λ (k : ℕ). sum_by f (take k loads)) (sym (add-one n)) ∙ sum_by_more f loads n d (omega arith)
    ∙ (let less = sum_taken loads f g d h n (omega arith) in let here = h n (omega arith) in omega arith)

-- one of the numbers below n passes
pub any_range : (n : ℕ) (p : ℕ → Bool) (r : Bool)
    → MatchBool r ((j : ℕ) × (j < length (range_with_len 0 n)) × HoldsAt (λ x. p x ≡ true) (range_with_len 0 n) j) (AllWithin (λ x. p x ≡ false) (range_with_len 0 n) 0 (length (range_with_len 0 n)))
    → r ≡ some n p
any_range n p true w =
    let l : w.0 < n = omega (arith, w.1, length-range_with_len 0 n) in
    sym (some_of n p w.0 l (subst (λ (x : ℕ). p x ≡ true) (get_or-range_with_len 0 n w.0 0 l ∙ zero-add w.0) (w.2 0)))
any_range n p false h = sym (none_of n p (λ j l.
    subst (λ (x : ℕ). p x ≡ false) (get_or-range_with_len 0 n j 0 l ∙ zero-add j) (h j 0 (omega arith) (omega (arith, length-range_with_len 0 n)))))
