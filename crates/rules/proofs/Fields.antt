-- Laws of the record's fields: a count by its name, all of them as a row, counts that have risen.
use Prim.Native.Nat.{ℕ, zero, suc, ◌≤◌, ◌<◌}
use mathlib.Core.Path.{◌≡◌, refl, sym, ap, ◌∙◌, subst, fun_ext}
use mathlib.Core.List.{List, [], ◌∷◌, map}
use mathlib.Core.Bool.{Bool, true}
use native.Mathlib.Omega.{arith}
use lib.ListN.{length, get_or}
use borrow.Author.Tests.{leb-true, eqb-true, le-leb}
use Rattle.std.specs.Prelude.{if◌then◌else◌}
use Rattle.rules.specs.Words.{◌≤?◌, ◌=?◌, all}
use Rattle.rules.specs.Fields.{every_count, place_of, count, counts, counted, with_count, no_counts, zeros}
use Rattle.rules.specs.Record.{counts_fit}
use Rattle.rules.specs.declared.Count.{Count}
use Rattle.rules.specs.declared.Count.TheVariants.{Releases, Completions, Misses, TicksRun, TicksBlocked, WorstResponse, MostBlocked}
use Rattle.rules.specs.declared.Counts.{Counts}
use Rattle.rules.proofs.Laws.{and_left, and_right, and_both, if_cases}

-- what holds of each count by its name holds of any
named : (P : Count → Type 0) → P Releases → P Completions → P Misses → P TicksRun → P TicksBlocked → P WorstResponse → P MostBlocked → (k : Count) → P k
named P a b c d e f g = elim [ Releases ↦ a | Completions ↦ b | Misses ↦ c | TicksRun ↦ d | TicksBlocked ↦ e | WorstResponse ↦ f | MostBlocked ↦ g ]

-- counts made by name have what they were made of,
pub count_made : (f : Count → ℕ) (k : Count) → count k (counts f) ≡ f k
count_made f = named (λ k. count k (counts f) ≡ f k) refl refl refl refl refl refl refl

-- and stand in the row at their places
pub counted_at : (c : Counts) (k : Count) → get_or (counted c) (place_of k) 0 ≡ count k c
unfolding counted
counted_at c = named (λ k. get_or (counted c) (place_of k) 0 ≡ count k c) refl refl refl refl refl refl refl

place_below : (c : Counts) (k : Count) → place_of k < length (counted c)
unfolding counted
place_below c = named (λ k. place_of k < length (counted c)) (omega arith) (omega arith) (omega arith) (omega arith) (omega arith) (omega arith) (omega arith)

-- two counts at one place are one
abbrev at_place : ℕ → Count
at_place i = get_or every_count i Releases

place_back : (k : Count) → at_place (place_of k) ≡ k
place_back = named (λ k. at_place (place_of k) ≡ k) refl refl refl refl refl refl refl

one_place : (j k : Count) → place_of j ≡ place_of k → j ≡ k
one_place j k e = sym (place_back j) ∙ ap at_place e ∙ place_back k

-- counts are the same where each is
pub same_counts : (c d : Counts) → ((k : Count) → count k c ≡ count k d) → c ≡ d
same_counts c d h = ap counts (fun_ext h)

-- what a test says of a whole row it says of each place
pub all_at : (test : ℕ → Bool) (xs : List ℕ) → all test xs ≡ true → (i : ℕ) → i < length xs → test (get_or xs i 0) ≡ true
unfolding all
all_at test [] e i l = absurd (omega arith)
all_at test (x ∷ xs) e zero l = and_left (test x) _ e
all_at test (x ∷ xs) e (suc i) l = all_at test xs (and_right (test x) _ e) i (omega arith)

all_of : {A : Type 0} (test : ℕ → Bool) (f : A → ℕ) (ks : List A) → ((k : A) → test (f k) ≡ true) → all test (map f ks) ≡ true
unfolding all
all_of test f [] h = refl
all_of test f (k ∷ ks) h = and_both _ _ (h k) (all_of test f ks h)

pub each_count : (test : ℕ → Bool) (c : Counts) → all test (counted c) ≡ true → (k : Count) → test (count k c) ≡ true
each_count test c e k = ap test (sym (counted_at c k)) ∙ all_at test (counted c) e (place_of k) (place_below c k)

-- every count and worst response is at most t
abbrev pub CountsFit : (t : ℕ) → Counts → Type 0
CountsFit t c = (k : Count) → count k c ≤ t

pub counts_fit_lem : (t : ℕ) (c : Counts) → counts_fit t c ≡ true → CountsFit t c
unfolding counts_fit
counts_fit_lem t c e k = leb-true (count k c) t (each_count (λ x. x ≤? t) c e k)

pub fit_counts : (t : ℕ) (c : Counts) → CountsFit t c → counts_fit t c ≡ true
unfolding counts_fit counted
fit_counts t c f = all_of (λ x. x ≤? t) (λ k. count k c) every_count (λ k. le-leb (count k c) t (f k))

-- counts that are all zero
pub no_counts_lem : (c : Counts) → zeros (counted c) ≡ true → c ≡ no_counts
unfolding zeros
no_counts_lem c e = same_counts c no_counts (λ k. eqb-true (count k c) 0 (each_count (λ x. x =? 0) c e k) ∙ sym (count_made (λ j. 0) k))

pub blank_counts : (t : ℕ) → CountsFit t no_counts
blank_counts t k = omega (arith, count_made (λ j. 0) k)

-- where each count has a limit, one that is set anew within it keeps them all
abbrev pub Within : (limit : Count → ℕ) → Counts → Type 0
Within limit c = (k : Count) → count k c ≤ limit k

pub set_within : (limit : Count → ℕ) (c : Counts) (k : Count) (value : ℕ) → Within limit c → value ≤ limit k → Within limit (with_count k value c)
set_within limit c k value f v j =
    let test = place_of j =? place_of k in
    let here : (if test then value else count j c) ≤ limit j = if_cases (λ (x : ℕ). x ≤ limit j) test value (count j c)
    (λ e. subst (λ (i : Count). value ≤ limit i) (sym (one_place j k (eqb-true (place_of j) (place_of k) e))) v) (λ e. f j) in
    omega (arith, count_made (λ i. if place_of i =? place_of k then value else count i c) j)
