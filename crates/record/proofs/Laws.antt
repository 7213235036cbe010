-- Laws of the tests that look at every field, and of a count that rises.
use Prim.Native.Nat.{ℕ, ◌+◌}
use mathlib.Core.Path.{◌≡◌, refl, ap}
use mathlib.Core.List.{List, [], ◌∷◌}
use mathlib.Core.Bool.{Bool, ◌&&◌}
use lib.ListN.{get_or, set}
use Rattle.std.specs.List.{list_all}
use Rattle.rules.specs.Words.{◌≤?◌, all}
use Rattle.rules.specs.Fields.{place_of, counts, counted, up}
use Rattle.rules.specs.Record.{counts_fit}
use Rattle.rules.specs.declared.Count.{Count}
use Rattle.rules.specs.declared.Count.TheVariants.{Releases, Completions, Misses, TicksRun, TicksBlocked, WorstResponse, MostBlocked}
use Rattle.rules.specs.declared.Counts.{Counts}

-- the row in which one count has risen by one
risen_row : (k : Count) (c : Counts) → counts (λ j. get_or (set (counted c) (place_of k) (get_or (counted c) (place_of k) 0 + 1)) (place_of j) 0) ≡ up k c
unfolding counted
risen_row Releases c = refl
risen_row Completions c = refl
risen_row Misses c = refl
risen_row TicksRun c = refl
risen_row TicksBlocked c = refl
risen_row WorstResponse c = refl
risen_row MostBlocked c = refl

pub risen : (k : Count) (c : Counts) (row : List ℕ) (i : ℕ) → row ≡ counted c → i ≡ place_of k
    → counts (λ j. get_or (set row i (get_or row i 0 + 1)) (place_of j) 0) ≡ up k c
risen k c row i e p = rw (e, p) (risen_row k c)

all_list_all : {A : Type 0} (test : A → Bool) (xs : List A) → list_all test xs ≡ all test xs
unfolding all
all_list_all test [] = refl
all_list_all test (x ∷ xs) = ap (λ b. test x && b) (all_list_all test xs)

-- every count at most t, as an iterator tells it
pub list_all-counted : (t : ℕ) (c : Counts) → list_all (λ x. x ≤? t) (counted c) ≡ counts_fit t c
unfolding counts_fit
list_all-counted t c = all_list_all (λ x. x ≤? t) (counted c)
