-- The places of a nest: the semaphores that are held stand in the first, the newest last, and 0 in the others. So those that are
-- held tell what stands in each.
use Rattle.std.specs.Prelude.{ℕ, ◌-◌, ◌≤◌, ◌≡◌, List, ◌++◌, reverse, length, take, drop, replicate}
use Rattle.std.proofs.Common.{sym, subst, ap, ap₂, ◌∙◌, take-append-drop, length-take-le}
use Rattle.std.proofs.lemmas.List.{reverse-reverse, length-reverse}

pub same_depth : (held : List ℕ) (depth : ℕ) → length held ≡ 4 → depth ≤ 4 → length (reverse (take depth held)) ≡ depth
same_depth held depth four few = length-reverse (take depth held) ∙ length-take-le depth held (subst (λ (n : ℕ). depth ≤ n) (sym four) few)

pub same_places : (held : List ℕ) (depth : ℕ) → length held ≡ 4 → depth ≤ 4 → drop depth held ≡ replicate (4 - depth) 0
    → reverse (reverse (take depth held)) ++ replicate (4 - length (reverse (take depth held))) 0 ≡ held
same_places held depth four few zeros =
    ap₂ (λ (xs : List ℕ) (n : ℕ). xs ++ replicate (4 - n) 0) (reverse-reverse (take depth held)) (same_depth held depth four few)
    ∙ ap (λ (xs : List ℕ). take depth held ++ xs) (sym zeros)
    ∙ take-append-drop depth held
