-- Laws of the sections that a bound counts.
use Rattle.std.proofs.Common.{ℕ, suc, ◌+◌, ◌-◌, ◌≤◌, ◌<◌, ◌≡◌, refl, sym, ap, ◌∙◌, subst, List, [], ◌∷◌, length, get_or, drop, take, map, arith, if◌then◌else◌, Some, None, add-one, drop-cons}
use Rattle.std.proofs.lemmas.List.{drop-map, take_all, length-drop, length-map}
use borrow.Author.Tests.{le-leb, lt-leb}
use Rattle.rules.specs.Words.{◌≤?◌, row}
use Rattle.rules.specs.Sheet.{Step as Rules·Step, lock, Sheet}
use Rattle.rules.specs.Choice.{ceiling}
use Rattle.rules.specs.Bounds.{runs, inside, begins, section_length}
use Rattle.rules.specs.Laws.{All, StepLimits}
use Rattle.rules.proofs.Laws.{all_drop, row_at}
use Rattle.table.specs.Steps.{meant, said}
use Rattle.table.specs.declared.Step.{Step}
use Rattle.table.specs.declared.Step.TheVariants.{Run, Lock, Unlock}
use Rattle.table.proofs.Laws.{drop_past}
use Rattle.bounds.specs.Sections.{counts, counted_section}

-- what begins with a lock, and with anything else
module _ (sheet : Sheet) (i : ℕ) where
  begins_lock : (u : ℕ) (rest : List Rules·Step) → counted_section sheet i (lock u ∷ rest) ≡ (if ceiling sheet u ≤? i then Some (runs (inside u rest)) else None)
  unfolding counted_section counts begins section_length
  begins_lock u rest = refl

  begins_none : counted_section sheet i [] ≡ None
  unfolding counted_section counts begins
  begins_none = refl

  begins_other : (x : Step) (rest : List Rules·Step) → ((u : ℕ) → x ≡ Lock u → ⊥) → counted_section sheet i (meant x ∷ rest) ≡ None
  unfolding counted_section counts begins
  begins_other (Run n) rest h = refl
  begins_other (Lock s) rest h = absurd (h s refl)
  begins_other (Unlock s) rest h = refl

-- what a look at a position of a task's steps finds
module _ (sheet : Sheet) (i k : ℕ) (steps : List (List ℕ)) (of : List Rules·Step) (value : map said steps ≡ of) where
  pub nothing_there : length steps ≤ k → None ≡ counted_section sheet i (drop k of)
  nothing_there l = sym (ap (counted_section sheet i) (drop_past of k (omega (arith, ap length value, length-map steps said))) ∙ begins_none sheet i)

  module _ (x : Step) (d : List ℕ) (there : k < length steps) (is : meant x ≡ said (get_or steps k d)) where
    cut : drop k of ≡ meant x ∷ map said (drop (k + 1) steps)
    cut =
        ap (drop k) (sym value) ∙ drop-map said k steps ∙ ap (map said) (drop-cons steps k d there)
        ∙ ap (λ (y : Rules·Step). y ∷ map said (drop (suc k) steps)) (sym is) ∙ ap (λ (n : ℕ). meant x ∷ map said (drop n steps)) (sym (add-one k))

    pub no_lock : ((u : ℕ) → x ≡ Lock u → ⊥) → None ≡ counted_section sheet i (drop k of)
    no_lock h = sym (ap (counted_section sheet i) cut ∙ begins_other sheet i x _ h)

    module _ (u : ℕ) (locks : x ≡ Lock u) where
      pub lock_below : All (StepLimits 16) of → u < 16
      lock_below α = let β : StepLimits 16 (meant x) = (subst (All (StepLimits 16)) cut (all_drop (StepLimits 16) k of α)).0 in subst (λ (y : Step). StepLimits 16 (meant y)) locks β

      at_lock : counted_section sheet i (drop k of) ≡ (if ceiling sheet u ≤? i then Some (runs (inside u (map said (drop (k + 1) steps)))) else None)
      at_lock = ap (counted_section sheet i) (cut ∙ ap (λ (y : Step). meant y ∷ map said (drop (k + 1) steps)) locks) ∙ begins_lock sheet i u _

      -- the ceiling c of its semaphore, as the row of ceilings has it, decides; behind it stands what the slice has left
      module _ (cs : List ℕ) (row_of : cs ≡ row 16 (ceiling sheet)) (α : All (StepLimits 16) of) where
        ceiling_is : get_or cs u 0 ≡ ceiling sheet u
        ceiling_is = ap (λ (x : List ℕ). get_or x u 0) row_of ∙ row_at 16 (ceiling sheet) 0 u (lock_below α)

        pub not_counted : i < get_or cs u 0 → None ≡ counted_section sheet i (drop k of)
        not_counted l = sym (at_lock ∙ rw (lt-leb (ceiling sheet u) i (omega (arith, ceiling_is))) refl)

        pub counted : (r : ℕ) → get_or cs u 0 ≤ i → r ≡ runs (inside u (map said (take (length steps - (k + 1)) (drop (k + 1) steps)))) → Some r ≡ counted_section sheet i (drop k of)
        counted r l e =
            let all = take_all (length steps - (k + 1)) (drop (k + 1) steps) (omega (arith, length-drop (k + 1) steps)) in
            ap Some (e ∙ ap (λ (xs : List (List ℕ)). runs (inside u (map said xs))) all) ∙ sym (at_lock ∙ rw (le-leb (ceiling sheet u) i (omega (arith, ceiling_is))) refl)
