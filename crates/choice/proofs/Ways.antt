-- Laws of what is in a job's way: the scan of the ceilings and the holders finds whether the job is free of ceilings, and
-- where it is not, who is the next candidate.
use Prim.Native.Nat.{ℕ, zero, suc, ◌≤◌, ◌<◌}
use mathlib.Core.Path.{◌≡◌, refl, sym, ap, ap₂, ◌∙◌, subst}
use mathlib.Core.Logic.{inl, inr, ⊎_elim}
use mathlib.Core.List.{List, [], ◌∷◌, ◌++◌}
use mathlib.Core.Bool.{Bool, true, false, not, ◌&&◌}
use native.Mathlib.Omega.{arith}
use lib.ListN.{length, take}
use lib.Seq.{take_all}
use borrow.Author.Tests.{lt-ltb, le-ltb, le-leb, lt-leb, eq-eqb, ne_eqb, eqb-true, eqb-false, ltb-true, ltb-false, leb-true, leb-false}
use Rattle.std.specs.Prelude.{zip, fold, Option, Some, None, if◌then◌else◌}
use Rattle.std.proofs.lemmas.List.{take-append-le}
use Rattle.std.proofs.lemmas.List.Sums.{fold-append}
use Rattle.rules.specs.Words.{◌<?◌, ◌=?◌, ◌⇒◌, some, smallest, row}
use Rattle.rules.specs.Sheet.{Sheet}
use Rattle.rules.specs.Record.{holds, none_held_by_two}
use Rattle.rules.specs.Choice.{ceiling, held_by_other, free_of_ceilings, in_the_way, next_candidate}
use Rattle.rules.specs.declared.TaskRecord.{TaskRecord}
use Rattle.rules.proofs.Laws.{sure, below, and_at, true_false, and_left, and_right, and_both, and_no, implied, implies_no, some_of, none_of, every_of, every_no, length_row, Found, smallest_found, smallest_le, smallest_is}
use Rattle.rules.proofs.Possible.{held_by_one}
use Rattle.holders.specs.Holders.{holder, holders}
use Rattle.choice.specs.declared.Way.{Way}
use Rattle.choice.specs.Way.{way, by_other, lower, nearer, nearest, bars}

-- what the scan has found of the first n semaphores that pass, with weights f and holders h
pub record Nearest (p : ℕ → Bool) (f h : ℕ → ℕ) (n : ℕ) (w : Way) (s : ℕ) : Type 0 where
  pub inside : s < n
  pub passes : p s ≡ true
  pub weight : w.ceiling ≡ f s
  pub holder : w.holder ≡ h s
  pub lowest : (u : ℕ) → u < n → p u ≡ true → f s ≤ f u
  pub first : (u : ℕ) → u < s → p u ≡ true → f s < f u

abbrev pub Scanned : (p : ℕ → Bool) (f h : ℕ → ℕ) (n : ℕ) → Option Way → Type 0
Scanned p f h n None = (u : ℕ) → u < n → p u ≡ false
Scanned p f h n (Some w) = (s : ℕ) × Nearest p f h n w s

module _ (p : ℕ → Bool) (f h : ℕ → ℕ) where
  -- one semaphore more
  scan_on : (n : ℕ) (w : Option Way) → Scanned p f h n w → Scanned p f h (suc n) (if p n && lower (f n) w then Some (way (f n) (h n)) else w)
  scan_on n w before = go w (p n) refl (lower (f n) w) refl before
    where
      go : (w : Option Way) (a : Bool) → p n ≡ a → (b : Bool) → lower (f n) w ≡ b → Scanned p f h n w → Scanned p f h (suc n) (if a && b then Some (way (f n) (h n)) else w)
      go (Some w) true ea true eb x =
          let l = ltb-true (f n) w.ceiling eb in
          let e = x.1.weight in (
            n,
            record {
              inside = omega arith;
              passes = ea;
              weight = refl;
              holder = refl;
              lowest = λ u v q. and_at (λ u. p u ≡ true → f n ≤ f u) n (λ u v q. omega (arith, x.1.lowest u v q)) (λ q. omega arith) u v q;
              first = λ u v q. omega (arith, x.1.lowest u v q);
            },
          )
      go None true ea true eb x = (
        n,
        record {
          inside = omega arith;
          passes = ea;
          weight = refl;
          holder = refl;
          lowest = λ u v q. and_at (λ u. p u ≡ true → f n ≤ f u) n (λ u v q. true_false (p u) q (x u v)) (λ q. omega arith) u v q;
          first = λ u v q. true_false (p u) q (x u v);
        },
      )
      go (Some w) true ea false eb x =
          let l = ltb-false (f n) w.ceiling eb in
          let e = x.1.weight in (
            x.0,
            record {
              inside = omega (arith, x.1.inside);
              passes = x.1.passes;
              weight = e;
              holder = x.1.holder;
              lowest = λ u v q. and_at (λ u. p u ≡ true → f x.0 ≤ f u) n x.1.lowest (λ q. omega arith) u v q;
              first = x.1.first;
            },
          )
      go None true ea false eb x = true_false true refl eb
      go (Some w) false ea b eb x = (
        x.0,
        record {
          inside = omega (arith, x.1.inside);
          passes = x.1.passes;
          weight = x.1.weight;
          holder = x.1.holder;
          lowest = λ u v q. and_at (λ u. p u ≡ true → f x.0 ≤ f u) n x.1.lowest (λ q. true_false (p n) q ea) u v q;
          first = x.1.first;
        },
      )
      go None false ea b eb x = and_at (λ u. p u ≡ false) n x ea

  -- past the n-th none passes
  scan_past : (n m : ℕ) → n ≤ m → ((u : ℕ) → n ≤ u → u < m → p u ≡ false) → (w : Option Way) → Scanned p f h n w → Scanned p f h m w
  scan_past n m l none None x = λ u v. ⊎_elim (x u) (λ k. none u k v) (below u n)
  scan_past n m l none (Some w) x = (
    x.0,
    record {
      inside = omega (arith, x.1.inside);
      passes = x.1.passes;
      weight = x.1.weight;
      holder = x.1.holder;
      lowest = λ u v q. ⊎_elim (λ k. x.1.lowest u k q) (λ k. true_false (p u) q (none u k v)) (below u n);
      first = x.1.first;
    },
  )

-- pairs of two rows
zip_more : {A B : Type 0} (xs : List A) (ys : List B) (x : A) (y : B) → length xs ≡ length ys → zip (xs ++ (x ∷ [])) (ys ++ (y ∷ [])) ≡ zip xs ys ++ ((x, y) ∷ [])
zip_more [] [] x y e = refl
zip_more [] (b ∷ ys) x y e = absurd (omega arith)
zip_more (a ∷ xs) [] x y e = absurd (omega arith)
zip_more (a ∷ xs) (b ∷ ys) x y e = ap (λ (ps : List _). (a, b) ∷ ps) (zip_more xs ys x y (omega arith))

zip_row : {A B : Type 0} (n : ℕ) (f : ℕ → A) (h : ℕ → B) → zip (row n f) (row n h) ≡ row n (λ k. (f k, h k))
unfolding row
zip_row zero f h = refl
zip_row (suc n) f h = zip_more (row n f) (row n h) (f n) (h n) (length_row n f ∙ sym (length_row n h)) ∙ ap (λ (ps : List _). ps ++ ((f n, h n) ∷ [])) (zip_row n f h)

take_row : {A : Type 0} (n m : ℕ) (f : ℕ → A) → n ≤ m → take n (row m f) ≡ row n f
unfolding row
take_row n zero f l = let z : n ≡ 0 = omega arith in rw z refl
take_row n (suc m) f l = ⊎_elim
    (λ (u : n < suc m). take-append-le n (row m f) (f m ∷ []) (omega (arith, length_row m f)) ∙ take_row n m f (omega arith))
    (λ (u : suc m ≤ n). let z : n ≡ suc m = omega arith in rw z (take_all (suc m) (row (suc m) f) (omega (arith, length_row (suc m) f))))
    (below n (suc m))

-- of a sheet whose semaphores nobody holds twice
module _ (sheet : Sheet) (records : List TaskRecord) (single : none_held_by_two sheet records ≡ true) where
  -- who holds a semaphore
  by_other_lem : (i s : ℕ) → i < 16 → s < 16 → by_other i (holder sheet records s) ≡ held_by_other sheet records i s
  unfolding by_other holder held_by_other
  by_other_lem i s a b = go (smallest 16 255 (λ j. holds sheet records j s)) (smallest_found 16 255 (λ j. holds sheet records j s))
    where
      go : (h : ℕ) → Found 16 255 (λ j. holds sheet records j s) h → (not (h =? 255) && not (h =? i)) ≡ some 16 (λ j. not (j =? i) && holds sheet records j s)
      go h (inl w) = rw (ne_eqb h 255 (λ e. omega (arith, w.0))) (⊎_elim
          (λ u. rw u (sym (none_of 16 (λ j. not (j =? i) && holds sheet records j s) (λ j l. ⊎_elim
          (λ v. rw v refl)
          (λ v. and_no (not (j =? i)) (holds sheet records j s) (⊎_elim
          (λ y. absurd (eqb-false j i v (held_by_one sheet records single j i s l a b y (rw (eqb-true h i u) at w.1))))
          (λ y. y)
          (sure (holds sheet records j s))))
          (sure (j =? i))))))
          (λ u. rw u (sym (some_of 16 (λ j. not (j =? i) && holds sheet records j s) h w.0 (rw u w.1))))
          (sure (h =? i)))
      go h (inr w) = rw w.0 (sym (none_of 16 (λ j. not (j =? i) && holds sheet records j s) (λ j l. and_no (not (j =? i)) (holds sheet records j s) (w.1 j l))))

  -- a holder other than i is the only one
  other_holder : (i s : ℕ) → i < 16 → s < 16 → held_by_other sheet records i s ≡ true → holder sheet records s ≡ smallest 16 255 (λ j. not (j =? i) && holds sheet records j s)
  unfolding holder by_other
  other_holder i s a b e = go (smallest 16 255 (λ j. holds sheet records j s)) refl (by_other_lem i s a b ∙ e) (smallest_found 16 255 (λ j. holds sheet records j s))
    where
      go : (h : ℕ) → smallest 16 255 (λ j. holds sheet records j s) ≡ h → (not (h =? 255) && not (h =? i)) ≡ true → Found 16 255 (λ j. holds sheet records j s) h
          → h ≡ smallest 16 255 (λ j. not (j =? i) && holds sheet records j s)
      go h d o (inl w) = sym (smallest_is 16 255 (λ j. not (j =? i) && holds sheet records j s) h w.0 (and_both (not (h =? i)) (holds sheet records h s) (and_right (not (h =? 255)) (not (h =? i)) o) w.1)
          (λ j l. and_no (not (j =? i)) (holds sheet records j s) (⊎_elim
          (λ y. absurd (let z = smallest_le 16 255 (λ j. holds sheet records j s) j (omega (arith, w.0)) y in omega arith))
          (λ y. y)
          (sure (holds sheet records j s)))))
      go h d o (inr w) = true_false (not (h =? 255)) (and_left (not (h =? 255)) (not (h =? i)) o) (rw (eq-eqb h 255 w.0) refl)

  module _ (i : ℕ) (rank : i < 16) where
    abbrev pub Found_way : (n : ℕ) → Option Way → Type 0
    Found_way n w = Scanned (held_by_other sheet records i) (ceiling sheet) (holder sheet records) n w

    abbrev pairs : ℕ → ℕ × ℕ
    pairs s = (ceiling sheet s, holder sheet records s)

    abbrev step : Option Way → ℕ × ℕ → Option Way
    step w p = nearer i p.0 p.1 w

    one_more : (n : ℕ) → n < 16 → (w : Option Way) → Found_way n w → Found_way (suc n) (step w (pairs n))
    unfolding nearer
    one_more n l w x = rw (by_other_lem i n rank l) (scan_on (held_by_other sheet records i) (ceiling sheet) (holder sheet records) n w x)

    scanned : (n : ℕ) → n ≤ 16 → Found_way n (fold step None (row n pairs))
    unfolding row
    scanned zero l = λ u v. absurd (omega arith)
    scanned (suc n) l =
        rw (fold-append step None (row n pairs) (pairs n ∷ []))
        (one_more n (omega arith) (fold step None (row n pairs)) (scanned n (omega arith)))

    -- the scan of the semaphores of the sheet, those past its count being held by nobody
    pub way_found : (cs hs : List ℕ) → cs ≡ row 16 (ceiling sheet) → hs ≡ holders sheet records → (m : ℕ) → m ≤ 16
        → ((s : ℕ) → m ≤ s → s < 16 → held_by_other sheet records i s ≡ false) → Found_way 16 (nearest i cs hs m)
    unfolding nearest holders
    way_found cs hs ec eh m l none = scan_past (held_by_other sheet records i) (ceiling sheet) (holder sheet records) m 16 l none (nearest i cs hs m)
        (subst (Found_way m) (sym (ap (fold step None) (ap₂ (λ (xs ys : List ℕ). take m (zip xs ys)) ec eh ∙ ap (take m) (zip_row 16 (ceiling sheet) (holder sheet records)) ∙ take_row m 16 pairs l))) (scanned m l))

    -- free of ceilings: nothing is in its way, or its rank is smaller than the smallest ceiling
    pub free_by_none : Found_way 16 None → free_of_ceilings sheet records i ≡ true
    unfolding free_of_ceilings
    free_by_none x = every_of 16 (λ s. held_by_other sheet records i s ⇒ i <? ceiling sheet s) (λ s l. rw (x s l) refl)

    module _ (w : Way) (x : Found_way 16 (Some w)) where
      pub free_by : bars i w ≡ false → free_of_ceilings sheet records i ≡ true
      unfolding free_of_ceilings
      free_by u = every_of 16 (λ s. held_by_other sheet records i s ⇒ i <? ceiling sheet s) (λ s l. ⊎_elim
          (λ p. implied (held_by_other sheet records i s) (i <? ceiling sheet s) (let a = leb-false w.ceiling i u in let b = x.1.lowest s l p in let e = x.1.weight in lt-ltb i (ceiling sheet s) (omega arith)))
          (λ p. rw p refl)
          (sure (held_by_other sheet records i s)))

      pub barred_by : bars i w ≡ true → free_of_ceilings sheet records i ≡ false
      unfolding free_of_ceilings
      barred_by u =
          let a = leb-true w.ceiling i u in let e = x.1.weight in
          every_no 16 (λ s. held_by_other sheet records i s ⇒ i <? ceiling sheet s) x.0 x.1.inside (implies_no (held_by_other sheet records i x.0) (i <? ceiling sheet x.0) x.1.passes (le-ltb i (ceiling sheet x.0) (omega arith)))

      -- where it is not, the holder of that semaphore is the next candidate
      way_is : in_the_way sheet records i ≡ x.0
      unfolding in_the_way
      way_is = smallest_is 16 255 _ x.0 x.1.inside
          (and_both (held_by_other sheet records i x.0) _ x.1.passes (every_of 16 _ (λ u l. ⊎_elim
          (λ p. implied (held_by_other sheet records i u) _ (le-leb _ _ (x.1.lowest u l p)))
          (λ p. rw p refl)
          (sure (held_by_other sheet records i u)))))
          (λ u l. ⊎_elim
          (λ p. and_no (held_by_other sheet records i u) _ (every_no 16 _ x.0 x.1.inside (implies_no (held_by_other sheet records i x.0) _ x.1.passes (lt-leb _ _ (x.1.first u l p)))))
          (λ p. rw p refl)
          (sure (held_by_other sheet records i u)))

      pub next_by : w.holder ≡ next_candidate sheet records i
      unfolding next_candidate
      next_by = x.1.holder ∙ other_holder i x.0 rank x.1.inside x.1.passes
          ∙ ap (λ (s : ℕ). smallest 16 255 (λ j. not (j =? i) && holds sheet records j s)) (sym way_is)
