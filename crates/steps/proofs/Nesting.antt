-- Laws of the nest: its semaphores stand in reverse, the newest last.
use Rattle.std.proofs.Common.{ℕ, ◌+◌, ◌-◌, ◌<◌, ◌≤◌, ◌≡◌, refl, sym, ap, ◌∙◌, List, [], ◌∷◌, ◌++◌, reverse, length, take, drop, set, get_or, replicate, drop-drop, Bool, true, false, not, ◌||◌, arith, slice_get, Option, Some, nat_eq}
use Rattle.std.specs.List.{list_any}
use Rattle.std.specs.Option.{option_eq}
use Rattle.std.proofs.lemmas.List.{reverse-reverse, reverse-append, take_more, take_more_set, take-set, drop-set-lt, drop-replicate}
use Rattle.std.proofs.lemmas.List.Sorted.{list_any-IsPermutation, IsPermutation-reverse}
use Rattle.std.proofs.lemmas.Grind.{common_steps, reverse_onto}
use Rattle.std.proofs.lemmas.Option.{gets}
use borrow.Author.Tests.{leb-false, not-false}
use Rattle.rules.specs.Words.{◌≤?◌, ◌=?◌, any, among}
use Rattle.rules.specs.Sheet.{Step as Rules·Step, run, lock, unlock, is_lock, held_on_top, held, without}
use Rattle.rules.specs.Reading.{misplaced_in, misplaced, after_lock}
use Rattle.rules.specs.Laws.{Distinct}
use Rattle.rules.proofs.Laws.{true_false, or_right, or_false, or_no}
use Rattle.rules.proofs.Nesting.{held_snoc, after_snoc, or_too, without_newest, newest}
use Rattle.table.specs.Steps.{meant}
use Rattle.table.specs.declared.Step.{Step}
use Rattle.table.specs.declared.Step.TheVariants.{Run, Lock, Unlock}
use Rattle.steps.specs.Nesting.{Open, open_behind, open_with}
use Rattle.steps.specs.Places.{same_depth}

-- behind no steps none is open
pub none_open : open_behind [] ≡ record { held = []; locked = false }
unfolding held held_on_top after_lock any
none_open = refl

-- an unlock that is well placed takes the newest away, and that alone where no two are the same
popped : (s : ℕ) (h : List ℕ) (b : Bool) → Distinct h → (not (among s (take 1 h)) || b) ≡ false → (drop 1 h ≡ without s h) × Distinct (drop 1 h)
unfolding among any
popped s [] b d e = true_false true refl e
popped s (u ∷ h) b d e =
    let same : u ≡ s = newest s u (not-false (among s (u ∷ [])) (or_no (not (among s (u ∷ []))) b e)) in
    (sym (ap (λ v. without v (u ∷ h)) (sym same) ∙ without_newest u h d.0), d.1)

-- so behind steps that are well placed no two are the same, and the nest behind one more is that of the steps with it
stepped : (q : Open) (x : Rules·Step) → Distinct q.held → misplaced_in q.held q.locked x ≡ false
    → (open_with q x ≡ record { held = held_on_top q.held (x ∷ []); locked = is_lock x }) × Distinct (open_with q x).held
unfolding misplaced_in held_on_top is_lock
stepped q (run n) d e = (refl, d)
stepped q (lock s) d e = (refl, (or_no (among s q.held) _ e, d))
stepped q (unlock s) d e = let p = popped s q.held q.locked d e in (ap (λ (h : List ℕ). record { held = h; locked = false }) p.0, p.1)

-- the same of a nest that is known to be that one
pub still_distinct : (q : Open) (x : Rules·Step) → misplaced_in q.held q.locked x ≡ false → (more : Open) → more ≡ open_with q x
    → Distinct q.held → (more ≡ record { held = held_on_top q.held (x ∷ []); locked = is_lock x }) × Distinct more.held
still_distinct q x placed more e d = let s = stepped q x d placed in (e ∙ s.0, rw e s.1)

-- the nest of steps and one more, whatever they are,
pub behind_more : (before : List Rules·Step) (x : Rules·Step)
    → record { held = held_on_top (open_behind before).held (x ∷ []); locked = is_lock x } ≡ open_behind (before ++ (x ∷ []))
unfolding held
behind_more before x = rw (held_snoc [] before (x ∷ []), after_snoc before x) refl

-- and of one more that is well placed
pub behind_placed : (before : List Rules·Step) (x : Rules·Step) → Distinct (held before) → misplaced before x ≡ false
    → (open_with (open_behind before) x ≡ open_behind (before ++ (x ∷ []))) × Distinct (held (before ++ (x ∷ [])))
unfolding misplaced
behind_placed before x d e =
    let s = stepped (open_behind before) x d e in
    let more : open_with (open_behind before) x ≡ open_behind (before ++ (x ∷ [])) = s.0 ∙ behind_more before x in
    (more, rw (← ap (λ (o : Open). o.held) more) s.1)

-- the rules' word and std's
any_is : {A : Type 0} (p : A → Bool) (xs : List A) → any p xs ≡ list_any p xs
unfolding any
any_is p [] = refl
any_is p (x ∷ xs) = ap (λ b. p x || b) (any_is p xs)

-- the newest of them stands last
newest_last : (h : List ℕ) → slice_get (reverse h) (length (reverse h) - 1) ≡ slice_get h 0
newest_last [] = refl
newest_last (x ∷ h) = let e = reverse_onto h x [] in grind (arith, common_steps, gets)

newest_is : (s : ℕ) (h : List ℕ) → among s (take 1 h) ≡ option_eq nat_eq (slice_get (reverse h) (length (reverse h) - 1)) (Some s)
unfolding among any
newest_is s [] = refl
newest_is s (u ∷ h) = rw (newest_last (u ∷ h)) (or_false (u =? s))

newest_as_it_stands : (s : ℕ) (items : List ℕ) → among s (take 1 (reverse items)) ≡ option_eq nat_eq (slice_get items (length items - 1)) (Some s)
newest_as_it_stands s items = newest_is s (reverse items) ∙ ap (λ xs. option_eq nat_eq (slice_get xs (length xs - 1)) (Some s)) (reverse-reverse items)

-- 12, by the semaphores as they stand
module _ (q : Open) (x : Step) where
  pub placed_run : (n : ℕ) → x ≡ Run n → false ≡ misplaced_in q.held q.locked (meant x)
  unfolding misplaced_in
  placed_run n u = rw u refl

  module _ (s : ℕ) (u : x ≡ Lock s) (full : Bool) (ef : full ≡ (4 ≤? length q.held)) where
    pub fifth_level : full ≡ true → full ≡ misplaced_in q.held q.locked (meant x)
    unfolding misplaced_in
    fifth_level t = rw (u, ← ef, t) (sym (or_right (among s q.held) true refl))

    pub already_held : full ≡ false → (items : List ℕ) → reverse items ≡ q.held → (b : Bool) → b ≡ list_any (λ y. y =? s) items → b ≡ misplaced_in q.held q.locked (meant x)
    unfolding misplaced_in among
    already_held t items e b eb =
        rw (u, ← ef, t, or_false, any_is, eb, ← e)
        (list_any-IsPermutation (λ y. y =? s) items (reverse items) (IsPermutation-reverse items))

  module _ (items : List ℕ) (e : reverse items ≡ q.held) (s : ℕ) (u : x ≡ Unlock s) (o newest : Option ℕ) (eo : o ≡ slice_get items (length items - 1)) (en : newest ≡ o) (b : Bool)
      (eb : b ≡ not (option_eq nat_eq newest (Some s))) where
    unlocked : misplaced_in q.held q.locked (meant x) ≡ (b || q.locked)
    unfolding misplaced_in
    unlocked = rw (← e, u, eb, en, eo) (ap (λ b. not b || q.locked) (newest_as_it_stands s items))

    pub not_newest : b ≡ true → b ≡ misplaced_in q.held q.locked (meant x)
    not_newest t = rw (unlocked, t) refl

    pub after_a_lock : b ≡ false → (h : List ℕ) (locked : Bool) → record { held = h; locked = locked } ≡ q → locked ≡ misplaced_in q.held q.locked (meant x)
    after_a_lock t h locked v = rw (unlocked, t, ← v) refl

-- all but the newest
one_less : (places : List ℕ) (depth : ℕ) → 1 ≤ depth → depth ≤ length places → reverse (take (depth - 1) places) ≡ drop 1 (reverse (take depth places))
one_less places depth l few =
    let last : depth - 1 + 1 ≡ depth = omega arith in
    let more : take depth places ≡ take (depth - 1) places ++ get_or places (depth - 1) 0 ∷ [] = sym (ap (λ (n : ℕ). take n places) last) ∙ take_more places (depth - 1) 0 (omega arith) in
    rw (more, reverse-append) refl

-- 12 passed, by the places: a lock has room, and an unlock is of one that is held
module _ (q : Open) (places : List ℕ) (depth : ℕ) (locked : Bool) (e : record { held = reverse (take depth places); locked = locked } ≡ q) (four : length places ≡ 4)
    (few : depth ≤ 4) (x : Step) (placed : misplaced_in q.held q.locked (meant x) ≡ false) where
  many : length q.held ≡ depth
  many = rw (← e) (same_depth places depth four few)

  pub room : (s : ℕ) → x ≡ Lock s → depth < 4
  unfolding misplaced_in
  room s u = omega (arith, many, leb-false 4 (length q.held) (or_too (among s q.held) _ (rw u at placed)))

  pub one_open : (s : ℕ) → x ≡ Unlock s → 1 ≤ depth
  unfolding misplaced_in among any
  one_open s u = rw (← many) (go q.held (or_no (not (among s (take 1 q.held))) q.locked (rw u at placed)))
    where
      go : (h : List ℕ) → not (among s (take 1 h)) ≡ false → 1 ≤ length h
      go [] f = true_false true refl f
      go (v ∷ h) f = omega arith

  -- the nest behind it
  pub behind_run : (n : ℕ) → x ≡ Run n → (b : Bool) → b ≡ false → record { held = reverse (take depth places); locked = b } ≡ open_with q (meant x)
  behind_run n u b eb = rw (eb, u, ← e) refl

  pub behind_lock : (s : ℕ) → x ≡ Lock s → (b : Bool) → b ≡ true → record { held = reverse (take (depth + 1) (set places depth s)); locked = b } ≡ open_with q (meant x)
  behind_lock s u b eb = rw (eb, u, ← e, take_more_set places depth s (omega (arith, room s u, four)), reverse-append) refl

  pub behind_unlock : (s : ℕ) → x ≡ Unlock s → (b : Bool) → b ≡ false → record { held = reverse (take (depth - 1) (set places (depth - 1) 0)); locked = b } ≡ open_with q (meant x)
  behind_unlock s u b eb = rw (eb, u, ← e, take-set) (ap (λ (h : List ℕ). record { held = h; locked = false }) (one_less places depth (one_open s u) (omega (arith, four, few))))

-- a lock alone is one
module _ (x : Step) (b : Bool) (eb : b ≡ is_lock (meant x)) where
  pub a_run : (n : ℕ) → x ≡ Run n → b ≡ false
  unfolding is_lock
  a_run n u = rw (eb, u) refl

  pub a_lock : (s : ℕ) → x ≡ Lock s → b ≡ true
  unfolding is_lock
  a_lock s u = rw (eb, u) refl

  pub an_unlock : (s : ℕ) → x ≡ Unlock s → b ≡ false
  unfolding is_lock
  an_unlock s u = rw (eb, u) refl

-- 0 stands behind one more
pub zeros_more : (places : List ℕ) (depth s : ℕ) → drop depth places ≡ replicate (4 - depth) 0 → drop (depth + 1) (set places depth s) ≡ replicate (4 - (depth + 1)) 0
zeros_more places depth s zeros =
    let less : 4 - depth - 1 ≡ 4 - (depth + 1) = omega arith in
    rw (drop-set-lt (depth + 1) places depth s (omega arith), ← drop-drop 1 depth places, zeros, drop-replicate {X = ℕ} 1 (4 - depth) 0, less) refl
