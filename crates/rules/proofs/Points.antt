-- The laxity is the largest slack over the points. A largest value is negative where each value is, and a slack where the
-- demand is above the time.
use Prim.Native.Nat.{ℕ, zero, suc, ◌+◌, ◌-◌, ◌*◌, ◌/◌, ◌≤◌, ◌<◌}
use mathlib.Core.Path.{◌≡◌, refl, sym, ap, ◌∙◌, subst, ap₂}
use mathlib.Core.Logic.{◌↔◌, ⊎_elim}
use mathlib.Core.List.{List}
use mathlib.Core.Bool.{Bool, true, false}
use native.Mathlib.Omega.{arith}
use native.Mathlib.Nat.{le-div_iff_mul-le}
use lib.Dec.{ltb, leb}
use lib.ListN.{length}
use lib.IntN.{ℤ, pos, negsuc, ◌-ℤ◌}
use lib.Signed.{le_z}
use borrow.Author.Tests.{lt-ltb, ltb-true, lt-leb, le-leb}
use Rattle.std.specs.Prelude.{if◌then◌else◌}
use Rattle.rules.specs.Sheet.{Sheet, task_at}
use Rattle.rules.specs.Reading.{read, read_sheet}
use Rattle.rules.specs.Bounds.{demand, slack, larger, largest_of, laxity}
use Rattle.rules.proofs.Laws.{sure, below, true_false, and_at, if_cases}
use Rattle.rules.proofs.Reading.{periods}
use Rattle.rules.specs.Laws.{Point, ◌≼◌, LaxityLargest, Negative, NegativeExactly}

-- the larger of two is negative where both are
larger_negative : (x y : ℤ) → Negative (larger x y) ↔ (Negative x × Negative y)
unfolding larger
larger_negative (pos a) (pos b) = go (leb a b)
  where
    go : (c : Bool) → Negative (if c then pos b else pos a) ↔ (Negative (pos a) × Negative (pos b))
    go true = ((λ e. (e, e)), (λ e. e.1))
    go false = ((λ e. (e, e)), (λ e. e.1))
larger_negative (pos a) (negsuc b) = ((λ e. (e, refl)), (λ e. e.0))
larger_negative (negsuc a) (pos b) = ((λ e. (refl, e)), (λ e. e.1))
larger_negative (negsuc a) (negsuc b) = go (leb b a)
  where
    go : (c : Bool) → Negative (if c then negsuc b else negsuc a) ↔ (Negative (negsuc a) × Negative (negsuc b))
    go true = ((λ e. (refl, refl)), (λ e. refl))
    go false = ((λ e. (refl, refl)), (λ e. refl))

-- the largest of values that are the same
pub largest_of_same : (n : ℕ) (a b : ℤ) (f g : ℕ → ℤ) → a ≡ b → ((i : ℕ) → i < n → f i ≡ g i) → largest_of n a f ≡ largest_of n b g
unfolding largest_of
largest_of_same zero a b f g e h = e
largest_of_same (suc n) a b f g e h = ap₂ larger (largest_of_same n a b f g e (λ i l. h i (omega arith))) (h n (omega arith))

-- the order
≼_refl : (x : ℤ) → x ≼ x
≼_refl (pos a) = omega arith
≼_refl (negsuc a) = omega arith

pub ≼_trans : (x y z : ℤ) → x ≼ y → y ≼ z → x ≼ z
≼_trans (pos a) (pos b) (pos c) p q = omega arith
≼_trans (pos a) (pos b) (negsuc c) p q = q
≼_trans (pos a) (negsuc b) z p q = absurd p
≼_trans (negsuc a) (pos b) (pos c) p q = tt
≼_trans (negsuc a) (pos b) (negsuc c) p q = absurd q
≼_trans (negsuc a) (negsuc b) (pos c) p q = tt
≼_trans (negsuc a) (negsuc b) (negsuc c) p q = omega arith

-- the larger of two is at least each
larger_left : (x y : ℤ) → x ≼ larger x y
unfolding larger
larger_left (pos a) (pos b) = ⊎_elim (λ u. rw (lt-leb a b u) (omega arith)) (λ u. rw (le-leb a b u) u) (below b a)
larger_left (pos a) (negsuc b) = omega arith
larger_left (negsuc a) (pos b) = tt
larger_left (negsuc a) (negsuc b) = ⊎_elim (λ u. rw (lt-leb b a u) (omega arith)) (λ u. rw (le-leb b a u) u) (below a b)

larger_right : (x y : ℤ) → y ≼ larger x y
unfolding larger
larger_right (pos a) (pos b) = ⊎_elim (λ u. rw (lt-leb a b u) (omega arith)) (λ u. rw (le-leb a b u) (omega arith)) (below b a)
larger_right (pos a) (negsuc b) = tt
larger_right (negsuc a) (pos b) = omega arith
larger_right (negsuc a) (negsuc b) = ⊎_elim (λ u. rw (lt-leb b a u) (omega arith)) (λ u. rw (le-leb b a u) (omega arith)) (below a b)

-- so is the largest of many, and what holds of each of them holds of it
module _ (first : ℤ) (f : ℕ → ℤ) where
  pub largest_first : (n : ℕ) → first ≼ largest_of n first f
  unfolding largest_of
  largest_first zero = ≼_refl first
  largest_first (suc n) = ≼_trans first (largest_of n first f) _ (largest_first n) (larger_left (largest_of n first f) (f n))

  pub largest_at_least : (n j : ℕ) → j < n → f j ≼ largest_of n first f
  unfolding largest_of
  largest_at_least zero j l = absurd (omega arith)
  largest_at_least (suc n) j l = ⊎_elim
      (λ u. ≼_trans (f j) (largest_of n first f) _ (largest_at_least n j u) (larger_left (largest_of n first f) (f n)))
      (λ u. subst (λ (x : ℕ). f x ≼ larger (largest_of n first f) (f n)) (let z : n ≡ j = omega arith in z) (larger_right (largest_of n first f) (f n)))
      (below j n)

  pub largest_has : (P : ℤ → Type 0) (n : ℕ) → P first → ((j : ℕ) → j < n → P (f j)) → P (largest_of n first f)
  unfolding largest_of larger
  largest_has P zero p h = p
  largest_has P (suc n) p h = if_cases P (le_z (largest_of n first f) (f n)) _ _ (λ e. h n (omega arith)) (λ e. largest_has P n p (λ j l. h j (omega arith)))

abbrev AllNegative : ℕ → ℤ → (ℕ → ℤ) → Type 0
AllNegative n first f = Negative first × ((j : ℕ) → j < n → Negative (f j))

largest_negative : (n : ℕ) (first : ℤ) (f : ℕ → ℤ) → Negative (largest_of n first f) ↔ AllNegative n first f
unfolding largest_of
largest_negative zero first f = ((λ e. (e, λ j l. absurd (omega arith))), (λ h. h.0))
largest_negative (suc n) first f =
    let two = larger_negative (largest_of n first f) (f n) in
    let less = largest_negative n first f in (
      (λ e. ((less.0 (two.0 e).0).0, and_at (λ j. Negative (f j)) n (less.0 (two.0 e).0).1 (two.0 e).1)),
      (λ h. two.1 (less.1 (h.0, λ j l. h.1 j (omega arith)), h.1 n (omega arith))),
    )

-- t less d is negative where d is above t
minus_negative : (t d : ℕ) → Negative (pos t -ℤ pos d) ↔ (t < d)
minus_negative t zero = ((λ e. true_false true refl e), (λ l. absurd (omega arith)))
minus_negative t (suc n) = ⊎_elim
    (λ u. ((λ e. ltb-true t (suc n) u), (λ l. rw u refl)))
    (λ u. ((λ e. true_false true refl (rw u at e)), (λ l. true_false (ltb t (suc n)) (lt-ltb t (suc n) l) u)))
    (sure (ltb t (suc n)))

slack_negative : (sheet : Sheet) (i t : ℕ) → Negative (slack sheet i t) ↔ (t < demand sheet i t)
unfolding slack
slack_negative sheet i t = minus_negative t (demand sheet i t)

module _ (bytes : List ℕ) (sheet : Sheet) (e : read_sheet bytes ≡ read sheet) (i : ℕ) (h : i < length sheet.tasks) where
  abbrev period : ℕ → ℕ
  period k = (task_at sheet k).period

  abbrev NonePasses : Type 0
  NonePasses = (t : ℕ) → Point sheet i t → t < demand sheet i t

  -- the points of rank k
  abbrev points : ℕ → ℕ → ℤ
  points k l = slack sheet i ((l + 1) * period k)

  fits : (k l : ℕ) → k ≤ i → (l ≤ period i / period k) ↔ (l * period k ≤ period i)
  fits k l m = le-div_iff_mul-le {k = period k} {x = l} {y = period i} (periods bytes sheet e k (omega arith))

  inner : (k : ℕ) → Negative (largest_of (period i / period k) (slack sheet i (period i)) (points k)) ↔ AllNegative (period i / period k) (slack sheet i (period i)) (points k)
  inner k = largest_negative (period i / period k) (slack sheet i (period i)) (points k)

  outer : Negative (laxity sheet i) ↔ AllNegative (i + 1) (slack sheet i (period i)) (λ k. largest_of (period i / period k) (slack sheet i (period i)) (points k))
  unfolding laxity
  outer = largest_negative (i + 1) (slack sheet i (period i)) (λ k. largest_of (period i / period k) (slack sheet i (period i)) (points k))

  at_last : NonePasses → Negative (slack sheet i (period i))
  at_last z = (slack_negative sheet i (period i)).1
      (z (period i) (record { k = i; l = 1; rank = omega arith; from = omega arith; time = omega arith; within = omega arith }))

  none_passes : Negative (laxity sheet i) → NonePasses
  none_passes z t p =
      let l : p.l ≤ period i / period p.k = (fits p.k p.l p.rank).1 (subst (λ x. x ≤ period i) p.time p.within) in
      let one : p.l - 1 + 1 ≡ p.l = omega (arith, p.from) in
      let r = ((inner p.k).0 ((outer.0 z).1 p.k (omega (arith, p.rank)))).1 (p.l - 1) (omega (arith, p.from)) in
      subst (λ x. x < demand sheet i x) (ap (λ (x : ℕ). x * period p.k) one ∙ sym p.time) ((slack_negative sheet i ((p.l - 1 + 1) * period p.k)).0 r)

  negative : NonePasses → Negative (laxity sheet i)
  negative z = outer.1 (
    at_last z,
    λ k m. (inner k).1 (
      at_last z,
      λ j n. (slack_negative sheet i ((j + 1) * period k)).1
          (z ((j + 1) * period k) (record { k = k; l = j + 1; rank = omega arith; from = omega arith; time = refl; within = (fits k (j + 1) (omega arith)).0 (omega arith) })),
    ),
  )

  -- the slack at a point of rank k, and the slack at the last, are slacks at points
  abbrev AtPoint : ℤ → Type 0
  AtPoint z = (t : ℕ) × Point sheet i t × (z ≡ slack sheet i t)

  last_point : AtPoint (slack sheet i (period i))
  last_point = (period i, record { k = i; l = 1; rank = omega arith; from = omega arith; time = omega arith; within = omega arith }, refl)

  inner_point : (k : ℕ) → k < i + 1 → AtPoint (largest_of (period i / period k) (slack sheet i (period i)) (points k))
  inner_point k m = largest_has (slack sheet i (period i)) (points k) AtPoint (period i / period k) last_point (λ j n. (
    (j + 1) * period k,
    record { k = k; l = j + 1; rank = omega arith; from = omega arith; time = refl; within = (fits k (j + 1) (omega arith)).0 (omega arith) },
    refl,
  ))

  laxity_point : AtPoint (laxity sheet i)
  unfolding laxity
  laxity_point = largest_has (slack sheet i (period i)) (λ k. largest_of (period i / period k) (slack sheet i (period i)) (points k)) AtPoint (i + 1) last_point inner_point

  -- and the laxity is at least each
  at_least_each : (t : ℕ) → Point sheet i t → slack sheet i t ≼ laxity sheet i
  unfolding laxity
  at_least_each t p =
      let k = p.k in
      let l : p.l ≤ period i / period k = (fits k p.l p.rank).1 (subst (λ x. x ≤ period i) p.time p.within) in
      let one : p.l - 1 + 1 ≡ p.l = omega (arith, p.from) in
      let same : slack sheet i ((p.l - 1 + 1) * period k) ≡ slack sheet i t = ap (slack sheet i) (ap (λ (x : ℕ). x * period k) one ∙ sym p.time) in
      let here = largest_at_least (slack sheet i (period i)) (points k) (period i / period k) (p.l - 1) (omega (arith, p.from)) in
      ≼_trans (slack sheet i t) (largest_of (period i / period k) (slack sheet i (period i)) (points k)) _
      (subst (λ (z : ℤ). z ≼ largest_of (period i / period k) (slack sheet i (period i)) (points k)) same here)
      (largest_at_least (slack sheet i (period i)) (λ k. largest_of (period i / period k) (slack sheet i (period i)) (points k)) (i + 1) k (omega (arith, p.rank)))

-- THE LAW: the laxity is the largest slack over the points
pub laxity_largest : LaxityLargest
laxity_largest bytes sheet e i h =
    let w = laxity_point bytes sheet e i h in
    record { time = w.0; point = w.1; there = w.2; largest = at_least_each bytes sheet e i h }

-- THE LAW: it is negative exactly where no point carries its demand
pub negative_exactly : NegativeExactly
negative_exactly bytes sheet e i h = (none_passes bytes sheet e i h, negative bytes sheet e i h)
