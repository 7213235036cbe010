-- Laws of the sixteen entries along steps, as the code goes.
use Rattle.std.proofs.Common.{ℕ, zero, suc, ◌+◌, ◌-◌, ◌≤◌, ◌<◌, ◌≡◌, refl, sym, ap, ◌∙◌, List, [], ◌∷◌, Bool, true, false, map, ⊎_elim, get_or, set, length, take, drop, min, if◌then◌else◌, arith, add-one}
use Rattle.std.proofs.lemmas.List.{set-get_or, take-map, drop-map, take_min, length-drop}
use Rattle.std.proofs.Math.Seq.{drop-cons, take-nil}
use Rattle.rules.specs.Words.{◌=?◌}
use Rattle.rules.specs.Sheet.{Step as Rules·Step}
use Rattle.rules.proofs.Laws.{below}
use Rattle.table.specs.Steps.{meant, said}
use Rattle.table.specs.declared.Step.{Step}
use Rattle.table.specs.declared.Step.TheVariants.{Run, Lock, Unlock}
use Rattle.table.proofs.Laws.{drop_past}
use Rattle.holders.specs.Holders.{entry_after, after_step, after_steps}

-- an entry past the end stays as it is
set_past : (hs : List ℕ) (s x : ℕ) → length hs ≤ s → set hs s x ≡ hs
set_past [] s x l = refl
set_past (h ∷ hs) zero x l = absurd (omega arith)
set_past (h ∷ hs) (suc s) x l = ap (◌∷◌ h) (set_past hs s x (omega arith))

-- a step, by its kind
pub step_by : (i : ℕ) (x : Step) (hs : List ℕ) → after_step i (meant x) hs
    ≡ (elim x [ Run n ↦ hs | Lock s ↦ (if get_or hs s 0 =? 255 then set hs s i else hs) | Unlock s ↦ (if get_or hs s 0 =? i then set hs s 255 else hs) ])
unfolding after_step entry_after
step_by i (Run n) hs = refl
step_by i (Lock s) hs = entry (get_or hs s 0 =? 255)
  where
    entry : (b : Bool) → set hs s (if b then i else get_or hs s 0) ≡ (if b then set hs s i else hs)
    entry true = refl
    entry false = set-get_or hs s 0
step_by i (Unlock s) hs = entry (get_or hs s 0 =? i)
  where
    entry : (b : Bool) → set hs s (if b then 255 else get_or hs s 0) ≡ (if b then set hs s 255 else hs)
    entry true = refl
    entry false = set-get_or hs s 0

-- and of a semaphore past the last entry
pub past_lock : (i s : ℕ) (x : Step) (hs : List ℕ) → x ≡ Lock s → length hs ≤ s → hs ≡ after_step i (meant x) hs
unfolding after_step
past_lock i s x hs e l = rw e (sym (set_past hs s _ l))

pub past_unlock : (i s : ℕ) (x : Step) (hs : List ℕ) → x ≡ Unlock s → length hs ≤ s → hs ≡ after_step i (meant x) hs
unfolding after_step
past_unlock i s x hs e l = rw e (sym (set_past hs s _ l))

-- the steps from one position to another, cut where there are fewer
module _ {A : Type 0} (xs : List A) (from to end start : ℕ) (e : end ≡ min to (length xs)) (b : start ≡ min from end) where
  nothing : end ≤ from → [] ≡ take (to - from) (drop from xs)
  nothing l = ⊎_elim
      (λ (m : to < suc from). let z : to - from ≡ 0 = omega arith in rw z refl)
      (λ (m : suc from ≤ to). sym (ap (take (to - from)) (drop_past xs from (omega arith)) ∙ take-nil (to - from)))
      (below to (suc from))

  pub cut : take (end - start) (drop start xs) ≡ take (to - from) (drop from xs)
  cut = ⊎_elim
      (λ (l : from < end).
      let begins : start ≡ from = omega arith in
      let ends : end - start ≡ min (to - from) (length (drop from xs)) = omega (arith, length-drop from xs) in
      rw (ends, begins) (take_min (to - from) (drop from xs)))
      (λ (l : end ≤ from). let none : end - start ≡ 0 = omega arith in rw none (nothing l))
      (below from end)

-- along steps: those passed, and those ahead
module _ (i : ℕ) (steps : List (List ℕ)) (p : ℕ) (hs found : List ℕ) (inv : after_steps i (map said (drop p steps)) hs ≡ found) where
  pub pass_more : p < length steps → (x : Step) (d : List ℕ) → meant x ≡ said (get_or steps p d)
      → (next : List ℕ) → next ≡ after_step i (meant x) hs → after_steps i (map said (drop (p + 1) steps)) next ≡ found
  unfolding after_steps
  pass_more l x d is next e = rw (e, is, add-one p) (rw (drop-cons steps p d l) at inv)

  passed : length steps ≤ p → hs ≡ found
  unfolding after_steps
  passed l = rw (drop_past steps p l) at inv

-- all of them
module _ (i : ℕ) (steps : List (List ℕ)) (from to end start : ℕ) (b : end ≡ min to (length steps)) (f : start ≡ min from end) where
  pub pass_all : (p : ℕ) (hs before : List ℕ)
      → after_steps i (map said (drop p (take (end - start) (drop start steps)))) hs ≡ after_steps i (map said (take (end - start) (drop start steps))) before
      → length (take (end - start) (drop start steps)) ≤ p
      → hs ≡ after_steps i (take (to - from) (drop from (map said steps))) before
  pass_all p hs before inv l =
      passed i (take (end - start) (drop start steps)) p hs _ inv l
      ∙ ap (λ (xs : List Rules·Step). after_steps i xs before)
      (ap (map said) (cut steps from to end start b f) ∙ sym (take-map said (to - from) (drop from steps)) ∙ ap (take (to - from)) (sym (drop-map said from steps)))
