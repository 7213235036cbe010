-- Laws of what stands at a place: the kinds, the ticks, and a walk over steps that pass a test.
use Rattle.std.proofs.Common.{ℕ, zero, suc, ◌≡◌, refl, List, [], ◌∷◌, Bool, true, false, ◌||◌, length, drop, take, map, Some, None, ◌<◌, ◌≤◌, get_or, arith}
use lib.Seq.{take-nil}
use Rattle.rules.specs.Words.{any}
use Rattle.rules.specs.Sheet.{Step as Rules·Step, run, lock, unlock, is_run, is_lock, is_unlock}
use Rattle.rules.specs.Choice.{full}
use Rattle.table.specs.Steps.{meant, said, here, here_is}
use Rattle.table.specs.declared.Step.{Step}
use Rattle.table.specs.declared.Step.TheVariants.{Run, Lock, Unlock}

-- a step is of one kind
pub kind_is_run : (x : Step) → is_run (meant x) ≡ (elim x [ Run n ↦ true | Lock s ↦ false | Unlock s ↦ false ])
unfolding is_run
kind_is_run (Run n) = refl
kind_is_run (Lock s) = refl
kind_is_run (Unlock s) = refl

pub kind_is_lock : (x : Step) → is_lock (meant x) ≡ (elim x [ Run n ↦ false | Lock s ↦ true | Unlock s ↦ false ])
unfolding is_lock
kind_is_lock (Run n) = refl
kind_is_lock (Lock s) = refl
kind_is_lock (Unlock s) = refl

pub kind_is_unlock : (x : Step) → is_unlock (meant x) ≡ (elim x [ Run n ↦ false | Lock s ↦ false | Unlock s ↦ true ])
unfolding is_unlock
kind_is_unlock (Run n) = refl
kind_is_unlock (Lock s) = refl
kind_is_unlock (Unlock s) = refl

-- the ticks of a step are those left on coming to it
pub ticks_meant : (x : Step) → full (meant x ∷ []) ≡ (elim x [ Run n ↦ n | Lock s ↦ 0 | Unlock s ↦ 0 ])
unfolding full
ticks_meant (Run n) = refl
ticks_meant (Lock s) = refl
ticks_meant (Unlock s) = refl

-- a step as it stands in the table, in front of others
pub here_meant : (x : Step) (steps : List Rules·Step) → here (meant x ∷ steps) ≡ Some x
unfolding here
here_meant (Run n) steps = refl
here_meant (Lock s) steps = refl
here_meant (Unlock s) steps = refl

pub full_here : (steps : List Rules·Step) → full steps ≡ (elim (here steps) [ Some x ↦ full (meant x ∷ []) | None ↦ 0 ])
unfolding here full
full_here [] = refl
full_here (run n ∷ steps) = refl
full_here (lock s ∷ steps) = refl
full_here (unlock s ∷ steps) = refl

-- the first of some steps, and those behind it
module _ (test : Rules·Step → Bool) where
  pub any_first : (m : ℕ) (steps : List Rules·Step) → any test (take (suc m) steps) ≡ (here_is test (here steps) || any test (take m (drop 1 steps)))
  unfolding any here here_is
  any_first m [] = rw (take-nil m) refl
  any_first m (run n ∷ steps) = refl
  any_first m (lock s ∷ steps) = refl
  any_first m (unlock s ∷ steps) = refl

-- what stands at a position of steps that stand in bytes
pub said_here : (steps : List (List ℕ)) (p : ℕ) → p < length steps → (bytes : List ℕ) → bytes ≡ get_or steps p bytes → (x : Step) → meant x ≡ said bytes
    → here (drop p (map said steps)) ≡ Some x
said_here [] p l bytes at x e = absurd (omega arith)
said_here (first ∷ steps) zero l bytes at x e = rw (← at, ← e) (here_meant x (map said steps))
said_here (first ∷ steps) (suc p) l bytes at x e = said_here steps p (omega arith) bytes at x e

pub said_past : (steps : List (List ℕ)) (p : ℕ) → length steps ≤ p → here (drop p (map said steps)) ≡ None
unfolding here
said_past [] zero l = refl
said_past [] (suc p) l = refl
said_past (bytes ∷ steps) zero l = absurd (omega arith)
said_past (bytes ∷ steps) (suc p) l = said_past steps p (omega arith)
