-- That steps keep document 01's limits can be shown in one way at most.
use Rattle.std.specs.Prelude.{ℕ, List, [], ◌∷◌}
use Rattle.std.specs.Coded.{×_prop, Unit-prop, le_prop}
use Rattle.rules.specs.Sheet.{Step, run, lock, unlock}
use Rattle.rules.specs.Laws.{All, StepLimits}

pub step_prop : (m : ℕ) (x : Step) → IsProp (StepLimits m x)
step_prop m (run n) = ×_prop le_prop le_prop
step_prop m (lock s) = le_prop
step_prop m (unlock s) = le_prop

pub steps_prop : (m : ℕ) (steps : List Step) → IsProp (All (StepLimits m) steps)
steps_prop m [] = Unit-prop
steps_prop m (x ∷ steps) = ×_prop (step_prop m x) (steps_prop m steps)
