-- What a step in the table means, and what stands at a place of a task's steps.
use Rattle.std.specs.Prelude.{ℕ, List, [], ◌∷◌, Bool, false, Option, Some, None}
use Rattle.rules.specs.Sheet.{Step as Rules·Step, run, lock, unlock}
use Rattle.rules.specs.Reading.{byte, word, step_of}
use Rattle.table.specs.declared.Step.{Step}
use Rattle.table.specs.declared.Step.TheVariants.{Run, Lock, Unlock}

-- Document 01's step.
abbrev pub meant : Step → Rules·Step
meant (Run n) = run n
meant (Lock s) = lock s
meant (Unlock s) = unlock s

-- The step that three bytes are: a kind, and a 16-bit number behind it.
unfoldable pub said : (bytes : List ℕ) → Rules·Step
said bytes = step_of (byte bytes 0) (word bytes 1)

-- The first of some steps.
unfoldable pub here : List Rules·Step → Option Step
here [] = None
here (run n ∷ steps) = Some (Run n)
here (lock s ∷ steps) = Some (Lock s)
here (unlock s ∷ steps) = Some (Unlock s)

-- A step stands there and passes a test.
unfoldable pub here_is : (Rules·Step → Bool) → Option Step → Bool
here_is test (Some x) = test (meant x)
here_is test None = false

-- The semaphore that a step locks or unlocks.
abbrev pub semaphore_in : Rules·Step → Option ℕ
semaphore_in (run n) = None
semaphore_in (lock s) = Some s
semaphore_in (unlock s) = Some s
