-- The sections that are open behind some steps, as the reader keeps them while it goes.
use Rattle.std.specs.Prelude.{ℕ, List, ◌∷◌, Bool, true, false, drop}
use Rattle.rules.specs.Sheet.{Step, run, lock, unlock, held}
use Rattle.rules.specs.Reading.{after_lock}
pub use Rattle.rules.specs.Laws.{Distinct}

-- What 12 looks at: the semaphores that are held, the newest first, and whether a lock stands right before.
pub record Open : Type 0 where
  pub held : List ℕ
  pub locked : Bool

-- Behind some steps,
abbrev pub open_behind : List Step → Open
open_behind before = record { held = held before; locked = after_lock before }

-- and behind one step more that is well placed: the semaphore of a lock is the newest, and an unlock takes the newest away.
abbrev pub open_with : Open → Step → Open
open_with nest (run n) = record { held = nest.held; locked = false }
open_with nest (lock s) = record { held = s ∷ nest.held; locked = true }
open_with nest (unlock s) = record { held = drop 1 nest.held; locked = false }
