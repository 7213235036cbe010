-- What a job holds, against the holders: sixteen numbers, one entry per semaphore, the holder's rank or 255.
use Rattle.std.specs.Prelude.{ℕ, List, Bool, ◌||◌, get_or}
use Rattle.rules.specs.Words.{◌=?◌, ◌⇒◌, every}
use Rattle.rules.specs.Sheet.{Task}
use Rattle.rules.specs.Record.{carries}
use Rattle.rules.specs.declared.Job.{Job}

-- A semaphore of holder `own`, 255 if nobody holds it, has no other holder h; so of each semaphore.
unfoldable pub same_holder : (own h : ℕ) → Bool
same_holder own h = own =? 255 || h =? own

unfoldable pub same_holders : (own hs : List ℕ) → Bool
same_holders own hs = every 16 λ s. same_holder (get_or own s 0) (get_or hs s 0)

-- Each semaphore that a job of rank i holds has rank i for its holder.
unfoldable pub holds_alone : (i : ℕ) → Task → Job → (hs : List ℕ) → Bool
holds_alone i task j hs = every 16 λ s. carries task j s ⇒ get_or hs s 0 =? i
