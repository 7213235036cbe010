-- THE TASK SHEET.
use Rattle.std.specs.Prelude.{ℕ, ◌≤◌, ◌<◌, ◌≡◌, List, [], ◌∷◌, ◌++◌, Bool, true, false, length, get_or, if◌then◌else◌}
use Rattle.rules.specs.Words.{◌=?◌, among}

-- A step runs for some ticks, locks a semaphore or unlocks one.
pub data Step : Type 0 where
  run lock unlock : ℕ → Step

-- A task is a period, an offset and its steps.
pub record Task : Type 0 where
  pub period : ℕ
  pub offset : ℕ
  pub steps : List Step

-- The tasks stand by rank: the first has rank 0, the highest. Mode 0 is the ceiling protocol, 1 with the preemption rule.
-- Any numbers may stand here: those of an accepted sheet keep the limits in Laws.antt.
pub record Sheet : Type 0 where
  pub mode : ℕ
  pub semaphores : ℕ
  pub tasks : List Task

-- The task of a rank; past the last one without steps.
abbrev pub no_task : Task
no_task = record { period = 0; offset = 0; steps = [] }

unfoldable pub task_at : Sheet → (i : ℕ) → Task
task_at sheet i = get_or sheet.tasks i no_task

-- A body is a row of runs and sections; a section is a lock, a body with at least one item, and an unlock of the same
-- semaphore. Sections stand at most four deep, and none locks a semaphore that an enclosing one locks.
pub data Body : (outer : List ℕ) → List Step → Type 0 where
  end : {outer : List ℕ} → Body outer []
  a_run : {outer : List ℕ} {n : ℕ} {rest : List Step} → Body outer rest → Body outer (run n ∷ rest)
  a_section : {outer : List ℕ} {s : ℕ} {inside rest : List Step}
      → among s outer ≡ false → length outer < 4 → 1 ≤ length inside → Body (s ∷ outer) inside
      → Body outer rest → Body outer (lock s ∷ inside ++ (unlock s ∷ rest))

unfoldable pub is_run : Step → Bool
is_run = elim [ run n ↦ true | lock s ↦ false | unlock s ↦ false ]

unfoldable pub is_lock : Step → Bool
is_lock = elim [ run n ↦ false | lock s ↦ true | unlock s ↦ false ]

unfoldable pub is_unlock : Step → Bool
is_unlock = elim [ run n ↦ false | lock s ↦ false | unlock s ↦ true ]

unfoldable pub is_lock_of : (s : ℕ) → Step → Bool
is_lock_of s = elim [ run n ↦ false | lock u ↦ u =? s | unlock u ↦ false ]

-- What steps have locked and not unlocked, the newest first: on top of what was held before them. Right only for steps
-- that pass 12, as those of an accepted sheet do: an unlock is of the newest, and nothing is held twice.
unfoldable pub without : (s : ℕ) → List ℕ → List ℕ
without s [] = []
without s (u ∷ us) = if u =? s then without s us else u ∷ without s us

unfoldable pub held_on_top : (before : List ℕ) → List Step → List ℕ
held_on_top before [] = before
held_on_top before (run n ∷ steps) = held_on_top before steps
held_on_top before (lock s ∷ steps) = held_on_top (s ∷ before) steps
held_on_top before (unlock s ∷ steps) = held_on_top (without s before) steps

unfoldable pub held : List Step → List ℕ
held steps = held_on_top [] steps
