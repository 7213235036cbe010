-- BOUNDS AND LAXITIES.
use Rattle.std.specs.Prelude.{ℕ, zero, suc, ◌+◌, ◌*◌, ◌/◌, ◌%◌, List, [], ◌∷◌, Bool, false, ◌&&◌, drop, Option, Some, None, ℤ, pos, ◌-ℤ◌, if◌then◌else◌}
use Rattle.std.specs.Int.Signed.{le_z}
use Rattle.rules.specs.Words.{◌<?◌, ◌≤?◌, ◌=?◌, some, smallest, largest, total}
use Rattle.rules.specs.Sheet.{Step, run, lock, unlock, Task, Sheet, task_at}
use Rattle.rules.specs.Choice.{ceiling}
use Rattle.rules.specs.declared.Section.{Section}

-- The sum of the runs among steps.
unfoldable pub runs : List Step → ℕ
runs [] = 0
runs (run n ∷ steps) = n + runs steps
runs (lock s ∷ steps) = runs steps
runs (unlock s ∷ steps) = runs steps

-- What stands inside a section of semaphore s: the steps behind its lock up to the unlock.
unfoldable pub inside : (s : ℕ) → List Step → List Step
inside s [] = []
inside s (run n ∷ steps) = run n ∷ inside s steps
inside s (lock u ∷ steps) = lock u ∷ inside s steps
inside s (unlock u ∷ steps) = if u =? s then [] else unlock u ∷ inside s steps

-- The length of a section is the sum of the runs inside it: of the section that begins these steps; 0 where none does.
unfoldable pub section_length : List Step → ℕ
section_length [] = 0
section_length (run n ∷ steps) = 0
section_length (lock s ∷ steps) = runs (inside s steps)
section_length (unlock s ∷ steps) = 0

-- A section begins these steps, and its semaphore passes.
unfoldable pub begins : (ℕ → Bool) → List Step → Bool
begins test [] = false
begins test (run n ∷ steps) = false
begins test (lock s ∷ steps) = test s
begins test (unlock s ∷ steps) = false

-- A section is named by the rank of its task and the index of its lock step. The steps from there on.
unfoldable pub steps_from : Sheet → (j k : ℕ) → List Step
steps_from sheet j k = drop k (task_at sheet j).steps

-- The bound of task i counts the section at j and k: task j is of greater rank, and the semaphore has a ceiling of at most i.
unfoldable pub is_counted : Sheet → (i j k : ℕ) → Bool
is_counted sheet i j k = i <? j && begins (λ s. ceiling sheet s ≤? i) (steps_from sheet j k)

-- Its length, where it is counted.
unfoldable pub counted_length : Sheet → (i j k : ℕ) → ℕ
counted_length sheet i j k = if is_counted sheet i j k then section_length (steps_from sheet j k) else 0

-- The bound B of task i is the largest length of a section of a task of greater rank
-- whose semaphore has a ceiling of at most i; 0 if none. (A task has at most 64 steps.)
unfoldable pub bound : Sheet → (i : ℕ) → ℕ
bound sheet i = largest 16 λ j. largest 64 λ k. counted_length sheet i j k

-- W6. The section at j and k gives a bound of so many ticks to task i.
unfoldable pub gives : Sheet → (i ticks j k : ℕ) → Bool
gives sheet i ticks j k = is_counted sheet i j k && section_length (steps_from sheet j k) =? ticks

abbrev pub section : (rank step : ℕ) → Section
section rank step = record { rank = rank; step = step }

-- What gives the bound of task i: the section of the smallest rank and then of the smallest lock step; nothing if there is none.
unfoldable pub bound_by : Sheet → (i : ℕ) → Option Section
bound_by sheet i =
    let ticks = bound sheet i in
    let rank = smallest 16 255 λ j. some 64 (gives sheet i ticks j) in
    if rank =? 255 then None else Some (section rank (smallest 64 255 (gives sheet i ticks rank)))

-- C is the sum of a task's runs.
unfoldable pub cost : Task → ℕ
cost task = runs task.steps

-- t over a period, rounded up: the quotient, and one more if a remainder is left.
unfoldable pub rounded_up : (t period : ℕ) → ℕ
rounded_up t period = t / period + (if t % period =? 0 then 0 else 1)

-- What task i demands up to t: B and the sum over r at most i of C of r times (t over r's period, rounded up).
unfoldable pub demand : Sheet → (i t : ℕ) → ℕ
demand sheet i t = bound sheet i + total (i + 1) λ r. cost (task_at sheet r) * rounded_up t (task_at sheet r).period

-- t minus B minus that sum.
unfoldable pub slack : Sheet → (i t : ℕ) → ℤ
slack sheet i t = pos t -ℤ pos (demand sheet i t)

-- The larger of two, and the largest of one and n more.
unfoldable pub larger : ℤ → ℤ → ℤ
larger x y = if le_z x y then y else x

unfoldable pub largest_of : (n : ℕ) (first : ℤ) → (ℕ → ℤ) → ℤ
largest_of zero first f = first
largest_of (suc n) first f = larger (largest_of n first f) (f n)

-- The laxity of task i is the largest, over points t = l times the period of task k, k at most i, l from 1, t at most
-- task i's period, of that. (Task i's period itself is such a point.) It may be negative.
unfoldable pub laxity : Sheet → (i : ℕ) → ℤ
laxity sheet i =
    let last = (task_at sheet i).period in
    let atLast = slack sheet i last in
    largest_of (i + 1) atLast λ k.
    let period = (task_at sheet k).period in
    largest_of (last / period) atLast λ l. slack sheet i ((l + 1) * period)
