-- What a scan over a task's steps looks at.
use Rattle.std.specs.Prelude.{ℕ, List, Bool, ◌&&◌, Option, Some, None, unwrap_or, drop, if◌then◌else◌}
use Rattle.rules.specs.Words.{◌≤?◌, ◌=?◌, smallest, largest}
use Rattle.rules.specs.Sheet.{Step, Sheet}
use Rattle.rules.specs.Choice.{ceiling}
use Rattle.rules.specs.Bounds.{section_length, begins}

-- The bound of task i counts a section that begins these steps if its semaphore has a ceiling of at most i.
unfoldable pub counts : Sheet → (i : ℕ) → List Step → Bool
counts sheet i steps = begins (λ s. ceiling sheet s ≤? i) steps

-- Its length, if there is one that is counted.
unfoldable pub counted_section : Sheet → (i : ℕ) → List Step → Option ℕ
counted_section sheet i steps = if counts sheet i steps then Some (section_length steps) else None

-- The longest of a task's; 0 if none.
unfoldable pub longest_section : Sheet → (i : ℕ) → List Step → ℕ
longest_section sheet i steps = largest 64 λ k. unwrap_or (counted_section sheet i (drop k steps)) 0

-- The index of the first lock whose section gives a bound of so many ticks, if one does.
unfoldable pub first_giving : Sheet → (i ticks : ℕ) → List Step → Option ℕ
first_giving sheet i ticks steps =
    let k = smallest 64 255 λ k. counts sheet i (drop k steps) && section_length (drop k steps) =? ticks in
    if k =? 255 then None else Some k
