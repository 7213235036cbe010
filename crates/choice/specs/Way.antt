-- What is in a job's way, from the sixteen ceilings and the sixteen holders.
use Rattle.std.specs.Prelude.{ℕ, List, Bool, true, not, ◌&&◌, take, zip, fold, Option, Some, None, if◌then◌else◌}
use Rattle.rules.specs.Words.{◌<?◌, ◌≤?◌, ◌=?◌}
use Rattle.choice.specs.declared.Way.{Way}

abbrev pub way : (ceiling holder : ℕ) → Way
way ceiling holder = record { ceiling = ceiling; holder = holder }

-- A holder is a job other than i.
unfoldable pub by_other : (i h : ℕ) → Bool
by_other i h = not (h =? 255) && not (h =? i)

-- A ceiling is smaller than that of what was so far, if anything was.
abbrev pub lower : (c : ℕ) → Option Way → Bool
lower c None = true
lower c (Some w) = c <? w.ceiling

-- A semaphore with ceiling c and holder h is in the way of job i, more than what was so far, if another holds it and its
-- ceiling is smaller. Where ceilings are equal, the smaller number stays.
unfoldable pub nearer : (i c h : ℕ) → Option Way → Option Way
nearer i c h w = if by_other i h && lower c w then Some (way c h) else w

-- Of the first k semaphores, the one in the way, where another holds one.
unfoldable pub nearest : (i : ℕ) (cs hs : List ℕ) (k : ℕ) → Option Way
nearest i cs hs k = fold (λ w p. nearer i p.0 p.1 w) None (take k (zip cs hs))

-- A job's rank is not smaller than the ceiling.
abbrev pub bars : (rank : ℕ) → Way → Bool
bars rank w = w.ceiling ≤? rank
