-- The laxity by loads, which are C and the period of each rank up to the task's own, and a bound: document 01's, of loads that
-- need not be a sheet's. Of a sheet's own it is the sheet's laxity (proofs/Laxity.antt, laxity_of_sheet).
use Rattle.std.specs.Prelude.{ℕ, ◌+◌, ◌-◌, ◌*◌, ◌/◌, ◌%◌, List, Bool, ◌&&◌, ◌||◌, get_or, length, map, take, sum_by, ℤ, pos, ◌-ℤ◌, if◌then◌else◌}
use Rattle.rules.specs.Words.{◌<?◌, ◌=?◌, some, row}
use Rattle.rules.specs.Bounds.{rounded_up, largest_of}
use Rattle.rules.specs.Answers.{no_bound, no_laxity}
use Rattle.rules.specs.declared.Bound.{Bound}
use Rattle.rules.specs.declared.Laxity.{Laxity}
use Rattle.analysis.specs.declared.loads.Load.{Load}

-- The period of a rank, and that of the task itself.
unfoldable pub period_of : List Load → (k : ℕ) → ℕ
period_of loads k = get_or (map (λ x. x.period) loads) k 0

unfoldable pub own_period : List Load → ℕ
own_period loads = period_of loads (length loads - 1)

-- Task j has the points of task k: its period divides k's. Of tasks with the same period the first has them.
unfoldable pub has_points_of : List Load → (k j : ℕ) → Bool
has_points_of loads k j = period_of loads k % period_of loads j =? 0 && (j <? k || period_of loads j <? period_of loads k)

unfoldable pub another_has : List Load → (k : ℕ) → Bool
another_has loads k = some (length loads) (has_points_of loads k)

module _ (loads : List Load) (b : ℕ) where
  -- B and, of each rank, C times (t over its period, rounded up).
  unfoldable pub demand_from : (t : ℕ) → ℕ
  demand_from t = b + sum_by (λ x. x.cost * rounded_up t x.period) loads

  unfoldable pub slack_from : (t : ℕ) → ℤ
  slack_from t = pos t -ℤ pos (demand_from t)

  -- The slack at the l-th point of task k, from 0, and the largest of those and of the slack at the task's own period.
  unfoldable pub point_from : (k l : ℕ) → ℤ
  point_from k l = slack_from ((l + 1) * period_of loads k)

  unfoldable pub largest_from : (k : ℕ) → ℤ
  largest_from k = largest_of (own_period loads / period_of loads k) (slack_from (own_period loads)) (point_from k)

  -- The same with no points where another task has them: they add nothing (proofs/Counted.antt).
  unfoldable pub counted_from : (k : ℕ) → ℤ
  counted_from k = if another_has loads k then slack_from (own_period loads) else largest_from k

  unfoldable pub laxity_from : ℤ
  laxity_from = largest_of (length loads) (slack_from (own_period loads)) largest_from

-- The laxity of a task, with what gives its bound.
unfoldable pub of_loads : List Load → Bound → Laxity
of_loads loads b = record { ticks = laxity_from loads b.ticks; by = b.by }

-- Sixteen laxities: of each rank by the loads up to it; zero behind them.
unfoldable pub laxities_from : List Load → (bounds : List Bound) → List Laxity
laxities_from loads bounds = row 16 λ i. if i <? length loads then of_loads (take (i + 1) loads) (get_or bounds i no_bound) else no_laxity
