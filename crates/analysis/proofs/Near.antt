-- Every laxity is near: up to the smallest period each rank demands its C once.
use Rattle.std.proofs.Common.{ℕ, zero, suc, ◌+◌, ◌-◌, ◌*◌, ◌/◌, ◌^◌, ◌≤◌, ◌<◌, ◌≡◌, refl, ap, ◌∙◌, subst, List, [], ◌∷◌, true, length, get_or, take, map, sum_by, arith, ℤ, pos}
use Rattle.std.specs.Prelude.{negsuc}
use Rattle.std.specs.Int.RustNames.{unsigned_abs}
use Rattle.std.proofs.Math.Nat.{mul-one}
use Rattle.std.proofs.lemmas.List.{length-take}
use Rattle.std.proofs.lemmas.List.Sums.{sum_by-cons}
use mathlib.Core.Logic.{⊎_elim}
use Rattle.rules.specs.Sheet.{Task, Sheet, task_at, no_task}
use Rattle.rules.specs.Reading.{read, read_sheet}
use Rattle.rules.specs.Bounds.{runs, cost, bound, rounded_up}
use Rattle.rules.specs.Laws.{◌≼◌, TaskLimits, Limits, LaxitiesNear}
use Rattle.rules.proofs.Laws.{below, true_false, lightest}
use Rattle.rules.proofs.Limits.{accepted_within_limits}
use Rattle.rules.proofs.Points.{≼_trans, largest_at_least}
use Rattle.rules.proofs.Rounding.{rounded_up_least}
use Rattle.bounds.proofs.Steps.{runs_few}
use Rattle.bounds.proofs.Bounds.{bound_few, task_past}
use Rattle.analysis.specs.declared.loads.Load.{Load}
use Rattle.analysis.specs.Laxity.{period_of, own_period, demand_from, slack_from, point_from, largest_from, laxity_from}
use Rattle.analysis.proofs.Integers.{largest_at_most, slack_at_least, slack_at_most, near_between}
use Rattle.analysis.proofs.Ranks.{period_some}
use Rattle.analysis.proofs.Laxity.{points, point_in, count_same, laxity_is}

period_small : (loads : List Load) (k : ℕ) → k < length loads → period_of loads k < 2 ^ 16
unfolding period_of
period_small [] k l = absurd (omega arith)
period_small (x ∷ loads) zero l = x.small.1
period_small (x ∷ loads) (suc k) l = period_small loads k (omega arith)

-- up to a time that is no more than its period a rank demands its C once
once : (c t p : ℕ) → 1 ≤ t → t ≤ p → c * rounded_up t p ≡ c
once c t p l m =
    let ρ = rounded_up_least t p (omega arith) in
    let low : 1 ≤ rounded_up t p = ⊎_elim
    (λ u. let z : rounded_up t p ≡ 0 = omega arith in omega (arith, rw z at ρ.reaches))
    (λ u. u)
    (below (rounded_up t p) 1) in
    let high : rounded_up t p ≤ 1 = ρ.least 1 (omega arith) in
    ap (λ (x : ℕ). c * x) (let z : rounded_up t p ≡ 1 = omega arith in z) ∙ mul-one c

all_once : (t : ℕ) → 1 ≤ t → (loads : List Load) → ((r : ℕ) → r < length loads → t ≤ period_of loads r)
    → sum_by (λ (x : Load). x.cost * rounded_up t x.period) loads ≤ 65536 * length loads
unfolding period_of
all_once t l [] h = omega arith
all_once t l (x ∷ loads) h =
    let rest = all_once t l loads (λ r m. h (suc r) (omega arith)) in
    omega (arith, sum_by-cons (λ (x : Load). x.cost * rounded_up t x.period) x loads, once x.cost t x.period l (h 0 (omega arith)), x.small.0, rest)

module _ (loads : List Load) (b : ℕ) (some : 1 ≤ length loads) (few : length loads ≤ 16) (small : b < 2 ^ 16) where
  abbrev own : ℕ
  own = own_period loads

  own_small : own < 65536
  unfolding own_period
  own_small = period_small loads _ (omega arith)

  -- no slack is above the task's own period
  slack_most : (t : ℕ) → t ≤ own → slack_from loads b t ≼ pos 65536
  unfolding slack_from
  slack_most t l = slack_at_most 65536 t (demand_from loads b t) (omega (arith, own_small))

  most : laxity_from loads b ≼ pos 65536
  unfolding laxity_from largest_from point_from
  most =
      let first = slack_most own (omega arith) in
      largest_at_most _ _ (pos 65536) (length loads) first (λ k m. largest_at_most _ _ (pos 65536) _ first (λ l n. slack_most ((l + 1) * period_of loads k) (point_in loads k l m n)))

  -- and none at a point is above the laxity
  point_at_most : (k l : ℕ) → k < length loads → l < own / period_of loads k → slack_from loads b ((l + 1) * period_of loads k) ≼ laxity_from loads b
  unfolding laxity_from largest_from point_from
  point_at_most k l m n = ≼_trans (point_from loads b k l) (largest_from loads b k) (laxity_from loads b)
      (largest_at_least _ (point_from loads b k) (own / period_of loads k) l n)
      (largest_at_least _ (largest_from loads b) (length loads) k m)

  demand_small : (t : ℕ) → 1 ≤ t → ((r : ℕ) → r < length loads → t ≤ period_of loads r) → demand_from loads b t ≤ 1_114_112
  unfolding demand_from
  demand_small t l h = omega (arith, all_once t l loads h)

  least_at : (k : ℕ) → k < length loads → ((r : ℕ) → r < length loads → period_of loads k ≤ period_of loads r) → negsuc 1_114_112 ≼ laxity_from loads b
  unfolding slack_from own_period
  least_at k m h =
      let p = period_of loads k in
      let once-there = slack_at_least 1_114_112 p (demand_from loads b p) (omega (arith, demand_small p (period_some loads k m) h)) in
      ≼_trans (negsuc 1_114_112) (slack_from loads b ((0 + 1) * p)) (laxity_from loads b)
      (subst (λ (t : ℕ). negsuc 1_114_112 ≼ slack_from loads b t) (let z : p ≡ (0 + 1) * p = omega arith in z) once-there)
      (point_at_most k 0 m ((points loads k 1 m).1 (omega (arith, h (length loads - 1) (omega arith)))))

  least : negsuc 1_114_112 ≼ laxity_from loads b
  least = ⊎_elim
      (λ w. least_at w.0 w.1 (λ r m. w.3 r m refl))
      (λ h. true_false true refl (h 0 (omega arith)))
      (lightest (length loads) (λ r. true) (period_of loads))

  -- so its size has 32 bits
  pub laxity_near : unsigned_abs (laxity_from loads b) < 2 ^ 32
  laxity_near = near_between (laxity_from loads b) least most

-- loads of tasks within their limits: C and the period of each
module _ (m : ℕ) where
  abbrev Each : List Task → Type 0
  Each tasks = (r : ℕ) → r < length tasks → TaskLimits m (get_or tasks r no_task)

  cost_few : (task : Task) → TaskLimits m task → cost task ≤ 64000
  unfolding cost
  cost_few task τ = omega (arith, runs_few m task.steps τ.steps, τ.steps_to)

  loads_made : (tasks : List Task) → Each tasks → List Load
  loads_made [] h = []
  loads_made (x ∷ tasks) h =
      let τ = h 0 (omega arith) in
      record {
        cost = cost x;
        period = x.period;
        at_least_one = τ.period_from;
        small = (omega (arith, cost_few x τ), omega (arith, τ.period_to));
      } ∷ loads_made tasks (λ r l. h (suc r) (omega arith))

  made_costs : (tasks : List Task) (h : Each tasks) → map (λ x. x.cost) (loads_made tasks h) ≡ map cost tasks
  unfolding loads_made
  made_costs [] h = refl
  made_costs (x ∷ tasks) h = ap (λ xs. cost x ∷ xs) (made_costs tasks (λ r l. h (suc r) (omega arith)))

  made_periods : (tasks : List Task) (h : Each tasks) → map (λ x. x.period) (loads_made tasks h) ≡ map (λ (x : Task). x.period) tasks
  unfolding loads_made
  made_periods [] h = refl
  made_periods (x ∷ tasks) h = ap (λ xs. x.period ∷ xs) (made_periods tasks (λ r l. h (suc r) (omega arith)))

module _ (bytes : List ℕ) (sheet : Sheet) (e : read_sheet bytes ≡ read sheet) where
  limits : Limits bytes sheet
  limits = accepted_within_limits bytes sheet e

  each : Each sheet.semaphores sheet.tasks
  unfolding task_at
  each r l = limits.each r l

  bound_small : (i : ℕ) → bound sheet i < 2 ^ 16
  unfolding cost runs
  bound_small i = omega (
    arith,
    bound_few sheet 64000 (λ j. ⊎_elim
        (λ l. cost_few sheet.semaphores (task_at sheet j) (limits.each j l))
        (λ l. rw (task_past sheet 0 j l) (omega arith))
        (below j (length sheet.tasks))) i,
  )

-- THE LAW: the laxities of an accepted sheet are within 32 bits
pub laxities_near : LaxitiesNear
laxities_near bytes sheet e i l =
    let α = limits bytes sheet e in
    let loads = loads_made sheet.semaphores sheet.tasks (each bytes sheet e) in
    let costs = made_costs sheet.semaphores sheet.tasks (each bytes sheet e) in
    let periods = made_periods sheet.semaphores sheet.tasks (each bytes sheet e) in
    let count : length loads ≡ length sheet.tasks = count_same sheet loads _ costs periods refl in
    let many = length-take (i + 1) loads in
    subst (λ (z : ℤ). unsigned_abs z < 2 ^ 32) (laxity_is sheet loads _ costs periods refl i (omega arith))
    (laxity_near (take (i + 1) loads) (bound sheet i) (omega arith) (omega (arith, α.tasks_to)) (bound_small bytes sheet e i))
