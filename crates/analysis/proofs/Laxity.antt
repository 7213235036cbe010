-- Laws of demands, points and laxities by loads, and that they are a sheet's.
use Rattle.std.proofs.Common.{ℕ, ◌+◌, ◌-◌, ◌*◌, ◌/◌, ◌≤◌, ◌<◌, ◌≡◌, refl, sym, ap, ◌∙◌, List, length, get_or, take, map, sum_by, arith, ℤ, pos, ◌-ℤ◌}
use Rattle.std.specs.Prelude.{◌↔◌}
use Rattle.std.proofs.Math.Nat.{le-div_iff_mul-le}
use Rattle.std.proofs.lemmas.List.{take_all, length-map, length-take, get_or-take, get_or-map}
use mathlib.Core.Path.{ap₂}
use mathlib.Core.Logic.{⊎_elim}
use borrow.Author.Tests.{lt-ltb, le-ltb}
use Rattle.rules.specs.Sheet.{Task, Sheet, task_at, no_task}
use Rattle.rules.specs.Bounds.{bound, bound_by, cost, rounded_up, demand, slack, largest_of, laxity}
use Rattle.rules.specs.Answers.{by_rank, bound_of, no_bound, laxity_of, no_laxity}
use Rattle.rules.specs.declared.Bound.{Bound}
use Rattle.rules.proofs.Laws.{below, row_at, row_same}
use Rattle.rules.proofs.Points.{largest_of_same}
use Rattle.analysis.specs.declared.loads.Load.{Load}
use Rattle.analysis.specs.Laxity.{period_of, own_period, demand_from, slack_from, point_from, largest_from, laxity_from, of_loads, laxities_from}
use Rattle.analysis.proofs.Ranks.{period_at, period_some, sum_taken}

-- a point, counted from 1
pub point_is : (loads : List Load) (b k l period : ℕ) (v : ℤ) → 1 ≤ l → period ≡ period_of loads k → v ≡ slack_from loads b (l * period) → v ≡ point_from loads b k (l - 1)
unfolding point_from
point_is loads b k l period v m e ev = ev ∙ ap₂ (λ (x y : ℕ). slack_from loads b (x * y)) (let z : l ≡ l - 1 + 1 = omega arith in z) e

pub largest_end : (loads : List Load) (b k n own period : ℕ) (first : ℤ) → first ≡ slack_from loads b (own_period loads) → own ≡ own_period loads → period ≡ period_of loads k → n ≡ own / period
    → largest_of n first (point_from loads b k) ≡ largest_from loads b k
unfolding largest_from
largest_end loads b k n own period first ef eo ep en =
    ap₂ (λ (m : ℕ) (z : ℤ). largest_of m z (point_from loads b k)) (en ∙ ap₂ ◌/◌ eo ep) ef

-- the points of a rank lie in the task's own period
module _ (loads : List Load) where
  pub points : (k l : ℕ) → k < length loads → (l ≤ own_period loads / period_of loads k) ↔ (l * period_of loads k ≤ own_period loads)
  points k l m = le-div_iff_mul-le {k = period_of loads k} {x = l} {y = own_period loads} (period_some loads k m)

  pub point_in : (k l : ℕ) → k < length loads → l < own_period loads / period_of loads k → (l + 1) * period_of loads k ≤ own_period loads
  point_in k l m n = (points k (l + 1) m).0 (omega arith)

-- of a sheet's own loads and bound it is the sheet's laxity
module _ (sheet : Sheet) (loads : List Load) (b i : ℕ) (count : length loads ≡ i + 1) (d : Load)
    (costs : (r : ℕ) → r < i + 1 → (get_or loads r d).cost ≡ cost (task_at sheet r)) (periods : (r : ℕ) → r < i + 1 → (get_or loads r d).period ≡ (task_at sheet r).period)
    (bounds : b ≡ bound sheet i) where
  period_same : (r : ℕ) → r < i + 1 → period_of loads r ≡ (task_at sheet r).period
  period_same r l = sym (period_at loads r d (omega arith)) ∙ periods r l

  demand_same : (t : ℕ) → demand_from loads b t ≡ demand sheet i t
  unfolding demand_from demand
  demand_same t = ap₂ ◌+◌ bounds (
      ap (sum_by (λ (x : Load). x.cost * rounded_up t x.period)) (sym (take_all (i + 1) loads (omega arith)))
      ∙ sum_taken loads (λ x. x.cost * rounded_up t x.period) (λ r. cost (task_at sheet r) * rounded_up t (task_at sheet r).period) d
      (λ r l. ap₂ ◌*◌ (costs r (omega arith)) (ap (rounded_up t) (periods r (omega arith)))) (i + 1) (omega arith)
      )

  slack_same : (t u : ℕ) → t ≡ u → slack_from loads b t ≡ slack sheet i u
  unfolding slack_from slack
  slack_same t u e = ap (slack_from loads b) e ∙ ap (λ (d : ℕ). pos u -ℤ pos d) (demand_same u)

  own_same : own_period loads ≡ (task_at sheet i).period
  unfolding own_period
  own_same = ap (period_of loads) (let e : length loads - 1 ≡ i = omega arith in e) ∙ period_same i (omega arith)

  pub laxity_of_sheet : laxity_from loads b ≡ laxity sheet i
  unfolding laxity_from largest_from point_from laxity
  laxity_of_sheet =
      ap (λ (n : ℕ). largest_of n (slack_from loads b (own_period loads)) (largest_from loads b)) count
      ∙ largest_of_same (i + 1) _ _ _ _ (slack_same _ _ own_same) (λ k m.
      let period = period_same k m in
      ap (λ (n : ℕ). largest_of n (slack_from loads b (own_period loads)) (point_from loads b k)) (ap₂ ◌/◌ own_same period)
      ∙ largest_of_same ((task_at sheet i).period / (task_at sheet k).period) _ _ _ _ (slack_same _ _ own_same) (λ l n. slack_same _ _ (ap (λ (p : ℕ). (l + 1) * p) period)))

spare : Load
spare = record { cost = 0; period = 1; at_least_one = omega arith; small = (omega arith, omega arith) }

-- and so are the laxities of all its tasks
module _ (sheet : Sheet) (loads : List Load) (bounds : List Bound) (ec : map (λ x. x.cost) loads ≡ map cost sheet.tasks) (ep : map (λ x. x.period) loads ≡ map (λ (x : Task). x.period) sheet.tasks)
    (eb : bounds ≡ by_rank no_bound bound_of sheet) where
  pub count_same : length loads ≡ length sheet.tasks
  count_same = omega (arith, ap length ec, length-map loads (λ x. x.cost), length-map sheet.tasks cost)

  module _ (i : ℕ) (l : i < length loads) where
    load_is : (r : ℕ) → r < i + 1 → get_or (take (i + 1) loads) r spare ≡ get_or loads r spare
    load_is r m = get_or-take (i + 1) loads r spare m

    cost_is : (r : ℕ) → r < i + 1 → (get_or (take (i + 1) loads) r spare).cost ≡ cost (task_at sheet r)
    unfolding task_at
    cost_is r m =
        ap (λ (x : Load). x.cost) (load_is r m) ∙ sym (get_or-map (λ x. x.cost) loads r spare 0 (omega arith))
        ∙ ap (λ (xs : List ℕ). get_or xs r 0) ec ∙ get_or-map cost sheet.tasks r no_task 0 (omega (arith, count_same))

    period_is : (r : ℕ) → r < i + 1 → (get_or (take (i + 1) loads) r spare).period ≡ (task_at sheet r).period
    unfolding task_at
    period_is r m =
        ap (λ (x : Load). x.period) (load_is r m) ∙ sym (get_or-map (λ x. x.period) loads r spare 0 (omega arith))
        ∙ ap (λ (xs : List ℕ). get_or xs r 0) ep ∙ get_or-map (λ (x : Task). x.period) sheet.tasks r no_task 0 (omega (arith, count_same))

    -- each by the loads up to its rank
    pub laxity_is : laxity_from (take (i + 1) loads) (bound sheet i) ≡ laxity sheet i
    laxity_is = laxity_of_sheet sheet (take (i + 1) loads) (bound sheet i) i (omega (arith, length-take (i + 1) loads)) spare cost_is period_is refl

    bound_is : i < 16 → get_or bounds i no_bound ≡ bound_of sheet i
    unfolding by_rank
    bound_is m = ap (λ (x : List Bound). get_or x i no_bound) eb ∙ row_at 16 _ no_bound i m ∙ rw (lt-ltb i (length sheet.tasks) (omega (arith, count_same))) refl

    rank_same : i < 16 → of_loads (take (i + 1) loads) (get_or bounds i no_bound) ≡ laxity_of sheet i
    unfolding of_loads laxity_of bound_of
    rank_same m =
        ap (of_loads (take (i + 1) loads)) (bound_is m)
        ∙ ap (λ (z : ℤ). record { ticks = z; by = bound_by sheet i }) laxity_is

  pub laxities_of_sheet : laxities_from loads bounds ≡ by_rank no_laxity laxity_of sheet
  unfolding laxities_from by_rank
  laxities_of_sheet =
      row_same 16 _ _ (λ i m. ⊎_elim
      (λ l. rw (lt-ltb i (length loads) l, lt-ltb i (length sheet.tasks) (omega (arith, count_same))) (rank_same i l m))
      (λ l. rw (le-ltb i (length loads) l, le-ltb i (length sheet.tasks) (omega (arith, count_same))) refl)
      (below i (length loads)))
