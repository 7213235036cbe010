-- Laws of rule 4: one candidate of the walk after another, and the runner from the pending job of smallest rank.
use Prim.Native.Nat.{ℕ, suc, ◌+◌, ◌-◌, ◌≤◌, ◌<◌}
use mathlib.Core.Path.{◌≡◌, refl, sym, ap, ◌∙◌, subst}
use mathlib.Core.Logic.{⊎_elim}
use mathlib.Core.List.{List, [], ◌∷◌}
use mathlib.Core.Bool.{Bool, true, false, not, ◌&&◌}
use native.Mathlib.Omega.{arith}
use lib.ListN.{length, get_or}
use borrow.Author.Tests.{eqb-true}
use Rattle.std.specs.Prelude.{Option, Some, None}
use Rattle.rules.specs.Words.{◌=?◌, row, any}
use Rattle.rules.specs.Sheet.{Step, run, lock, unlock, Task, Sheet, task_at, is_lock_of}
use Rattle.rules.specs.Fields.{blank}
use Rattle.rules.specs.Record.{record_at, holds}
use Rattle.rules.specs.Choice.{locks, ceiling, goes, top_job, held_by_other, free_of_ceilings, may_go, next_candidate, in_the_way, walk, runner}
use Rattle.rules.specs.Laws.{All, StepLimits, Limits}
use Rattle.rules.specs.declared.TaskRecord.{TaskRecord}
use Rattle.rules.specs.declared.Runner.{Runner}
use Rattle.rules.specs.declared.Runner.TheVariants.{Rank, Stuck, Idle}
use Rattle.rules.proofs.Laws.{sure, below, true_false, and_no, or_cases, none_of}
use Rattle.rules.proofs.Choice.{holds_locks, next_holds}
use Rattle.rules.proofs.Walk.{chase, walk_is_chase, runner_walks, runner_idle}
use Rattle.rules.proofs.Limits.{accepted_within_limits}
use Rattle.table.specs.Table.{Accepted}
use Rattle.holders.specs.Holders.{holders}
use Rattle.holders.proofs.Holders.{holds_past}
use Rattle.choice.specs.declared.Way.{Way}
use Rattle.choice.specs.Choosable.{Choosable}
use Rattle.choice.specs.Way.{nearest, bars}
use Rattle.choice.proofs.Steps.{goes_free, goes_anyway}
use Rattle.choice.proofs.Ways.{Found_way, way_found, free_by_none, free_by, barred_by, next_by}

-- a lock is of a semaphore below the sheet's count
locks_below : (m k : ℕ) (steps : List Step) → All (StepLimits m) steps → any (is_lock_of k) steps ≡ true → k < m
unfolding any is_lock_of
locks_below m k [] limits e = true_false false e refl
locks_below m k (run n ∷ steps) limits e = locks_below m k steps limits.1 e
locks_below m k (unlock s ∷ steps) limits e = locks_below m k steps limits.1 e
locks_below m k (lock s ∷ steps) limits e = ⊎_elim
    (λ u. let z = eqb-true s k u in omega (arith, limits.0))
    (λ u. locks_below m k steps limits.1 u)
    (or_cases (s =? k) (any (is_lock_of k) steps) e)

-- one candidate of the walk
module _ (sheet : Sheet) (records : List TaskRecord) (more c : ℕ) where
  chase_goes : may_go sheet records c ≡ true → chase sheet records (suc more) c ≡ Rank c
  unfolding chase
  chase_goes e = rw e refl

  chase_waits : may_go sheet records c ≡ false → chase sheet records (suc more) c ≡ chase sheet records more (next_candidate sheet records c)
  unfolding chase
  chase_waits e = rw e refl

-- of an accepted sheet
module _ (sheet : Sheet) (α : Accepted sheet) where
  limits : Limits α.0 sheet
  limits = accepted_within_limits α.0 sheet α.1

  pub rank_below : (table : Sheet) → sheet ≡ table → (c : ℕ) → c < length table.tasks → c < 16
  rank_below table e c l = let z = ap (λ (s : Sheet). length s.tasks) e in omega (arith, limits.tasks_to)

  -- only its tasks hold something, and only its semaphores are held
  module _ (records : List TaskRecord) where
    holder_rank : (j k : ℕ) → holds sheet records j k ≡ true → j < length sheet.tasks
    holder_rank j k e = ⊎_elim (λ u. u) (λ u. true_false (holds sheet records j k) e (holds_past sheet records j k u)) (below j (length sheet.tasks))

    held_below : (j k : ℕ) → holds sheet records j k ≡ true → k < sheet.semaphores
    unfolding locks
    held_below j k e = locks_below sheet.semaphores k (task_at sheet j).steps (limits.each j (holder_rank j k e)).steps (holds_locks sheet records j k e)

    past_none : (i k : ℕ) → sheet.semaphores ≤ k → held_by_other sheet records i k ≡ false
    unfolding held_by_other
    past_none i k l = none_of 16 (λ j. not (j =? i) && holds sheet records j k) (λ j u. and_no (not (j =? i)) (holds sheet records j k) (⊎_elim
        (λ e. absurd (let z = held_below j k e in omega arith))
        (λ e. e)
        (sure (holds sheet records j k))))

-- a turn of the walk: a candidate that goes in any case or does not, and whose walk gives the runner
pub record Turn (sheet : Sheet) (records : List TaskRecord) (hs : List ℕ) (c seen : ℕ) (b : Bool) (x : Runner) : Type 0 where
  pub accepted : Accepted sheet
  pub choosable : Choosable sheet records
  pub holders_value : hs ≡ holders sheet records
  pub inside : c < length sheet.tasks
  pub any_case : b ≡ goes sheet.mode (task_at sheet c) (record_at records c).job false
  pub few : seen < 16
  pub walks : chase sheet records (16 - seen) c ≡ x

pub turn : {sheet table : Sheet} {records : List TaskRecord} {hs : List ℕ} {c i m seen : ℕ} {task : Task} {b : Bool} {x : Runner}
    → table ≡ sheet → m ≡ table.mode → i ≡ c → (task ≡ task_at table i) × Accepted table → b ≡ goes m task (get_or records i blank).job false
    → hs ≡ holders sheet records → Choosable sheet records → seen < 16 → (c < length sheet.tasks) × (chase sheet records (16 - seen) c ≡ x)
    → Turn sheet records hs c seen b x
unfolding record_at
turn et em ei ek eb eh χ few inv = record {
  accepted = subst Accepted et ek.1;
  choosable = χ;
  holders_value = eh;
  inside = inv.0;
  any_case = cc;
  few = few;
  walks = inv.1;
}

-- it goes though barred, or nothing bars it, or what bars it leads on
module _ {sheet : Sheet} {records : List TaskRecord} {hs : List ℕ} {c seen : ℕ} {b : Bool} {x : Runner} (τ : Turn sheet records hs c seen b x) where
  rank : c < 16
  rank = rank_below sheet τ.accepted sheet refl c τ.inside

  one_more : chase sheet records (suc (16 - (seen + 1))) c ≡ x
  one_more = let n : suc (16 - (seen + 1)) ≡ 16 - seen = omega (arith, τ.few) in ap (λ (n : ℕ). chase sheet records n c) n ∙ τ.walks

  is_runner : may_go sheet records c ≡ true → Rank c ≡ x
  is_runner h = sym (chase_goes sheet records (16 - (seen + 1)) c h) ∙ one_more

  pub walk_goes : b ≡ true → Rank c ≡ x
  unfolding may_go
  walk_goes h = is_runner (goes_anyway sheet.mode (task_at sheet c) (record_at records c).job (free_of_ceilings sheet records c) (sym τ.any_case ∙ h))

  walk_free : free_of_ceilings sheet records c ≡ true → Rank c ≡ x
  unfolding may_go
  walk_free h = is_runner (ap (goes sheet.mode (task_at sheet c) (record_at records c).job) h ∙ goes_free sheet.mode (task_at sheet c) (record_at records c).job)

  found : (w : Option Way) → w ≡ nearest c (row 16 (ceiling sheet)) hs sheet.semaphores → Found_way sheet records τ.choosable.single c rank 16 w
  found w e = subst (Found_way sheet records τ.choosable.single c rank 16) (sym e)
      (way_found sheet records τ.choosable.single c rank (row 16 (ceiling sheet)) hs refl τ.holders_value sheet.semaphores (limits sheet τ.accepted).semaphores
      (λ k u v. past_none sheet τ.accepted records c k u))

  pub walk_unbarred : None ≡ nearest c (row 16 (ceiling sheet)) hs sheet.semaphores → Rank c ≡ x
  walk_unbarred e = walk_free (free_by_none sheet records τ.choosable.single c rank (found None e))

  module _ (w : Way) (ew : Some w ≡ nearest c (row 16 (ceiling sheet)) hs sheet.semaphores) where
    pub walk_below : bars c w ≡ false → Rank c ≡ x
    walk_below u = walk_free (free_by sheet records τ.choosable.single c rank w (found (Some w) ew) u)

    module _ (h : b ≡ false) (u : bars c w ≡ true) where
      waits : may_go sheet records c ≡ false
      unfolding may_go
      waits =
          ap (goes sheet.mode (task_at sheet c) (record_at records c).job) (barred_by sheet records τ.choosable.single c rank w (found (Some w) ew) u)
          ∙ sym τ.any_case ∙ h

      next : w.holder ≡ next_candidate sheet records c
      next = next_by sheet records τ.choosable.single c rank w (found (Some w) ew)

      pub next_inside : w.holder < length sheet.tasks
      next_inside = rw next (holder_rank sheet τ.accepted records (next_candidate sheet records c) (in_the_way sheet records c) (next_holds sheet records c waits).1)

      pub walk_on : chase sheet records (16 - (seen + 1)) w.holder ≡ x
      walk_on = rw next (sym (chase_waits sheet records (16 - (seen + 1)) c waits) ∙ one_more)

-- the walk begins, and ends where it has come round
module _ (sheet : Sheet) (records : List TaskRecord) (from : ℕ) where
  pub walk_starts : chase sheet records 16 from ≡ walk sheet records 16 [] from
  walk_starts = sym (walk_is_chase sheet records 16 from)

  pub walk_ends : (seen c : ℕ) → 16 ≤ seen → chase sheet records (16 - seen) c ≡ walk sheet records 16 [] from → Stuck ≡ walk sheet records 16 [] from
  unfolding chase
  walk_ends seen c l inv = let n : 16 - seen ≡ 0 = omega arith in sym (ap (λ (n : ℕ). chase sheet records n c) n) ∙ inv

-- the runner, from the pending job of smallest rank
module _ (sheet : Sheet) (records : List TaskRecord) where
  pub runner_none : top_job records ≡ 255 → Idle ≡ runner sheet records
  runner_none h = sym (runner_idle sheet records h)

  from_top : {top : ℕ} → top ≡ top_job records → top < 16 → runner sheet records ≡ walk sheet records 16 [] top
  from_top et l = runner_walks sheet records (omega arith) ∙ ap (walk sheet records 16 []) (sym et)

  pub runner_walked : {top n : ℕ} {r : Runner} → n ≤ 16 → (top ≡ top_job records) × (top < n) → r ≡ walk sheet records 16 [] top → r ≡ runner sheet records
  runner_walked few et e = e ∙ sym (from_top et.0 (omega (arith, et.1)))

  -- it goes whether it is free of ceilings or not
  pub runner_top : {table : Sheet} {i m top n : ℕ} {task : Task} {b : Bool} → table ≡ sheet → m ≡ table.mode → i ≡ top → (task ≡ task_at table i) × Accepted table
      → b ≡ goes m task (get_or records i blank).job false → n ≤ 16 → (top ≡ top_job records) × (top < n) → b ≡ true → Rank top ≡ runner sheet records
  unfolding may_go record_at
  runner_top {top = top} te em ei ek eb few et u =
      let any_case : goes sheet.mode (task_at sheet top) (get_or records top blank).job false ≡ true = cc in
      sym (from_top et.0 (omega (arith, et.1)) ∙ walk_is_chase sheet records 16 top
      ∙ chase_goes sheet records 15 top (goes_anyway sheet.mode (task_at sheet top) (get_or records top blank).job (free_of_ceilings sheet records top) any_case))
