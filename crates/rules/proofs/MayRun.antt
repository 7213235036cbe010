-- The choice gives a runner that may run. What comes after it in a tick rests on this alone, and looks at no mode.
use Prim.Native.Nat.{ℕ, ◌≤◌, ◌<◌}
use mathlib.Core.Path.{◌≡◌, refl}
use mathlib.Core.Logic.{⊎_elim}
use mathlib.Core.List.{List, [], ◌∷◌}
use mathlib.Core.Bool.{Bool, true, false, ◌&&◌, ◌||◌}
use native.Mathlib.Omega.{arith}
use lib.ListN.{length, take}
use borrow.Author.Tests.{ltb-true}
use Rattle.std.specs.Prelude.{if◌then◌else◌}
use Rattle.rules.specs.Words.{◌<?◌, ◌=?◌, any, leading}
use Rattle.rules.specs.Sheet.{Step, run, lock, unlock, Task, Sheet, task_at, is_run, is_lock, is_lock_of}
use Rattle.rules.specs.Record.{record_at, ahead}
use Rattle.rules.specs.Choice.{locks, ceiling, at_run, fresh, goes, held_by_other, free_of_ceilings, may_go, runner}
use Rattle.rules.specs.declared.Runner.TheVariants.{Rank}
use Rattle.rules.specs.Laws.{takes, MayRun}
use Rattle.rules.specs.declared.Job.{Job}
use Rattle.rules.specs.declared.TaskRecord.{TaskRecord}
use Rattle.rules.proofs.Laws.{sure, below, true_false, implies_yes, every_at, smallest_le, any_take, any_drop}
use Rattle.rules.proofs.Walk.{Runs, runner_runs}

-- a job that takes a lock stands at no run,
takes_no_run : (task : Task) (j : Job) (s : ℕ) → takes task j s ≡ true → at_run task j ≡ false
unfolding takes at_run any leading is_run is_lock
takes_no_run task j s e = go (ahead task j) e
  where
    go : (steps : List Step) → any (is_lock_of s) (take (leading is_lock steps) steps) ≡ true → any is_run (take 1 steps) ≡ false
    go [] e = refl
    go (run n ∷ steps) e = true_false false e refl
    go (lock u ∷ steps) e = refl
    go (unlock u ∷ steps) e = refl

-- and its task has a lock of it
takes_locks : (task : Task) (j : Job) (s : ℕ) → takes task j s ≡ true → locks task s ≡ true
unfolding takes locks ahead
takes_locks task j s e = any_drop (is_lock_of s) j.position task.steps (any_take (is_lock_of s) (leading is_lock (ahead task j)) (ahead task j) e)

-- so it may go only as it is free of ceilings
only_free : (fresh free stands : Bool) → (if fresh then free else (free || stands)) ≡ true → stands ≡ false → free ≡ true
only_free true free stands e h = e
only_free false true stands e h = refl
only_free false false stands e h = true_false stands e h

module _ (sheet : Sheet) (records : List TaskRecord) (x : ℕ) (r : runner sheet records ≡ Rank x) where
  runs : Runs sheet records x
  runs = runner_runs sheet records x r

  -- a runner is one of sixteen ranks
  pub runner_below : x < 16
  runner_below = runs.rank

  -- what it takes has a ceiling of at most its own rank: were it held by another, it would not be free of ceilings
  taken_alone : (s : ℕ) → s < 16 → takes (task_at sheet x) (record_at records x).job s ≡ true → held_by_other sheet records x s ≡ false
  unfolding may_go goes free_of_ceilings ceiling
  taken_alone s ls e =
      let task = task_at sheet x in
      let j = (record_at records x).job in
      let free = only_free (sheet.mode =? 1 && fresh task j && any is_lock task.steps) (free_of_ceilings sheet records x) (at_run task j) runs.may (takes_no_run task j s e) in
      ⊎_elim
      (λ u.
      let above = ltb-true x (ceiling sheet s) (implies_yes (held_by_other sheet records x s) (x <? ceiling sheet s) (every_at 16 _ free s ls) u) in
      let ceiled = smallest_le 16 255 (λ i. locks (task_at sheet i) s) x runs.rank (takes_locks task j s e) in
      absurd (omega (arith, above, ceiled)))
      (λ u. u)
      (sure (held_by_other sheet records x s))

  -- where no job is pending at n and above, it may run
  pub runner_may : ((i : ℕ) → i < 16 → length sheet.tasks ≤ i → (record_at records i).job.pending ≡ false) → MayRun sheet records x
  runner_may past = record {
    rank = ⊎_elim
        (λ (u : x < length sheet.tasks). u)
        (λ (u : length sheet.tasks ≤ x). true_false (record_at records x).job.pending runs.pending (past x runs.rank u))
        (below x (length sheet.tasks));
    pending = runs.pending;
    alone = taken_alone;
  }
