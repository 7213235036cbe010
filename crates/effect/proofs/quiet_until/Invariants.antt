-- Task by task, none so far has a release before the smallest of their next ones.
use Prim.Native.Nat.{ℕ, ◌+◌, ◌<◌}
use Rattle.rules.specs.Sheet.{task_at}
use Rattle.table.specs.Table.{sheet_of}
use Rattle.effect.specs.Effect.{Rests}
use Rattle.effect.proofs.quiet_until.Given as goal

abbrev pub invariant-loop-task : goal.invariant-loop-task
invariant-loop-task l =
    (j : ℕ) → j < l.task-index → Rests (l.t + 1) l.due (task_at (sheet_of l.table) j)
