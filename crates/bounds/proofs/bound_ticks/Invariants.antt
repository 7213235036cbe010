use Rattle.std.proofs.Common.{◌≡◌, ◌+◌}
use Rattle.rules.specs.Words.{largest}
use Rattle.bounds.proofs.Bounds.{longest_of}
use Rattle.bounds.proofs.bound_ticks.Given as goal

abbrev pub invariant-loop-task : goal.invariant-loop-task
invariant-loop-task l = l.longest ≡ largest (l.i + 1 + l.task-index) (longest_of l.plan l.i)
