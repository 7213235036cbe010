use Rattle.std.proofs.Common.{◌≡◌, map, take}
use Rattle.rules.specs.Bounds.{cost}
use Rattle.table.specs.Tasks.{task_of}
use Rattle.analysis.proofs.loads.loads_of.Given as goal

abbrev pub invariant-loop-task : goal.invariant-loop-task
invariant-loop-task l =
    record {
      costs : map (λ x. x.cost) l.loads.items ≡ map cost (map task_of (take l.task-index l.task-items));
      periods : map (λ x. x.period) l.loads.items ≡ map (λ task. task.period) (map task_of (take l.task-index l.task-items));
    }
