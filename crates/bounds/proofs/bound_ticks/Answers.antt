use Rattle.std.proofs.Common.{◌∙◌, ap, ◌+◌, arith, length}
use Rattle.rules.specs.Sheet.{Sheet}
use Rattle.table.specs.Tasks.{task_of}
use Rattle.bounds.proofs.Bounds.{rest_task, rest_length, bound_begin, bound_turn, bound_end}
use Rattle.bounds.proofs.bound_ticks.Goals as goal

pub loop-task-init : goal.loop-task-init
loop-task-init c = bound_begin c.args.plan.now c.args.i

pub loop-task-preserved : goal.loop-task-preserved
loop-task-preserved c =
    bound_turn c.args.plan.now c.args.i c.loop-task.task-index (task_of c.task-item.result) c.loop-task.longest c.longest_section.result c.max-longest.result
    (rest_task c.args.plan.now c.tasks.result.now (c.tasks.ensures.value ∙ ap (λ (x : Sheet). x.tasks) c.table.ensures) (c.args.i + 1) c.loop-task.task-index c.task-item.result (omega arith) c.task-item.is)
    c.loop-task.invariant c.longest_section.ensures c.max-longest.ensures

pub returns : goal.returns
returns c =
    let all = rest_length c.args.plan.now c.tasks.result.now (c.tasks.ensures.value ∙ ap (λ (x : Sheet). x.tasks) c.table.ensures) (c.args.i + 1) (omega (arith, c.tasks.ensures.counted, ap (λ (x : Sheet). length x.tasks) c.table.ensures)) in
    bound_end c.args.plan.now c.args.i (c.args.i + 1 + c.loop-task.task-index) c.loop-task.longest (omega (arith, all)) (omega (arith, c.tasks.ensures.few, c.tasks.ensures.counted, ap (λ (x : Sheet). length x.tasks) c.table.ensures)) c.loop-task.invariant
