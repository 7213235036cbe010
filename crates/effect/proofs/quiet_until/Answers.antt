-- The first of the next releases is at most each.
use native.Mathlib.Omega.{arith}
use Rattle.table.proofs.Laws.{task_read}
use Rattle.table.specs.Table.{sheet_of}
use Rattle.effect.proofs.Laws.{quiet_more}
use Rattle.effect.proofs.quiet_until.Goals as goal

pub loop-task-preserved : goal.loop-task-preserved
loop-task-preserved c =
    let l = c.loop-task in
    let task = task_read (sheet_of c.args.table.now) _ c.tasks-task-items.ensures.value l.task-index c.loop-task-test.true _ c.task-item.is in
    quiet_more (sheet_of c.args.table.now) _ l.task-index l.due c.next_release.result c.min-due.result l.invariant (rw (← task) c.next_release.ensures) (omega arith) (omega arith)
