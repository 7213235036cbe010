-- The task at the place of its rank.
use Rattle.std.proofs.Common.{◌<◌, length}
use Rattle.table.proofs.Laws.{task_read}
use Rattle.table.proofs.Table.task.Goals as goal

pub returns-clause-value : goal.returns-clause-value
returns-clause-value c =
    let inside : c.args.i < length c.tasks.result.now = rw c.tasks.ensures.counted c.requires in
    search task_read
