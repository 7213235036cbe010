-- None pending is idle; the top job runs where it goes even if barred; else the walk with the holders gives the runner.
use Rattle.choice.proofs.Walks.{runner_none, runner_top, runner_walked}
use Rattle.choice.proofs.chosen.Goals as goal

pub returns-in_default : goal.returns-in_default
returns-in_default g c = runner_none _ _ c.in_default.ensures

pub returns-then-goes_barred : goal.returns-then-goes_barred
returns-then-goes_barred g c =
    runner_top _ _ c.table-table.ensures c.mode.ensures c.from-i.ensures (c.task-task.ensures.value, c.task-task.ensures.accepted) c.goes_barred.ensures
    c.len.ensures.few c.in-Some.ensures c.if-goes_barred.true

pub returns : goal.returns
returns g c = runner_walked _ _ c.len.ensures.few c.in-Some.ensures c.walked.ensures
