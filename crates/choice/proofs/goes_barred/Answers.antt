-- Each return is what rule 3 says of a job that is not free of ceilings.
use Rattle.std.proofs.Common.{arith}
use Rattle.std.proofs.lemmas.Grind.{common_steps}
use Rattle.table.specs.Tasks.{task_of}
use Rattle.choice.proofs.Steps.{goes_at}
use Rattle.choice.proofs.goes_barred.Goals as goal

pub returns-then-runs_before : goal.returns-then-runs_before
returns-then-runs_before c =
    let e = goes_at c.args.mode (task_of c.args.task.now) c.args.j c.in-Some.x c.from-position.result c.from-position.ensures c.in-Some.ensures in grind (arith, common_steps)

pub returns-else-runs_before : goal.returns-else-runs_before
returns-else-runs_before c =
    let e = goes_at c.args.mode (task_of c.args.task.now) c.args.j c.in-Some.x c.from-position.result c.from-position.ensures c.in-Some.ensures in grind (arith, common_steps)

pub returns-else-is_run : goal.returns-else-is_run
returns-else-is_run c =
    let e = goes_at c.args.mode (task_of c.args.task.now) c.args.j c.in-Some.x c.from-position.result c.from-position.ensures c.in-Some.ensures in grind (arith, common_steps)
