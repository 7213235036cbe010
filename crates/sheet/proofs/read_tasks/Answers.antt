-- The first task refused is the refusal; one that is read stands behind those taken.
use Rattle.std.proofs.Common.{ℕ, ◌<◌, ◌≡◌, ◌∙◌, ap, length, set, arith}
use Rattle.std.proofs.lemmas.List.{length-set}
use Rattle.std.proofs.lemmas.Result.{err_from_is_err_and}
use Rattle.sheet.proofs.Tasks.{tasks_in_turn, one_taken}
use Rattle.sheet.proofs.read_tasks.Goals as goal

pub loop-i-preserved : goal.loop-i-preserved
loop-i-preserved c =
    let l = c.loop-i in
    let inside : l.i < length l.tasks = omega (arith, l.invariant.sized, c.loop-i-test.true, c.requires.few) in
    let put : c.put.new.row ≡ set l.tasks l.i c.in_ok-task.task = c.put.ensures ∙ ap (λ (i : ℕ). set l.tasks i c.in_ok-task.task) c.from.ensures in
    record {
      sized = ap length put ∙ length-set l.tasks l.i c.in_ok-task.task ∙ l.invariant.sized;
      taking = one_taken c.args.head c.args.bytes.now l.tasks l.rest.now l.i l.invariant.taking c.loop-i-test.true inside c.in_ok-task.task c.in_ok-task.next.now c.in_ok-task.ensures c.put.new.row put;
    }

pub returns-in_err-task : goal.returns-in_err-task
returns-in_err-task c =
    let p = err_from_is_err_and c.from_residual.result c.from_residual.ensures.1 in
    rw (p.1, p.2) (grind (arith, tasks_in_turn))
