use Rattle.std.proofs.Common.{◌≡◌, rules, tests, Some, drop}
use Rattle.std.proofs.lemmas.Iterator.{first_from_Range}
use Rattle.table.specs.Tasks.{task_of}
use Rattle.bounds.specs.Sections.{counted_section}
use Rattle.bounds.proofs.Bounds.{first_found}
use Rattle.bounds.proofs.giving_step.Goals as goal

pub returns : goal.returns
returns c =
    first_found c.args.plan.now c.args.i (task_of c.args.task.now).steps c.args.ticks c.count-count.result c.count-count.ensures.value c.count-count.ensures.few c.find.result
    (first_from_Range _ _ _ c.find.result
    (λ k. counted_section c.args.plan.now c.args.i (drop k (task_of c.args.task.now).steps) ≡ Some c.args.ticks)
    (λ k. counted_section c.args.plan.now c.args.i (drop k (task_of c.args.task.now).steps) ≡ Some c.args.ticks → ⊥)
    c.find.ensures.ran (λ x q k. search (rules, tests)) (λ x q k. search (rules, tests)))
