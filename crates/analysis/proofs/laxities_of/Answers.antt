use Rattle.std.proofs.Common.{◌∙◌, ap, map}
use Rattle.rules.specs.Sheet.{Sheet, Task}
use Rattle.rules.specs.Bounds.{cost}
use Rattle.analysis.proofs.Laxity.{laxities_of_sheet}
use Rattle.analysis.proofs.laxities_of.Goals as goal

pub returns-clause-value : goal.returns-clause-value
returns-clause-value c =
    c.laxities_from.ensures.value
    ∙ laxities_of_sheet c.args.plan.now c.as_slice.result.now c.bounds_of.result
    (ap (map (λ x. x.cost)) c.as_slice.ensures.value ∙ c.loads_of-loads.ensures.costs ∙ ap (λ (x : Sheet). map cost x.tasks) c.table.ensures)
    (ap (map (λ x. x.period)) c.as_slice.ensures.value ∙ c.loads_of-loads.ensures.periods ∙ ap (λ (x : Sheet). map (λ (task : Task). task.period) x.tasks) c.table.ensures)
    c.bounds_of.ensures
