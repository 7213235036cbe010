-- Behind the position the steps are counted as far as they pass.
use Rattle.std.proofs.Common.{rules, ◌∙◌, refl}
use Rattle.std.proofs.lemmas.Iterator.{YieldsList-from_slice}
use Rattle.std.proofs.lemmas.Iterator.Consumers.{YieldsList-at, count_from_yields_List}
use Rattle.std.proofs.lemmas.Iterator.Search.{YieldsList-from_take_while}
use Rattle.table.specs.Steps.{said}
use Rattle.effect.proofs.Laws.{passing, cut_from}
use Rattle.effect.proofs.past.Goals as goal

pub returns-clause-value : goal.returns-clause-value
returns-clause-value g c = λ test tells.
    let xs = c.steps-steps.result.now in
    passing test c.args.from xs c.iter.result.rest.now _ c.steps-steps.ensures.value (c.iter.ensures.rest ∙ cut_from c.args.from xs _ c.min.ensures) _
    (count_from_yields_List c.take_while.result _ c.count.ensures.ran
    (YieldsList-from_take_while _ (λ x. test (said x))
    (YieldsList-at c.take_while.ensures.source (YieldsList-from_slice c.iter.result.rest.now refl))
    c.take_while.ensures.closure c.take_while.ensures.done (λ x b q k. search (rules, tells))))
