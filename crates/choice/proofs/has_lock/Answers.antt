-- Each step is asked for its kind.
use Rattle.std.proofs.Common.{rules, ap, ◌∙◌}
use Rattle.std.proofs.lemmas.Iterator.{YieldsList-from_slice}
use Rattle.std.proofs.lemmas.Iterator.Search.{any_from_yields_List}
use borrow.Author.Tests.{tests}
use Rattle.rules.specs.Words.{any}
use Rattle.rules.specs.Sheet.{is_lock}
use Rattle.table.specs.Steps.{said}
use Rattle.choice.proofs.Steps.{any_said}
use Rattle.choice.proofs.has_lock.Goals as goal

pub returns : goal.returns
returns c =
    any_from_yields_List (λ x. is_lock (said x)) _ _ _ c.any.ensures.ran (YieldsList-from_slice c.steps.result.now cc) (λ x b q k. search (rules, tests))
    ∙ any_said is_lock c.steps.result.now ∙ ap (any is_lock) c.steps.ensures.value
