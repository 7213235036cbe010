-- Each step before the position is asked for its kind.
use Rattle.std.proofs.Common.{rules, ap, ◌∙◌, sym, take}
use Rattle.std.proofs.lemmas.List.{take-map}
use Rattle.std.proofs.lemmas.Iterator.{YieldsList-from_slice, YieldsList-from_take}
use Rattle.std.proofs.lemmas.Iterator.Search.{any_from_yields_List}
use borrow.Author.Tests.{tests}
use Rattle.rules.specs.Words.{any}
use Rattle.rules.specs.Sheet.{is_run}
use Rattle.table.specs.Steps.{said}
use Rattle.choice.proofs.Steps.{any_said}
use Rattle.choice.proofs.runs_before.Goals as goal

pub returns : goal.returns
returns c =
    any_from_yields_List (λ x. is_run (said x)) _ _ _ c.any.ensures.ran (YieldsList-from_take c.args.p (YieldsList-from_slice c.steps.result.now cc) cc) (λ x b q k. search (rules, tests))
    ∙ any_said is_run (take c.args.p c.steps.result.now) ∙ ap (any is_run) (sym (take-map said c.args.p c.steps.result.now) ∙ ap (take c.args.p) c.steps.ensures.value)
