-- Every count of the row passes the test.
use mathlib.Core.Path.{◌∙◌}
use Rattle.std.proofs.Common.{rules, ap}
use Rattle.std.specs.List.{list_all}
use Rattle.std.proofs.lemmas.Iterator.{YieldsList-from_slice}
use Rattle.std.proofs.lemmas.Iterator.Search.{all_from_yields_List}
use borrow.Author.Tests.{tests}
use Rattle.rules.specs.Words.{◌≤?◌}
use Rattle.record.proofs.Laws.{list_all-counted}
use Rattle.record.proofs.counts_fit.Goals as goal

pub returns : goal.returns
returns c =
    all_from_yields_List (λ x. x ≤? c.args.t) _ _ _ c.all.ensures.ran (YieldsList-from_slice c.from.result cc) (λ x b q k. search (rules, tests))
    ∙ ap (list_all (λ x. x ≤? c.args.t)) c.from.ensures ∙ list_all-counted c.args.t c.args.c
