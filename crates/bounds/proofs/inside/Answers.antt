use Rattle.std.proofs.Common.{rules, tests}
use Rattle.std.proofs.lemmas.Iterator.{YieldsList-from_slice}
use Rattle.std.proofs.lemmas.Iterator.Search.{position_from_yields_List}
use Rattle.bounds.proofs.Steps.{is_unlock, inside_map}
use Rattle.bounds.proofs.inside.Goals as goal

pub returns : goal.returns
returns c =
    inside_map c.args.u c.args.steps.now c.position.result c.unwrap_or-end.result
    (position_from_yields_List (is_unlock c.args.u) _ _ _ c.position.ensures.ran (YieldsList-from_slice c.args.steps.now cc) (λ x b q k. search (rules, tests)))
    c.unwrap_or-end.ensures
