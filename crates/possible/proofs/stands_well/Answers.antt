-- At a run, from 1 to its full length is left.
use Rattle.std.proofs.Common.{◌≡◌, ◌∙◌, rules}
use Rattle.rules.specs.Words.{within}
use Rattle.possible.proofs.Fits.{stands_run}
use Rattle.possible.proofs.stands_well.Goals as goal

pub returns-in-Some-Run : goal.returns-in-Some-Run
unfolding within
returns-in-Some-Run c =
    let from_one : c.contains.result ≡ within 1 c.in-Some-Run.full c.args.left = search rules in
    from_one ∙ stands_run _ _ _ _ c.in-Some-Run.ensures c.in-Some-Run.field-0-is
