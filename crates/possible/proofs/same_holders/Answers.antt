-- Every semaphore, with its two holders, passes the test.
use Rattle.std.proofs.Common.{rules, ◌∙◌}
use Rattle.std.proofs.lemmas.Iterator.{YieldsList-from_slice, YieldsList-from_zip}
use Rattle.std.proofs.lemmas.Iterator.Search.{all_from_yields_List}
use Rattle.possible.specs.Holding.{same_holder, same_holders}
use Rattle.possible.proofs.Lists.{every_zipped}
use Rattle.possible.proofs.same_holders.Goals as goal

pub returns : goal.returns
unfolding same_holders same_holder
returns c =
    all_from_yields_List (λ p. same_holder p.0 p.1) c.all.new.self _ _ c.all.ensures.ran
    (YieldsList-from_zip (YieldsList-from_slice c.args.own cc) (YieldsList-from_slice c.args.hs cc)) (λ x b q k. search rules)
    ∙ every_zipped same_holder c.args.own c.args.hs 0 0 16 (search rules) (search rules)
