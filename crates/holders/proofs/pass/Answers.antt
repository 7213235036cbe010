-- The steps passed, then those ahead, give the entries of the whole stretch.
use Rattle.holders.proofs.Steps.{pass_more, pass_all}
use Rattle.holders.proofs.pass.Goals as goal

pub loop-x-preserved : goal.loop-x-preserved
loop-x-preserved c =
    search pass_more

pub returns : goal.returns
returns c =
    search pass_all
