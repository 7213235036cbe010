-- The first rank that is not the holder of all that it holds ends the loop; where there is none, nothing is held by two.
use Rattle.possible.proofs.Holding.{rank_off, rank_more, ranks_all}
use Rattle.possible.proofs.none_held_by_two.Goals as goal

pub returns-then-not-holds_alone : goal.returns-then-not-holds_alone
returns-then-not-holds_alone c =
    search rank_off

pub loop-i-preserved : goal.loop-i-preserved
loop-i-preserved c =
    search rank_more

pub returns : goal.returns
returns c =
    search ranks_all
