-- A job that is not pending holds nothing; of a pending one the entries of its steps must agree with the holders.
use Rattle.possible.proofs.Holding.{rests_alone, stands_alone}
use Rattle.possible.proofs.holds_alone.Goals as goal

pub returns-then-not-j : goal.returns-then-not-j
returns-then-not-j c =
    search rests_alone

pub returns-else-not-j : goal.returns-else-not-j
returns-else-not-j c =
    search stands_alone
