-- Below n the job decides.
use Rattle.possible.proofs.Fits.{in_rank}
use Rattle.possible.proofs.rank_fits.Goals as goal

pub returns-in-Some : goal.returns-in-Some
returns-in-Some c =
    let found = c.in-Some.ensures.lookup in
    let inside = found.3.0 in
    let at = found.1 in
    search in_rank
