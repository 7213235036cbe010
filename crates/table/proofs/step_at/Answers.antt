-- What stands at the position is what its bytes say.
use Rattle.std.proofs.Common.{length, ltb-true, sym}
use Rattle.table.proofs.Steps.{said_here}
use Rattle.table.proofs.step_at.Goals as goal

pub returns : goal.returns
returns c =
    let found = c.in_ok-bytes.ensures.lookup in
    sym (said_here c.args.steps.now c.args.p (ltb-true c.args.p (length c.args.steps.now) (sym found.0)) c.in_ok-bytes.bytes.now found.1 c.from.result c.from.ensures)
