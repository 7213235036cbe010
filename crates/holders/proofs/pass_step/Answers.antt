-- A semaphore past the last entry leaves them all as they are.
use Rattle.std.proofs.Common.{arith}
use Rattle.holders.proofs.Steps.{past_lock, past_unlock}
use Rattle.holders.proofs.pass_step.Goals as goal

pub returns-else-s-lt16 : goal.returns-else-s-lt16
returns-else-s-lt16 c =
    past_lock c.args.i c.in-Lock.s c.args.x c.args.hs.now c.in-Lock.is (omega (arith, c.if-s-lt16.false, c.if-s-lt16.array_long))

pub returns-else-s-lt16-2 : goal.returns-else-s-lt16-2
returns-else-s-lt16-2 c =
    past_unlock c.args.i c.in-Unlock.s c.args.x c.args.hs.now c.in-Unlock.is (omega (arith, c.if-s-lt16-2.false, c.if-s-lt16-2.array_long))
