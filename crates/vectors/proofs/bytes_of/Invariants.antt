-- The digit that waits for its fellow is one.
use Rattle.std.proofs.Common.{◌<◌, IfSome}
use Rattle.vectors.proofs.bytes_of.Given as goal

abbrev pub invariant-loop-digit : goal.invariant-loop-digit
invariant-loop-digit l = record {
  can : (goal.iterator-loop-digit).can_next l.digit-iterator;
  ends : (goal.iterator-loop-digit).is_finite l.digit-iterator;
  waiting : IfSome l.high (λ high. high < 16);
}
