-- None is open, and each place is 0.
use Rattle.std.proofs.Common.{refl, sym, arith}
use Rattle.steps.proofs.Nesting.{none_open}
use Rattle.steps.proofs.Nest.new.Goals as goal

pub invariant_of-result : goal.invariant_of-result
invariant_of-result c = (refl, omega arith, refl)

pub returns : goal.returns
returns c = sym none_open
