-- Each of at most 65,535 runs adds at most 65,535 switches, so that the sum fits.
use Rattle.std.proofs.Common.{◌*◌, ◌≤◌}
use Rattle.repeat.proofs.repeated.Given as goal

abbrev pub invariant-loop : goal.invariant-loop
invariant-loop l = l.switches ≤ 65535 * l.counter
