-- The steps so far are read and leave the nest so.
use Rattle.sheet.proofs.Steps.{Going}
use Rattle.sheet.proofs.read_steps.Given as goal

abbrev pub invariant-loop-k : goal.invariant-loop-k
invariant-loop-k l =
    Going l.m l.i l.fn.own l.bytes l.nest l.rest l.k
