-- After so many ticks: the state and the bytes written are the rules', and what is at hand is right for the state.
use Rattle.std.proofs.Common.{◌≡◌}
use Rattle.rules.specs.Fields.{start}
use Rattle.rules.specs.Run.{after, written}
use Rattle.engine.specs.AtHand.{AtHand}
use Rattle.engine.proofs.run_of.Given as goal

abbrev pub invariant-loop-byte : goal.invariant-loop-byte
invariant-loop-byte l = record {
  state_value : l.run.state ≡ after l.byte-index l.plan start;
  at_hand : AtHand l.plan l.run;
  bytes : l.byte-items ≡ written l.byte-index l.plan start l.initial.byte-items;
}
