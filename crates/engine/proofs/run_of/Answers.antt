-- Tick by tick, the state and the bytes written are the rules'.
use Rattle.std.proofs.Common.{◌<◌, arith}
use Rattle.std.proofs.lemmas.List.{length-take}
use Rattle.engine.proofs.Runs.{ready_after, after_none, after_more, written_none, written_more, written_front}
use Rattle.engine.proofs.run_of.Goals as goal

pub loop-byte-init : goal.loop-byte-init
loop-byte-init c = record {
  state_value = after_none _ c.start-run.ensures.state_value;
  at_hand = c.start-run.ensures.at_hand _;
  bytes = written_none _ _;
}

pub tick-requires-clause-ready : goal.tick-requires-clause-ready
tick-requires-clause-ready c =
    let l = c.loop-byte in
    let early : l.byte-index < 60000 = omega (arith, length-take c.from-end.result c.args.trace.now) in
    ready_after c.sheet_accepted.ensures early l.invariant.state_value

pub loop-byte-preserved : goal.loop-byte-preserved
loop-byte-preserved c =
    let l = c.loop-byte in record {
      state_value = after_more _ _ l.invariant.state_value c.tick.ensures.state_value;
      at_hand = c.tick.ensures.at_hand;
      bytes = written_more _ _ _ l.invariant.state_value c.tick.ensures.runner_value c.from.ensures (omega arith) l.auto.byte-items l.invariant.bytes;
    }

pub returns-clause-trace_after : goal.returns-clause-trace_after
returns-clause-trace_after c =
    let l = c.loop-byte in
    written_front _ c.args.h c.from-end.result l.byte-index _ l.byte-items c.from-end.ensures c.requires.h_in_bounds l.auto.byte-items (omega arith) (omega arith) l.invariant.bytes
