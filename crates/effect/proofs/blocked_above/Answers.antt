-- Record by record a pending job is blocked once, and another record stays.
use mathlib.Core.Path.{refl, ◌∙◌}
use native.Mathlib.Omega.{arith}
use Rattle.std.proofs.Common.{take, length-take, ◌<◌}
use Rattle.rules.specs.Record.{record_at}
use Rattle.rules.specs.declared.Count.TheVariants.{TicksBlocked}
use Rattle.effect.specs.Effect.{each_blocked}
use Rattle.effect.proofs.Laws.{roomy, blocked_yes, blocked_not, blocked_here, blocked_more, blocked_all}
use Rattle.effect.proofs.blocked_above.Goals as goal
use Rattle.effect.proofs.blocked_above.Goals.{then-r, else-r}

pub loop-r-init : goal.loop-r-init
unfolding each_blocked
loop-r-init c =
    refl

pub was_blocked-requires : goal.was_blocked-requires
unfolding record_at
was_blocked-requires c =
    let l = c.loop-r in
    let inside : l.r-index < c.min.result = omega (arith, length-take c.min.result c.args.records.now) in
    let here = blocked_here c.args.records.now l.r-items c.min.result l.r-index l.invariant c.loop-r-test.true inside in
    let room = roomy 65535 c.args.records.now l.r-items l.r-index c.requires (omega arith) here in
    record { blocked_bound = room.0 TicksBlocked; present_bound = room.1 }

pub loop-r-preserved : goal.loop-r-preserved
unfolding record_at
loop-r-preserved c =
    let l = c.loop-r in
    let more = blocked_more (take c.min.result c.args.records.now) l.r-items l.r-index c.loop-r-test.true (omega arith) l.invariant in
    elim c.if-r.branch [
      | then-r w ↦ w.r-items-is ∙ more w.was_blocked.result (w.was_blocked.ensures ∙ blocked_yes (record_at l.r-items l.r-index) w.if-r.true)
      | else-r w ↦ w.r-items-is ∙ more (record_at l.r-items l.r-index) (blocked_not (record_at l.r-items l.r-index) w.if-r.false)
    ]

pub returns : goal.returns
returns c =
    let l = c.loop-r in
    blocked_all c.args.records.now l.r-items c.args.x c.min.result l.r-index c.told-records c.min.ensures l.invariant c.loop-r-test.false
