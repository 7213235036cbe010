-- The candidates so far may not go, and the walk from the present one gives the runner; after sixteen one has come round.
use Rattle.std.proofs.Common.{sym, arith}
use Rattle.choice.proofs.Walks.{rank_below, turn, walk_starts, walk_goes, walk_unbarred, walk_below, next_inside, walk_on, walk_ends}
use Rattle.choice.proofs.walked.Goals as goal

pub walk-init : goal.walk-init
walk-init c = (c.requires.from_bound, search walk_starts)

pub offset_bounds-st-i : goal.offset_bounds-st-i
offset_bounds-st-i c = let l = rank_below _ c.task-task.ensures.accepted _ c.table-table.ensures _ c.walk.invariant.0 in omega arith

pub bounds-st-i : goal.bounds-st-i
bounds-st-i c = let l = rank_below _ c.task-task.ensures.accepted _ c.table-table.ensures _ c.walk.invariant.0 in omega arith

pub returns-then-goes_barred : goal.returns-then-goes_barred
returns-then-goes_barred c = walk_goes (turn c.table-table.ensures c.mode-mode.ensures c.from-i.ensures (c.task-task.ensures.value, c.task-task.ensures.accepted) c.goes_barred.ensures
    c.requires.hs_value c.requires.choosable c.walk-test.true c.walk.invariant) c.if-goes_barred.true

pub returns-in_default : goal.returns-in_default
returns-in_default c = walk_below (turn c.table-table.ensures c.mode-mode.ensures c.from-i.ensures (c.task-task.ensures.value, c.task-task.ensures.accepted) c.goes_barred.ensures
    c.requires.hs_value c.requires.choosable c.walk-test.true c.walk.invariant) c.in-Some.way c.in-Some.ensures (sym c.if-bars.ensures)

pub returns-in_default-2 : goal.returns-in_default-2
returns-in_default-2 c = walk_unbarred (turn c.table-table.ensures c.mode-mode.ensures c.from-i.ensures (c.task-task.ensures.value, c.task-task.ensures.accepted) c.goes_barred.ensures
    c.requires.hs_value c.requires.choosable c.walk-test.true c.walk.invariant) c.in_default.ensures

pub walk-preserved : goal.walk-preserved
walk-preserved c = let τ = (turn c.table-table.ensures c.mode-mode.ensures c.from-i.ensures (c.task-task.ensures.value, c.task-task.ensures.accepted) c.goes_barred.ensures
    c.requires.hs_value c.requires.choosable c.walk-test.true c.walk.invariant) in (next_inside τ c.in-Some.way c.in-Some.ensures c.if-goes_barred.false (sym c.if-bars.ensures), walk_on τ c.in-Some.way c.in-Some.ensures c.if-goes_barred.false (sym c.if-bars.ensures))

pub returns : goal.returns
returns c = search walk_ends
