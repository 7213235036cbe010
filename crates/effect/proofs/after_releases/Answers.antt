-- Task by task, a release changes the record and no release leaves it; after the last these are the records after rule 1.
use mathlib.Core.Path.{sym, ◌∙◌}
use native.Mathlib.Omega.{arith}
use Rattle.std.proofs.Common.{rules}
use Rattle.rules.specs.Record.{record_at}
use Rattle.table.proofs.Laws.{task_read}
use Rattle.table.specs.Table.{sheet_of}
use Rattle.effect.proofs.Laws.{roomy, releases_none, releases_all, releases_more, releases_no}
use Rattle.effect.proofs.after_releases.Goals as goal
use Rattle.effect.proofs.after_releases.Goals.{then-releases_at, else-releases_at}

pub loop-i-init : goal.loop-i-init
loop-i-init c =
    releases_none (sheet_of c.args.table.now) c.args.st (search rules)

pub released-requires-clause-counts_below : goal.released-requires-clause-counts_below
unfolding record_at
released-requires-clause-counts_below c =
    let l = c.loop-i in
    (roomy 65535 c.args.st.tasks l.st.tasks l.i c.requires (omega arith) (l.invariant.changed.behind l.i (omega arith))).0

pub loop-i-preserved : goal.loop-i-preserved
unfolding record_at
loop-i-preserved c =
    let l = c.loop-i in
    let sheet = sheet_of c.args.table.now in
    let task = task_read sheet _ c.tasks-task-items.ensures.value l.i c.loop-i-test.true _ c.task-item.is in
    elim c.if-releases_at.branch [
      | then-releases_at w ↦ rw w.st-is (releases_more sheet c.args.st l.st l.i l.invariant (omega arith) _ task w.released.result w.released.ensures)
      | else-releases_at w ↦ rw w.st-is (releases_no sheet c.args.st l.st l.i l.invariant (omega arith) _ task (sym c.releases_at.ensures ∙ w.if-releases_at.false))
    ]

pub returns : goal.returns
returns c =
    let l = c.loop-i in
    releases_all (sheet_of c.args.table.now) c.args.st l.st l.i l.invariant (omega (arith, c.tasks-task-items.ensures.counted))
