-- Where nobody runs every record stays; a job that runs blocks the pending ones of smaller rank and changes its own record.
use mathlib.Core.Path.{ap, ◌∙◌}
use Rattle.std.proofs.Common.{rules}
use Rattle.rules.specs.Fields.{with_tasks}
use Rattle.rules.specs.Record.{record_at}
use Rattle.rules.specs.Tick.{spent}
use Rattle.rules.specs.declared.Runner.TheVariants.{Rank}
use Rattle.table.specs.Table.{sheet_of}
use Rattle.effect.proofs.Laws.{roomy, task_found, task_past, ran_nobody, runner_stays, runner_ran, runner_past}
use Rattle.effect.proofs.after_runner.Goals as goal
use Rattle.effect.proofs.after_runner.Goals.{in-Some, in-None}

pub returns-in_default : goal.returns-in_default
returns-in_default c =
    ap (with_tasks c.args.st) (ran_nobody (sheet_of c.args.table.now) c.args.st.t c.args.st.tasks c.args.x c.in_default.not-Rank (search rules))

pub ran-requires-clause-counts_below : goal.ran-requires-clause-counts_below
unfolding record_at
ran-requires-clause-counts_below c =
    let here = runner_stays (sheet_of c.args.table.now) c.args.st c.from-i.result _ (search rules) c.blocked_above.ensures c.if-i-lt16.true in
    (roomy 65535 c.args.st.tasks _ c.from-i.result c.requires.all_below c.if-i-lt16.true here).0

pub ran_without_steps-requires-clause-counts_below : goal.ran_without_steps-requires-clause-counts_below
unfolding record_at
ran_without_steps-requires-clause-counts_below c =
    let here = runner_stays (sheet_of c.args.table.now) c.args.st c.from-i.result _ (search rules) c.blocked_above.ensures c.if-i-lt16.true in
    (roomy 65535 c.args.st.tasks _ c.from-i.result c.requires.all_below c.if-i-lt16.true here).0

pub returns-after-get : goal.returns-after-get
unfolding record_at
returns-after-get c =
    let sheet = sheet_of c.args.table.now in
    let i = c.from-i.result in
    let r = record_at c.blocked_above.new.records i in
    let tasks = c.tasks.ensures.value in
    runner_ran sheet c.args.st i c.blocked_above.new.records (search rules) c.blocked_above.ensures c.args.x (cc) c.if-i-lt16.true c.match-get.st (elim c.match-get.branch [
      | in-Some w ↦ w.st-is ∙ w.ran.ensures i ∙ ap (λ task. spent (Rank i) c.args.st.t i task r) (task_found sheet _ i _ tasks c.get.ensures.lookup w.in-Some.task w.in-Some.is)
      | in-None w ↦ w.st-is ∙ w.ran_without_steps.ensures i ∙ ap (λ task. spent (Rank i) c.args.st.t i task r) (task_past sheet _ i _ tasks c.get.ensures.lookup w.in-None.is)
    ])

pub returns-else-i-lt16 : goal.returns-else-i-lt16
returns-else-i-lt16 c =
    runner_past (sheet_of c.args.table.now) c.args.st c.from-i.result _ (search rules) c.blocked_above.ensures c.args.x (cc) c.if-i-lt16.false
