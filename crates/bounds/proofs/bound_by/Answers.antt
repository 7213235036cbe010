use Rattle.std.proofs.Common.{◌∙◌, ap, sym, arith, length}
use Rattle.rules.specs.Sheet.{Sheet, Task, task_at}
use Rattle.bounds.specs.Sections.{first_giving}
use Rattle.bounds.proofs.Bounds.{by_begin, by_found, by_turn, by_none}
use Rattle.bounds.proofs.bound_by.Goals as goal

pub loop-rank-init : goal.loop-rank-init
loop-rank-init c = λ x l. by_begin c.args.plan.now c.args.i c.args.ticks x (omega arith)

pub returns-in-Some : goal.returns-in-Some
returns-in-Some c =
    by_found c.args.plan.now c.args.i c.args.ticks c.loop-rank.rank (omega arith) c.loop-rank.invariant (omega (arith, c.len-n.ensures.few)) c.in-Some.step
    (c.in-Some.ensures ∙ ap {A = Task} (λ x. first_giving c.args.plan.now c.args.i c.args.ticks x.steps) (c.task.ensures.value ∙ ap (λ (x : Sheet). task_at x c.loop-rank.rank) c.table-table.ensures)) c.requires.value

pub loop-rank-preserved : goal.loop-rank-preserved
loop-rank-preserved c =
    by_turn c.args.plan.now c.args.i c.args.ticks c.loop-rank.rank (omega arith) c.loop-rank.invariant
    (sym c.in_default.is ∙ c.giving_step.ensures ∙ ap {A = Task} (λ x. first_giving c.args.plan.now c.args.i c.args.ticks x.steps) (c.task.ensures.value ∙ ap (λ (x : Sheet). task_at x c.loop-rank.rank) c.table-table.ensures))

pub returns : goal.returns
returns c =
    by_none c.args.plan.now c.args.i c.args.ticks c.loop-rank.rank c.requires.value
    (omega (arith, c.len-n.ensures.value, ap (λ (x : Sheet). length x.tasks) c.table-table.ensures)) c.loop-rank.invariant
