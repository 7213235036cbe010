use Rattle.std.proofs.Common.{◌∙◌, ap, arith, drop, unwrap_or}
use Rattle.table.specs.Tasks.{task_of}
use Rattle.bounds.specs.Sections.{counted_section}
use Rattle.bounds.proofs.Bounds.{largest_turn, longest_begin, longest_end}
use Rattle.bounds.proofs.longest_section.Goals as goal

pub loop-k-init : goal.loop-k-init
loop-k-init c = longest_begin c.args.plan.now c.args.i (task_of c.args.task.now).steps

pub loop-k-preserved : goal.loop-k-preserved
loop-k-preserved c =
    largest_turn (λ k. unwrap_or (counted_section c.args.plan.now c.args.i (drop k (task_of c.args.task.now).steps)) 0) c.loop-k.k c.loop-k.longest c.unwrap_or.result c.max-longest.result c.loop-k.invariant
    (c.unwrap_or.ensures ∙ ap (λ r. unwrap_or r 0) c.counted_section.ensures) c.max-longest.ensures

pub returns : goal.returns
returns c =
    longest_end c.args.plan.now c.args.i (task_of c.args.task.now).steps c.loop-k.k c.loop-k.longest (omega (arith, c.count-k-end.ensures.value)) (omega (arith, c.count-k-end.ensures.few)) c.loop-k.invariant
