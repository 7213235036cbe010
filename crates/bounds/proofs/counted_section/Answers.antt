use Rattle.std.proofs.Common.{◌∙◌, ap, ◌≡◌, get_or, arith}
use Rattle.rules.specs.Bounds.{runs}
use Rattle.table.specs.Steps.{said}
use Rattle.table.specs.Tasks.{task_of}
use Rattle.bounds.proofs.Steps.{inside_fit}
use Rattle.bounds.proofs.Counted.{nothing_there, no_lock, lock_below, counted, not_counted}
use Rattle.bounds.proofs.counted_section.Goals as goal

pub returns-in_err-bytes : goal.returns-in_err-bytes
returns-in_err-bytes c =
    c.from_residual.ensures ∙ nothing_there c.args.plan.now c.args.i c.args.k c.steps-steps.result.now (task_of c.args.task.now).steps c.steps-steps.ensures.value c.in_err-bytes.ensures.lookup.3

pub returns-in_default : goal.returns-in_default
returns-in_default c =
    let at = c.in_ok-bytes.ensures.lookup in
    no_lock c.args.plan.now c.args.i c.args.k c.steps-steps.result.now (task_of c.args.task.now).steps c.steps-steps.ensures.value c.from.result c.in_ok-bytes.bytes.now at.3.0 (c.from.ensures ∙ ap said at.1) c.in_default.not-Lock

pub bounds-ceilings-from : goal.bounds-ceilings-from
bounds-ceilings-from c =
    let at = c.in_ok-bytes.ensures.lookup in
    omega (arith, c.from-2.ensures, lock_below c.args.plan.now c.args.i c.args.k c.steps-steps.result.now (task_of c.args.task.now).steps c.steps-steps.ensures.value c.from.result c.in_ok-bytes.bytes.now at.3.0 (c.from.ensures ∙ ap said at.1) c.in-Lock.u c.in-Lock.is c.steps-steps.ensures.limits)

pub runs-requires : goal.runs-requires
runs-requires c =
    let fits = inside_fit c.steps-steps.result.now (task_of c.args.task.now).steps c.steps-steps.ensures.value c.steps-steps.ensures.few c.steps-steps.ensures.limits c.in-Lock.u c.args.k in
    omega (arith, fits, ap runs c.inside.ensures)

pub returns-then-from-i : goal.returns-then-from-i
returns-then-from-i c =
    let at = c.in_ok-bytes.ensures.lookup in
    let same : c.from-3.result ≡ get_or c.ceilings.result c.in-Lock.u 0 = cc in
    counted c.args.plan.now c.args.i c.args.k c.steps-steps.result.now (task_of c.args.task.now).steps c.steps-steps.ensures.value c.from.result c.in_ok-bytes.bytes.now at.3.0 (c.from.ensures ∙ ap said at.1) c.in-Lock.u c.in-Lock.is
    c.ceilings.result c.ceilings.ensures c.steps-steps.ensures.limits c.runs.result (omega (arith, same))
    (c.runs.ensures ∙ ap runs c.inside.ensures)

pub returns : goal.returns
returns c =
    let at = c.in_ok-bytes.ensures.lookup in
    let same : c.from-3.result ≡ get_or c.ceilings.result c.in-Lock.u 0 = cc in
    not_counted c.args.plan.now c.args.i c.args.k c.steps-steps.result.now (task_of c.args.task.now).steps c.steps-steps.ensures.value c.from.result c.in_ok-bytes.bytes.now at.3.0 (c.from.ensures ∙ ap said at.1) c.in-Lock.u c.in-Lock.is
    c.ceilings.result c.ceilings.ensures c.steps-steps.ensures.limits (omega (arith, same))
