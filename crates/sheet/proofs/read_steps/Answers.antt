-- The first step refused is the refusal; one that is not leaves the nest and the cursor behind it.
use Rattle.std.proofs.Common.{◌<◌, ◌≡◌, ◌*◌, ℕ, sym, ap, ◌∙◌, take, drop, arith}
use Rattle.rules.specs.Reading.{TaskHead}
use Rattle.std.proofs.lemmas.Result.{err_from_is_err_and}
use Rattle.table.specs.Tasks.{task_of}
use Rattle.sheet.proofs.Steps.{many_first, going_more, step_refused, sections_open, steps_stand, going_none, said_first, chunks_said, open_end, closed_end, same_task}
use Rattle.sheet.proofs.read_steps.Goals as goal

pub loop-k-init : goal.loop-k-init
loop-k-init c = going_none c.args.m c.args.i c.args.own c.args.bytes.now c.new-nest.result c.new-nest.ensures

pub loop-k-preserved : goal.loop-k-preserved
loop-k-preserved c =
    let γ = c.loop-k.invariant in
    let below : c.loop-k.k < c.args.own.count = rw (← c.own.view_is) c.loop-k-test.true in
    let e = c.in_ok-step.ensures.reads _ (many_first c.loop-k.k c.args.bytes.now) γ.opens in
    going_more c.args.m c.args.i c.args.own c.args.bytes.now _ _ c.loop-k.k γ below c.requires.semaphores _ _ e c.in_ok-step.ensures.limits _ c.enter.ensures.value

pub returns-in_err-step : goal.returns-in_err-step
returns-in_err-step c =
    let γ = c.loop-k.invariant in
    let below : c.loop-k.k < c.args.own.count = rw (← c.own.view_is) c.loop-k-test.true in
    let p = err_from_is_err_and c.from_residual.result c.from_residual.ensures.1 in
    rw (p.1, p.2) (step_refused c.args.m c.args.i c.args.own c.args.bytes.now c.loop-k.rest.now c.loop-k.k _ γ.left below _ (c.in_err-step.ensures.reads _ (many_first c.loop-k.k c.args.bytes.now) γ.opens))

pub returns-then-not-is_closed : goal.returns-then-not-is_closed
returns-then-not-is_closed c =
    let γ = c.loop-k.invariant in
    let same : c.own.inside.count ≡ c.args.own.count = ap (λ (own : TaskHead). own.count) c.own.view_is in
    let end : c.loop-k.k ≡ c.args.own.count = omega (arith, same, c.loop-k-test.false, c.loop-k.auto.k-end) in
    rw same (sections_open c.args.m c.args.i c.args.own c.args.bytes.now c.loop-k.rest.now c.loop-k.k _ γ.left (omega (arith, end)) (many_first c.loop-k.k c.args.bytes.now ∙ end)
    (open_end c.loop-k.nest _ γ.opens c.is_closed.result c.is_closed.ensures c.if-not-is_closed.true))

pub of_steps-requires-clause-limits : goal.of_steps-requires-clause-limits
of_steps-requires-clause-limits c =
    let γ = c.loop-k.invariant in
    let same : c.own.inside.count ≡ c.args.own.count = ap (λ (own : TaskHead). own.count) c.own.view_is in
    let end : c.loop-k.k ≡ c.args.own.count = omega (arith, same, c.loop-k-test.false, c.loop-k.auto.k-end) in
    rw (chunks_said c.args.own.count c.args.bytes.now _ c.as_chunks.result.0.now c.requires.long (ap (λ (n : ℕ). take (3 * n) c.args.bytes.now) (c.from.ensures ∙ same)) c.as_chunks.ensures.front, ← end)
    γ.limits

pub returns : goal.returns
returns c =
    let γ = c.loop-k.invariant in
    let same : c.own.inside.count ≡ c.args.own.count = ap (λ (own : TaskHead). own.count) c.own.view_is in
    let end : c.loop-k.k ≡ c.args.own.count = omega (arith, same, c.loop-k-test.false, c.loop-k.auto.k-end) in
    let there = chunks_said c.args.own.count c.args.bytes.now _ c.as_chunks.result.0.now c.requires.long (ap (λ (n : ℕ). take (3 * n) c.args.bytes.now) (c.from.ensures ∙ same)) c.as_chunks.ensures.front in
    let whole = steps_stand c.args.m c.args.i c.args.own c.args.bytes.now c.loop-k.rest.now c.loop-k.k _ γ.left (omega (arith, end)) (closed_end c.loop-k.nest _ γ.opens c.is_closed.result c.is_closed.ensures c.if-not-is_closed.false) in
    same_task _ _ _ _ _ _ _ _ (task_of c.of_steps.result) _ c.of_steps.ensures (ap (λ (own : TaskHead). own.period) c.own.view_is) (ap (λ (own : TaskHead). own.offset) c.own.view_is)
    (there ∙ ap (λ (n : ℕ). said_first n c.args.bytes.now) (sym end)) (γ.cursor ∙ ap (λ (n : ℕ). drop (3 * n) c.args.bytes.now) end) whole
