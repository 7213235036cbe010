use Rattle.std.proofs.Common.{rules, ◌≡◌, ◌<◌, ◌∙◌, sum_by, arith}
use Rattle.bounds.proofs.Steps.{ticks, ticks_sum}
use Rattle.bounds.proofs.runs.Goals as goal

pub sum-requires-clause-fits : goal.sum-requires-clause-fits
sum-requires-clause-fits c =
    let h : sum_by ticks c.args.steps.now < 65536 = omega (arith, ticks_sum c.args.steps.now) in search rules

pub returns : goal.returns
returns c =
    let h : c.sum.result ≡ sum_by ticks c.args.steps.now = search rules in h ∙ ticks_sum c.args.steps.now
