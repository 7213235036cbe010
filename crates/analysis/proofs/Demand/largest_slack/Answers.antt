use Rattle.std.proofs.Common.{◌≡◌, ◌<◌, ◌^◌, ◌∙◌, ap, refl, sym, subst, rules, arith, length, to_z, w64}
use Rattle.std.specs.Int.RustNames.{unsigned_abs}
use Rattle.std.proofs.lemmas.Int.{to_z-of_z}
use mathlib.Core.Path.{ap₂}
use Rattle.rules.specs.Bounds.{largest_of}
use Rattle.analysis.specs.Laxity.{slack_from, counted_from}
use Rattle.analysis.proofs.Integers.{largest_of_turn}
use Rattle.analysis.proofs.Counted.{counted_all}
use Rattle.analysis.proofs.Near.{laxity_near}
use Rattle.analysis.proofs.Demand.largest_slack.Goals as goal

pub loop-k-init : goal.loop-k-init
unfolding largest_of
loop-k-init c = refl

pub loop-k-preserved : goal.loop-k-preserved
loop-k-preserved c =
    largest_of_turn _ _ c.loop-k.k (to_z w64 c.loop-k.best-bits) c.counted_of_rank.result c.max-best.result (search rules) (search rules) c.loop-k.invariant c.counted_of_rank.ensures c.max-best.ensures.value

pub returns-clause-value : goal.returns-clause-value
returns-clause-value c =
    c.loop-k.invariant
    ∙ ap₂ (λ n z. largest_of n z (counted_from c.args.self.now.loads.now c.args.self.now.bound)) (let e : c.loop-k.k ≡ length c.args.self.now.loads.now = omega arith in e)
    (to_z-of_z w64 c.slack_at-first.result (search rules) ∙ c.slack_at-first.ensures ∙ ap (slack_from c.args.self.now.loads.now c.args.self.now.bound) c.own_period.ensures.value)
    ∙ counted_all c.args.self.now.loads.now c.args.self.now.bound c.args.self.now.few

pub returns-clause-near : goal.returns-clause-near
returns-clause-near c =
    let demand = c.args.self.now in
    subst (λ z. unsigned_abs z < 2 ^ 32) (sym (returns-clause-value c)) (laxity_near demand.loads.now demand.bound demand.some demand.few demand.small)
