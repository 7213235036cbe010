use Rattle.std.proofs.Common.{◌≡◌, ◌∙◌, ◌+◌, ◌-◌, ◌/◌, ℕ, ap, refl, rules, arith, to_z, of_z, w64}
use Rattle.std.proofs.lemmas.Int.{to_z-of_z}
use Rattle.rules.specs.Bounds.{largest_of}
use Rattle.analysis.specs.Laxity.{point_from, largest_from}
use Rattle.analysis.proofs.Integers.{largest_of_turn}
use Rattle.analysis.proofs.Ranks.{period_at}
use Rattle.analysis.proofs.Laxity.{point_is, largest_end}
use Rattle.analysis.proofs.Demand.largest_of_rank.Goals as goal
use Rattle.analysis.proofs.Demand.largest_of_rank.Goals.{After-own_period, After-max-best}

-- one point more
more : (c : After-max-best) → to_z w64 (of_z w64 c.max-best.result) ≡ largest_of (c.loop-l.l - 1 + 1) (to_z w64 (of_z w64 c.args.first)) (point_from c.args.self.now.loads.now c.args.self.now.bound c.args.k)
more c =
    largest_of_turn _ _ (c.loop-l.l - 1) (to_z w64 c.loop-l.best-bits) c.slack_at.result c.max-best.result (search rules) (search rules) c.loop-l.invariant.value
    (point_is c.args.self.now.loads.now c.args.self.now.bound c.args.k c.loop-l.l c.from-period.result c.slack_at.result (omega arith)
    (c.from-period.ensures ∙ period_at c.args.self.now.loads.now c.args.k c.index-self-k.result c.requires.rank) c.slack_at.ensures)
    c.max-best.ensures.value

pub loop-l-init : goal.loop-l-init
unfolding largest_of
loop-l-init c = record { value = refl; within = omega arith }

pub loop-l-preserved : goal.loop-l-preserved
loop-l-preserved c = record {
  value = more (goal.at.loop-l-preserved c).After-max-best ∙ ap (λ n. largest_of n (to_z w64 (of_z w64 c.args.first)) (point_from c.args.self.now.loads.now c.args.self.now.bound c.args.k)) (let e : c.loop-l.l - 1 + 1 ≡ c.loop-l.l + 1 - 1 = omega arith in e);
  within = omega arith;
}

-- all of them
all : (c : After-own_period) (n : ℕ) → n ≡ c.own_period.result / c.from-period.result → largest_of n (to_z w64 (of_z w64 c.args.first)) (point_from c.args.self.now.loads.now c.args.self.now.bound c.args.k) ≡ largest_from c.args.self.now.loads.now c.args.self.now.bound c.args.k
all c n e =
    largest_end c.args.self.now.loads.now c.args.self.now.bound c.args.k n c.own_period.result c.from-period.result _ (to_z-of_z w64 c.args.first c.ranges.first ∙ c.requires.at_own)
    c.own_period.ensures.value (c.from-period.ensures ∙ period_at c.args.self.now.loads.now c.args.k c.index-self-k.result c.requires.rank) e

pub returns : goal.returns
returns c = c.loop-l.invariant.value ∙ all (goal.at.returns c).After-own_period (c.loop-l.l - 1) (omega arith)

pub returns-2 : goal.returns-2
returns-2 c = more (goal.at.returns-2 c).After-max-best ∙ all (goal.at.returns-2 c).After-own_period (c.loop-l.l - 1 + 1) (omega arith)
