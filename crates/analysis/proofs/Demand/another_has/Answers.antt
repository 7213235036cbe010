use Rattle.std.proofs.Common.{rules, tests, true, false, ◌≡◌, refl, length, arith}
use Rattle.std.proofs.lemmas.Iterator.{YieldsList-from_range, cases_from_any}
use Rattle.analysis.specs.Laxity.{has_points_of, another_has}
use Rattle.analysis.proofs.Ranks.{any_range}
use Rattle.analysis.proofs.Demand.another_has.Goals as goal

pub returns : goal.returns
unfolding another_has
returns c =
    any_range (length c.args.self.now.loads.now) (has_points_of c.args.self.now.loads.now c.args.k) c.any.result
    (cases_from_any _ _ _ (λ j. has_points_of c.args.self.now.loads.now c.args.k j ≡ true) (λ j. has_points_of c.args.self.now.loads.now c.args.k j ≡ false) c.any.ensures.ran
    (YieldsList-from_range 0 (length c.args.self.now.loads.now) (length c.args.self.now.loads.now) refl (omega arith)) (λ x q k. search (rules, tests)) (λ x q k. search (rules, tests)))
