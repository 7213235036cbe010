use Rattle.std.proofs.Common.{◌∙◌, sym, rules, w64}
use Rattle.std.proofs.lemmas.Int.{to_z-of_z}
use Rattle.analysis.proofs.Counted.{counted_without, counted_with}
use Rattle.analysis.proofs.Demand.counted_of_rank.Goals as goal

pub returns-then-another_has : goal.returns-then-another_has
returns-then-another_has c =
    to_z-of_z w64 c.args.first c.ranges.first ∙ c.requires.at_own ∙ counted_without c.args.self.now.loads.now c.args.self.now.bound c.args.k (sym c.another_has.ensures ∙ c.if-another_has.true)

pub returns : goal.returns
returns c =
    to_z-of_z w64 c.largest_of_rank.result (search rules) ∙ c.largest_of_rank.ensures ∙ counted_with c.args.self.now.loads.now c.args.self.now.bound c.args.k (sym c.another_has.ensures ∙ c.if-another_has.false)
