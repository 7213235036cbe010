-- The size of the laxity is that of its ticks.
use Rattle.std.proofs.Common.{rules}
use Rattle.analysis.proofs.laxity_from.Goals as goal

pub returns-clause-near : goal.returns-clause-near
returns-clause-near c = search rules
