use Rattle.std.proofs.Common.{◌∙◌}
use Rattle.table.proofs.Laws.{head_counts}
use Rattle.table.proofs.Table.len.Goals as goal

pub returns-clause-value : goal.returns-clause-value
returns-clause-value c = c.from.ensures ∙ head_counts c.args.self.now
