use Rattle.std.proofs.Common.{arith}
use Rattle.table.specs.Table.{sheet_of}
use Rattle.table.proofs.Laws.{tasks_first}
use Rattle.table.proofs.Table.tasks.Goals as goal

pub returns-clause-value : goal.returns-clause-value
returns-clause-value c = tasks_first c.args.self.now _ (omega (arith, c.len.ensures.value))

pub returns-clause-accepted : goal.returns-clause-accepted
unfolding sheet_of
returns-clause-accepted c = let t = c.args.self.now in (_, t.reads)
