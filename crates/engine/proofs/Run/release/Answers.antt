-- A tick before the one at hand has no release.
use Rattle.std.proofs.Common.{arith}
use Rattle.table.specs.Table.{sheet_of}
use Rattle.effect.proofs.Laws.{releases_quiet}
use Rattle.engine.proofs.Run.release.Goals as goal

pub returns-else-self-from-clause-state_value : goal.returns-else-self-from-clause-state_value
returns-else-self-from-clause-state_value c =
    let st = c.args.self.now.state in
    releases_quiet (sheet_of c.args.table.now) st c.args.self.now.due c.requires.sized c.requires.quiet (omega arith)
