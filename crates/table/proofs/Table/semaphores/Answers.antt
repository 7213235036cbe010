use Rattle.rules.proofs.Limits.{accepted_within_limits}
use Rattle.table.specs.Tasks.{sheet_with}
use Rattle.table.proofs.Table.semaphores.Goals as goal

pub returns-clause-few : goal.returns-clause-few
unfolding sheet_with
returns-clause-few c = let t = c.args.self.now in (accepted_within_limits _ _ t.reads).semaphores
