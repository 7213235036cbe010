-- A rank has three digits at most.
use Rattle.std.proofs.Common.{arith}
use Rattle.std.proofs.lemmas.Grind.{common_steps}
use Rattle.words.proofs.Decimal.{byte_few}
use Rattle.words.proofs.put_runner.Goals as goal

pub returns-in_default-clause-upper_bound : goal.returns-in_default-clause-upper_bound
returns-in_default-clause-upper_bound g c = grind (arith, common_steps, byte_few c.args.x (omega arith))
