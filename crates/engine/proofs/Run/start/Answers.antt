-- At the start nobody holds anything.
use Rattle.std.proofs.Common.{refl}
use Rattle.engine.proofs.Runs.{hand_start}
use Rattle.engine.proofs.Run.start.Goals as goal

pub returns-clause-at_hand : goal.returns-clause-at_hand
returns-clause-at_hand c = hand_start c.start.ensures refl refl
