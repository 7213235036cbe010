-- The candidates so far may not go, and the walk from the present one gives the runner; after sixteen one has come round.
use Rattle.std.proofs.Common.{◌≡◌, [], ◌-◌, ◌<◌, length}
use Rattle.rules.specs.Choice.{walk}
use Rattle.rules.proofs.Walk.{chase}
use Rattle.choice.proofs.walked.Given as goal

abbrev pub invariant-walk : goal.invariant-walk
invariant-walk l =
    (l.c < length l.plan.tasks) × (chase l.plan l.st.tasks (16 - l.counter) l.c ≡ walk l.plan l.st.tasks 16 [] l.from)
