-- What a tick needs besides: a possible state is no later than tick 60,000, and who runs is told by the runner byte.
use Prim.Native.Nat.{◌≤◌}
use mathlib.Core.Path.{◌≡◌}
use mathlib.Core.Bool.{true}
use native.Mathlib.Omega.{arith}
use Rattle.rules.specs.Sheet.{Sheet}
use Rattle.rules.specs.Record.{possible}
use Rattle.rules.specs.Choice.{runner_byte}
use Rattle.rules.specs.Tick.{after_releases, runner_of}
use Rattle.rules.specs.Coded.{told_byte}
use Rattle.rules.proofs.Possible.{possible_parts}
use Rattle.rules.proofs.MayRun.{runner_below}
use Rattle.rules.proofs.Coded.{tie_loses_nothing}
use Rattle.rules.specs.declared.State.{State}

pub no_later : (sheet : Sheet) (st : State) → possible sheet st ≡ true → st.t ≤ 60000
no_later sheet st e = (possible_parts sheet st e).time

pub told_runner : (sheet : Sheet) (st : State) → told_byte (runner_of sheet st) ≡ runner_byte (runner_of sheet st)
unfolding runner_of
told_runner sheet st = tie_loses_nothing.runner (runner_of sheet st) (λ i z. omega (arith, runner_below sheet (after_releases sheet st) i z))
