-- The sixteen records.
use Rattle.std.specs.Prelude.{Bool}
use Rattle.rules.specs.Words.{every}
use Rattle.rules.specs.Sheet.{Sheet}
use Rattle.rules.specs.Record.{record_at, record_fits}
use Rattle.rules.specs.declared.State.{State}

-- Each of them fits its rank.
unfoldable pub records_fit : Sheet → State → Bool
records_fit sheet st = every 16 λ i. record_fits sheet st.t i (record_at st.tasks i)
