-- THE CONTRACT OF EACH PUBLIC CALL: what it answers and what it leaves in lent memory, for every input. The functions'
-- `ensures` and the theorems cite these same definitions.
use Rattle.std.specs.Prelude.{ℕ, ◌≡◌, List}
use Rattle.rules.specs.Fields.{start}
use Rattle.rules.specs.Answers.{check, ceilings, bounds, laxities, ticked, told, record_after, ran, buffer_after, Checked, Ceilings, Bounds, Laxities, Ticked, Told, Ran}
use Rattle.rules.specs.declared.State.{State}

-- start(): the record of a run at its start
abbrev pub start_contract : State → Type 0
start_contract r = r ≡ start

-- check(sheet)
abbrev pub check_contract : (bytes : List ℕ) → Checked → Type 0
check_contract bytes r = r ≡ check bytes

-- ceilings(sheet)
abbrev pub ceilings_contract : (bytes : List ℕ) → Ceilings → Type 0
ceilings_contract bytes r = r ≡ ceilings bytes

-- bounds(sheet)
abbrev pub bounds_contract : (bytes : List ℕ) → Bounds → Type 0
bounds_contract bytes r = r ≡ bounds bytes

-- laxities(sheet)
abbrev pub laxities_contract : (bytes : List ℕ) → Laxities → Type 0
laxities_contract bytes r = r ≡ laxities bytes

-- tick(sheet, state): the state is handed over by value
abbrev pub tick_contract : (bytes : List ℕ) → State → Ticked → Type 0
tick_contract bytes st r = r ≡ ticked bytes st

-- tick_in_place(sheet, state): the state is lent
abbrev pub tick_in_place_contract : (bytes : List ℕ) → State → Told → (stAfter : State) → Type 0
tick_in_place_contract bytes st r stAfter = (r ≡ told bytes st) × (stAfter ≡ record_after bytes st)

-- run(sheet, horizon, trace): the trace buffer is lent
abbrev pub run_contract : (bytes : List ℕ) (horizon : ℕ) (buffer : List ℕ) → Ran → (bufAfter : List ℕ) → Type 0
run_contract bytes horizon buffer r bufAfter = (r ≡ ran bytes horizon buffer) × (bufAfter ≡ buffer_after bytes horizon buffer)
