-- NO FREEDOM. Every public call has a contract on what it answers. Together with the lent bytes and records afterwards,
-- that contract leaves no freedom on any input, refused ones too.
use Rattle.std.specs.Prelude.{ℕ, ◌≡◌, List, [], ◌∷◌, replicate}
use Rattle.rules.specs.Fields.{no_state}
use Rattle.rules.specs.Answers.{no_bound, no_laxity, Checked, Ceilings, Bounds, Laxities, Ticked, Told, Ran}
use Rattle.rules.specs.Promises.{start_contract, check_contract, ceilings_contract, bounds_contract, laxities_contract, tick_contract, tick_in_place_contract, run_contract}
use Rattle.rules.specs.Coded.{checked, ceilings_in, bounds_in, laxities_in, told_in, ticked_in, ran_in}
use Rattle.rules.specs.Reading.{refusal, Numbers}
use Rattle.rules.specs.declared.State.{State}
use Rattle.theorems.specs.Refusals.{Refused, Numbered}

-- A public call: what goes in; what comes out, with lent memory as it is afterwards; what its contract permits, which is the
-- definition that the function itself is proved against; and, for refused calls, the refusal in an outcome and the outcome
-- that has nothing but a refusal.
pub record Call : Type 1 where
  pub Input : Type 0
  pub Outcome : Type 0
  pub permits : Input → Outcome → Type 0
  pub refusal : Outcome → Numbers
  pub nothing_but : Input → Numbers → Outcome

-- check(sheet)
abbrev pub check_call : Call
check_call = record {
  Input = List ℕ;
  Outcome = Checked;
  permits = check_contract;
  refusal = λ r. r.refusal;
  nothing_but = λ bytes x. record { refusal = x; tasks = 0; semaphores = 0; mode = 0 };
}

-- ceilings(sheet)
abbrev pub ceilings_call : Call
ceilings_call = record {
  Input = List ℕ;
  Outcome = Ceilings;
  permits = ceilings_contract;
  refusal = λ r. r.refusal;
  nothing_but = λ bytes x. record { refusal = x; ceilings = replicate 16 0 };
}

-- bounds(sheet)
abbrev pub bounds_call : Call
bounds_call = record {
  Input = List ℕ;
  Outcome = Bounds;
  permits = bounds_contract;
  refusal = λ r. r.refusal;
  nothing_but = λ bytes x. record { refusal = x; bounds = replicate 16 no_bound };
}

-- laxities(sheet)
abbrev pub laxities_call : Call
laxities_call = record {
  Input = List ℕ;
  Outcome = Laxities;
  permits = laxities_contract;
  refusal = λ r. r.refusal;
  nothing_but = λ bytes x. record { refusal = x; laxities = replicate 16 no_laxity };
}

-- tick(sheet, state): the state is handed over by value
abbrev pub tick_call : Call
tick_call = record {
  Input = List ℕ × State;
  Outcome = Ticked;
  permits = λ (bytes, st) r. tick_contract bytes st r;
  refusal = λ r. r.told.refusal;
  nothing_but = λ (bytes, st) x. record { told = record { refusal = x; runner = 0 }; state = st };
}

-- tick_in_place(sheet, state): the state is lent
abbrev pub tick_in_place_call : Call
tick_in_place_call = record {
  Input = List ℕ × State;
  Outcome = Told × State;
  permits = λ (bytes, st) (r, stAfter). tick_in_place_contract bytes st r stAfter;
  refusal = λ (r, stAfter). r.refusal;
  nothing_but = λ (bytes, st) x. (record { refusal = x; runner = 0 }, st);
}

-- run(sheet, horizon, trace): the trace buffer is lent
abbrev pub run_call : Call
run_call = record {
  Input = List ℕ × ℕ × List ℕ;
  Outcome = Ran × List ℕ;
  permits = λ (bytes, horizon, buffer) (r, bufAfter). run_contract bytes horizon buffer r bufAfter;
  refusal = λ (r, bufAfter). r.refusal;
  nothing_but = λ (bytes, horizon, buffer) x. (record { refusal = x; state = no_state }, buffer);
}

-- start(): it takes nothing and refuses nothing
abbrev pub start_call : Call
start_call = record {
  Input = Unit {0};
  Outcome = State;
  permits = λ u r. start_contract r;
  refusal = λ r. refusal 0 0 0;
  nothing_but = λ u x. no_state;
}

-- The calls on a sheet, and with them every public call.
abbrev pub calls : List Call
calls = check_call ∷ ceilings_call ∷ bounds_call ∷ laxities_call ∷ tick_call ∷ tick_in_place_call ∷ run_call ∷ []

abbrev pub every_call : List Call
every_call = start_call ∷ calls

abbrev pub Each : (Call → Type 0) → List Call → Type 0
Each P [] = Unit {0}
Each P (c ∷ cs) = P c × Each P cs

-- THE STATEMENT, of a call and of each in the list.
pub record Settled (c : Call) : Type 0 where
  -- some outcome is permitted,
  pub permitted : (input : c.Input) → (outcome : c.Outcome) × c.permits input outcome
  -- and any two permitted outcomes are equal.
  pub no_freedom : (input : c.Input) (one other : c.Outcome) → c.permits input one → c.permits input other → one ≡ other
  -- A refusal has one of document 01's numbers, and a rank and a step only where that number has them.
  pub numbered : (input : c.Input) (outcome : c.Outcome) → c.permits input outcome → Numbered (c.refusal outcome)
  -- A refused call reports nothing else: all other fields of the answer are zero, no lent byte differs, and a state, lent
  -- or handed over by value, comes back as the one that came.
  pub nothing_else : (input : c.Input) (outcome : c.Outcome) → c.permits input outcome
      → Refused (c.refusal outcome) → outcome ≡ c.nothing_but input (c.refusal outcome)

abbrev pub NoFreedom : Type 0
NoFreedom = Each Settled every_call

-- IN CODE an answer is a value or a refusal, and each contract is said of the tie to document 01's fields (Coded.antt). It
-- leaves no freedom there either: any two permitted answers are equal, and lent memory afterwards with them.
abbrev pub InCode : {Answer : Type 0} (c : Call) → (Answer → c.Outcome) → Type 0
InCode {Answer} c tie = (input : c.Input) (one other : Answer) → c.permits input (tie one) → c.permits input (tie other) → one ≡ other

-- the answer by its tie, and lent memory as it is
abbrev pub lent : {A B Memory : Type 0} → (A → B) → A × Memory → B × Memory
lent tie (answer, after) = (tie answer, after)

pub record NoFreedomInCode : Type 0 where
  pub of_start : InCode start_call λ (r : State). r
  pub of_check : InCode check_call checked
  pub of_ceilings : InCode ceilings_call ceilings_in
  pub of_bounds : InCode bounds_call bounds_in
  pub of_laxities : InCode laxities_call laxities_in
  pub of_tick : InCode tick_call ticked_in
  pub of_tick_in_place : InCode tick_in_place_call (lent told_in)
  pub of_run : InCode run_call (lent ran_in)
