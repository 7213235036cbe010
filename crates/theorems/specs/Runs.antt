-- RUNS, TICK BY TICK. A whole run is its ticks, one after the other.
use Rattle.std.specs.Prelude.{ℕ, zero, suc, ◌+◌, ◌<◌, ◌≡◌, List, [], ◌∷◌, ◌++◌, drop}
use Rattle.rules.specs.Words.{row}
use Rattle.rules.specs.Sheet.{Sheet}
use Rattle.rules.specs.Fields.{start}
use Rattle.rules.specs.Choice.{runner_byte}
use Rattle.rules.specs.Tick.{runner_of, tick}
use Rattle.rules.specs.Run.{after, trace}
use Rattle.rules.specs.Answers.{ticked, told, record_after, ran, buffer_after, Ticked}
use Rattle.rules.specs.declared.State.{State}
use Rattle.theorems.specs.Refusals.{NotRefused}

-- A run of h + 1 ticks is a run of h ticks and one more: in the record, and in the trace one runner byte more.
abbrev pub OneMore : Type 0
OneMore = (h : ℕ) (sheet : Sheet) (st : State)
    → (after (suc h) sheet st ≡ tick sheet (after h sheet st))
    × (trace (suc h) sheet st ≡ trace h sheet st ++ (runner_byte (runner_of sheet (after h sheet st)) ∷ []))

-- A run of h ticks and then of n more is a run of n + h.
abbrev pub InTwoParts : Type 0
InTwoParts = (n h : ℕ) (sheet : Sheet) (st : State) → after (n + h) sheet st ≡ after n sheet (after h sheet st)

-- The record stands in the caller's memory and a tick updates it there; a second form takes the record and hands the next
-- one back. Both agree.
pub record BothForms (bytes : List ℕ) (st : State) : Type 0 where
  pub refusal : (told bytes st).refusal ≡ (ticked bytes st).told.refusal
  pub runner : (told bytes st).runner ≡ (ticked bytes st).told.runner
  pub state : record_after bytes st ≡ (ticked bytes st).state

abbrev pub BothAgree : Type 0
BothAgree = (bytes : List ℕ) (st : State) → BothForms bytes st

-- The record after so many calls of a tick, each given what the last one handed back, from the start.
unfoldable pub called : (calls : ℕ) → (State → Ticked) → State
called zero f = start
called (suc h) f = (f (called h f)).state

-- Calls of `tick` from the start give what a run gives: none of them is refused, the record is the run's, and the runners
-- that they tell are the bytes that the run writes.
pub record TicksGive (bytes : List ℕ) (horizon : ℕ) (buffer : List ℕ) : Type 0 where
  pub through : (h : ℕ) → h < horizon → NotRefused (ticked bytes (called h (ticked bytes))).told.refusal
  pub state : called horizon (ticked bytes) ≡ (ran bytes horizon buffer).state
  pub runners : buffer_after bytes horizon buffer
      ≡ row horizon (λ h. (ticked bytes (called h (ticked bytes))).told.runner) ++ drop horizon buffer

abbrev pub TicksAreRuns : Type 0
TicksAreRuns = (bytes : List ℕ) (horizon : ℕ) (buffer : List ℕ) → NotRefused (ran bytes horizon buffer).refusal
    → TicksGive bytes horizon buffer
