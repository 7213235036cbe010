-- ANSWERS IN CODE. A call answers a value or a refusal that is an enum; document 01's number and values for each of the cases.
use Rattle.std.specs.Prelude.{ℕ, ◌+◌, List, replicate, Result, Ok, Err, if◌then◌else◌}
use Rattle.rules.specs.Words.{◌<?◌}
use Rattle.rules.specs.Reading.{Reading, read, refused, Numbers, refusal}
use Rattle.rules.specs.Fields.{no_state}
use Rattle.rules.specs.Answers.{Checked, Ceilings, Bounds, Laxities, Told, Ticked, Ran, no_bound, no_laxity}
use Rattle.rules.specs.declared.State.{State}
use Rattle.rules.specs.declared.Head.{Head}
use Rattle.rules.specs.declared.Bound.{Bound}
use Rattle.rules.specs.declared.Laxity.{Laxity}
use Rattle.rules.specs.declared.AfterTick.{AfterTick}
use Rattle.rules.specs.declared.Runner.{Runner}
use Rattle.rules.specs.declared.Runner.TheVariants.{Rank, Stuck, Idle}
use Rattle.rules.specs.declared.Refusal.{Refusal}
use Rattle.rules.specs.declared.Refusal.TheVariants.{Short, Mark, Version, TaskCount, SemaphoreCount, Mode, Cut, Period, Offset, StepCount, UnknownStep, Nesting, BytesLeft, Horizon, Buffer, Impossible, Ended}

-- The number, the task's rank and the step's index of each refusal.
abbrev pub numbers : Refusal → Numbers
numbers Short = refusal 1 0 0
numbers Mark = refusal 2 0 0
numbers Version = refusal 3 0 0
numbers TaskCount = refusal 4 0 0
numbers SemaphoreCount = refusal 5 0 0
numbers Mode = refusal 6 0 0
numbers (Cut rank) = refusal 7 rank 0
numbers (Period rank) = refusal 8 rank 0
numbers (Offset rank) = refusal 9 rank 0
numbers (StepCount rank) = refusal 10 rank 0
numbers (UnknownStep rank step) = refusal 11 rank step
numbers (Nesting rank step) = refusal 12 rank step
numbers BytesLeft = refusal 13 0 0
numbers Horizon = refusal 14 0 0
numbers Buffer = refusal 15 0 0
numbers Impossible = refusal 16 0 0
numbers Ended = refusal 17 0 0

-- What is read, or why not, as an answer has it.
abbrev pub reading : {A B : Type 0} → (A → B) → Result A Refusal → Reading B
reading f (Ok a) = read (f a)
reading f (Err x) = refused (numbers x)

-- Zero for all three numbers where the call goes through; and a field, which is `other` in a refused answer.
abbrev pub said : {A : Type 0} → Result A Refusal → Numbers
said (Ok a) = refusal 0 0 0
said (Err x) = numbers x

abbrev pub field : {A B : Type 0} → B → (A → B) → Result A Refusal → B
field other f (Ok a) = f a
field other f (Err x) = other

-- Who ran, as the runner byte: 254 and 255 are nobody's. A rank from there on has no byte but a number above 255, so that it
-- can't pass for stuck or idle: no contract permits it.
abbrev pub told_byte : Runner → ℕ
told_byte (Rank i) = if i <? 254 then i else i + 2
told_byte Stuck = 254
told_byte Idle = 255

-- The answer of each call.
abbrev pub checked : Result Head Refusal → Checked
checked r = record {
  refusal = said r;
  tasks = field 0 (λ h. h.n) r;
  semaphores = field 0 (λ h. h.semaphores) r;
  mode = field 0 (λ h. h.mode) r;
}

abbrev pub ceilings_in : Result (List ℕ) Refusal → Ceilings
ceilings_in r = record { refusal = said r; ceilings = field (replicate 16 0) (λ cs. cs) r }

abbrev pub bounds_in : Result (List Bound) Refusal → Bounds
bounds_in r = record { refusal = said r; bounds = field (replicate 16 no_bound) (λ bs. bs) r }

abbrev pub laxities_in : Result (List Laxity) Refusal → Laxities
laxities_in r = record { refusal = said r; laxities = field (replicate 16 no_laxity) (λ ls. ls) r }

abbrev pub told_in : Result Runner Refusal → Told
told_in r = record { refusal = said r; runner = field 0 told_byte r }

abbrev pub ticked_in : AfterTick → Ticked
ticked_in a = record { told = told_in a.told; state = a.state }

abbrev pub ran_in : Result State Refusal → Ran
ran_in r = record { refusal = said r; state = field no_state (λ st. st) r }
