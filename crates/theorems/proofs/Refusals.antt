-- The number in an answer tells whether the call went through, and each refusal has its place.
use Prim.Native.Nat.{ℕ}
use mathlib.Core.Path.{refl, ap}
use mathlib.Core.Logic.{inl, inr}
use mathlib.Core.List.{List}
use Rattle.rules.specs.Sheet.{Sheet}
use Rattle.rules.specs.Reading.{Reading, read, refused, read_sheet}
use Rattle.rules.specs.Answers.{why, check, ceilings, bounds, laxities, read_tick, ticked, told, read_run, ran, record_after}
use Rattle.rules.specs.declared.State.{State}
use Rattle.rules.specs.Laws.{Numbered as AllGiven}
use Rattle.rules.proofs.Numbers.{refusals_given, was_read}
use Rattle.theorems.specs.Refusals.{Numbered, Tells, NumberTells}

tells : (r : Reading Sheet) → AllGiven r → Tells (why r) r
unfolding why
tells r g = (was_read r g, λ (sheet, e). ap (λ (x : Reading Sheet). (why x).number) e)

sheet_tells : (bytes : List ℕ) → Tells (why (read_sheet bytes)) (read_sheet bytes)
sheet_tells bytes = tells (read_sheet bytes) (refusals_given.of_sheet bytes)

tick_tells : (bytes : List ℕ) (st : State) → Tells (why (read_tick bytes st)) (read_tick bytes st)
tick_tells bytes st = tells (read_tick bytes st) (refusals_given.of_tick bytes st)

pub number_tells : NumberTells
unfolding check ceilings bounds laxities ticked told ran record_after
number_tells = record {
  of_check = sheet_tells;
  of_ceilings = sheet_tells;
  of_bounds = sheet_tells;
  of_laxities = sheet_tells;
  of_tick = tick_tells;
  of_tick_in_place = tick_tells;
  of_run = λ bytes horizon buffer. tells (read_run bytes horizon buffer) (refusals_given.of_run bytes horizon buffer);
}

-- and the answer has its place
numbered : {A : Type 0} (r : Reading A) → AllGiven r → Numbered (why r)
unfolding why
numbered (read a) g = inl refl
numbered (refused x) g = inr g

pub sheet_numbered : (bytes : List ℕ) → Numbered (why (read_sheet bytes))
sheet_numbered bytes = numbered (read_sheet bytes) (refusals_given.of_sheet bytes)

pub tick_numbered : (bytes : List ℕ) (st : State) → Numbered (why (read_tick bytes st))
tick_numbered bytes st = numbered (read_tick bytes st) (refusals_given.of_tick bytes st)

pub run_numbered : (bytes : List ℕ) (horizon : ℕ) (buffer : List ℕ) → Numbered (why (read_run bytes horizon buffer))
run_numbered bytes horizon buffer = numbered (read_run bytes horizon buffer) (refusals_given.of_run bytes horizon buffer)
