-- WHAT A REFUSAL SAYS.
use Rattle.std.specs.Prelude.{ℕ, ◌≤◌, ◌≡◌, ◌⊎◌, ◌↔◌, List}
use Rattle.rules.specs.Sheet.{Sheet}
use Rattle.rules.specs.Reading.{Reading, read, refusal, read_sheet, Numbers}
use Rattle.rules.specs.Laws.{Given}
use Rattle.rules.specs.Answers.{check, ceilings, bounds, laxities, read_tick, ticked, told, read_run, ran}
use Rattle.rules.specs.declared.State.{State}

-- A call is refused where its refusal has a number, and goes through where that number is 0.
abbrev pub Refused : Numbers → Type 0
Refused x = 1 ≤ x.number

abbrev pub NotRefused : Numbers → Type 0
NotRefused x = x.number ≡ 0

-- What an answer says of its refusal: zero for all three where the call goes through, and else what document 01 gives.
abbrev pub Numbered : Numbers → Type 0
Numbered x = (x ≡ refusal 0 0 0) ⊎ Given x

-- The number in an answer tells a caller all: it is 0 exactly where the sheet was read and every test passed.
abbrev pub Tells : Numbers → Reading Sheet → Type 0
Tells x r = NotRefused x ↔ ((sheet : Sheet) × (r ≡ read sheet))

pub record NumberTells : Type 0 where
  pub of_check : (bytes : List ℕ) → Tells (check bytes).refusal (read_sheet bytes)
  pub of_ceilings : (bytes : List ℕ) → Tells (ceilings bytes).refusal (read_sheet bytes)
  pub of_bounds : (bytes : List ℕ) → Tells (bounds bytes).refusal (read_sheet bytes)
  pub of_laxities : (bytes : List ℕ) → Tells (laxities bytes).refusal (read_sheet bytes)
  pub of_tick : (bytes : List ℕ) (st : State) → Tells (ticked bytes st).told.refusal (read_tick bytes st)
  pub of_tick_in_place : (bytes : List ℕ) (st : State) → Tells (told bytes st).refusal (read_tick bytes st)
  pub of_run : (bytes : List ℕ) (horizon : ℕ) (buffer : List ℕ) → Tells (ran bytes horizon buffer).refusal (read_run bytes horizon buffer)
