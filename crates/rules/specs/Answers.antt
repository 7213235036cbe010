-- WHAT EACH CALL ANSWERS, refused calls too.
use Rattle.std.specs.Prelude.{ℕ, List, not, None, length, replicate, pos, if◌then◌else◌}
use Rattle.rules.specs.Words.{◌<?◌, ◌=?◌, row}
use Rattle.rules.specs.Sheet.{Sheet}
use Rattle.rules.specs.Reading.{Numbers, Reading, read, refused, refusal, refuse◌when◌, ◌>>=◌, ◌>>◌, read_sheet}
use Rattle.rules.specs.Fields.{no_state, start}
use Rattle.rules.specs.Record.{possible}
use Rattle.rules.specs.Choice.{ceiling, runner_byte}
use Rattle.rules.specs.Tick.{runner_of, tick}
use Rattle.rules.specs.Run.{after, written}
use Rattle.rules.specs.Bounds.{bound, bound_by, laxity}
use Rattle.rules.specs.declared.State.{State}
use Rattle.rules.specs.declared.Bound.{Bound}
use Rattle.rules.specs.declared.Laxity.{Laxity}

-- A refusal gives its number, the task's rank and the step's index; where there is none, all three are zero.
unfoldable pub why : {A : Type 0} → Reading A → Numbers
why (read a) = refusal 0 0 0
why (refused x) = x

-- A field of the answer, made of the sheet; all other fields of a refused answer are zero or as they came.
unfoldable pub made : {A B : Type 0} → Reading A → B → (A → B) → B
made (read a) other f = f a
made (refused x) other f = other

-- Sixteen values: one for each of the sheet's tasks, zero behind them.
unfoldable pub by_rank : {A : Type 0} → A → (Sheet → ℕ → A) → Sheet → List A
by_rank zero f sheet = row 16 λ i. if i <? length sheet.tasks then f sheet i else zero

-- The answers as document 01 lists their fields. In code an answer is a value or a refusal: Coded.antt has the tie.
pub record Checked : Type 0 where
  pub refusal : Numbers
  pub tasks : ℕ
  pub semaphores : ℕ
  pub mode : ℕ

pub record Ceilings : Type 0 where
  pub refusal : Numbers
  pub ceilings : List ℕ

pub record Bounds : Type 0 where
  pub refusal : Numbers
  pub bounds : List Bound

pub record Laxities : Type 0 where
  pub refusal : Numbers
  pub laxities : List Laxity

-- What a tick tells: who ran. By value it has the next record too.
pub record Told : Type 0 where
  pub refusal : Numbers
  pub runner : ℕ

pub record Ticked : Type 0 where
  pub told : Told
  pub state : State

-- A whole run: the record at its end.
pub record Ran : Type 0 where
  pub refusal : Numbers
  pub state : State

-- The sheet check: how many tasks and semaphores, and the mode.
unfoldable pub check : (bytes : List ℕ) → Checked
check bytes =
    let r = read_sheet bytes in
    record {
      refusal = why r;
      tasks = made r 0 λ sheet. length sheet.tasks;
      semaphores = made r 0 λ sheet. sheet.semaphores;
      mode = made r 0 λ sheet. sheet.mode;
    }

-- Sixteen ceilings, one for each semaphore number.
unfoldable pub ceilings : (bytes : List ℕ) → Ceilings
ceilings bytes =
    let r = read_sheet bytes in
    record { refusal = why r; ceilings = made r (replicate 16 0) λ sheet. row 16 (ceiling sheet) }

-- The bound of a task, and what gives it. In a refused answer, and behind the last task: zero, and by nothing.
unfoldable pub bound_of : Sheet → (i : ℕ) → Bound
bound_of sheet i = record { ticks = bound sheet i; by = bound_by sheet i }

abbrev pub no_bound : Bound
no_bound = record { ticks = 0; by = None }

unfoldable pub bounds : (bytes : List ℕ) → Bounds
bounds bytes =
    let r = read_sheet bytes in
    record { refusal = why r; bounds = made r (replicate 16 no_bound) (by_rank no_bound bound_of) }

-- The laxity of a task, which may be negative, and what gives the bound in it.
unfoldable pub laxity_of : Sheet → (i : ℕ) → Laxity
laxity_of sheet i = record { ticks = laxity sheet i; by = bound_by sheet i }

abbrev pub no_laxity : Laxity
no_laxity = record { ticks = pos 0; by = None }

unfoldable pub laxities : (bytes : List ℕ) → Laxities
laxities bytes =
    let r = read_sheet bytes in
    record { refusal = why r; laxities = made r (replicate 16 no_laxity) (by_rank no_laxity laxity_of) }

-- A call with a state tests 16, then 17. Refused, the state comes back as the one that came.
unfoldable pub read_tick : (bytes : List ℕ) → State → Reading Sheet
read_tick bytes st = do
  sheet ← read_sheet bytes
  refuse 16 when not (possible sheet st)
  refuse 17 when st.t =? 60000
  read sheet

unfoldable pub told : (bytes : List ℕ) → State → Told
told bytes st =
    let r = read_tick bytes st in
    record { refusal = why r; runner = made r 0 λ sheet. runner_byte (runner_of sheet st) }

unfoldable pub record_after : (bytes : List ℕ) → State → State
record_after bytes st = made (read_tick bytes st) st λ sheet. tick sheet st

-- The record stands in the caller's memory and a tick updates it there; a second form takes the record and hands the next
-- one back. Both agree.
unfoldable pub ticked : (bytes : List ℕ) → State → Ticked
ticked bytes st = record { told = told bytes st; state = record_after bytes st }

-- A call with a horizon tests 14, then 15. Refused, the record is zero and no lent byte differs.
unfoldable pub read_run : (bytes : List ℕ) (horizon : ℕ) (buffer : List ℕ) → Reading Sheet
read_run bytes horizon buffer = do
  sheet ← read_sheet bytes
  refuse 14 when 60000 <? horizon
  refuse 15 when length buffer <? horizon
  read sheet

unfoldable pub ran : (bytes : List ℕ) (horizon : ℕ) (buffer : List ℕ) → Ran
ran bytes horizon buffer =
    let r = read_run bytes horizon buffer in
    record { refusal = why r; state = made r no_state λ sheet. after horizon sheet start }

unfoldable pub buffer_after : (bytes : List ℕ) (horizon : ℕ) (buffer : List ℕ) → List ℕ
buffer_after bytes horizon buffer = made (read_run bytes horizon buffer) buffer λ sheet. written horizon sheet start buffer
