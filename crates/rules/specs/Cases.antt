-- NUMBERS TO HOLD AGAINST IT: the eight cases marked proved, one list under one statement.
use Rattle.std.specs.Prelude.{ℕ, ◌≡◌, List, [], ◌∷◌, ◌++◌, true, length, replicate, ℤ, pos, negsuc, Option, Some, None}
use Rattle.rules.specs.Words.{row}
use Rattle.rules.specs.Sheet.{Sheet}
use Rattle.rules.specs.Reading.{Reading, read, refused, read_sheet}
use Rattle.rules.specs.Fields.{up, standing, no_counts, counted, blank, last_job, start}
use Rattle.rules.specs.Record.{record_at, possible}
use Rattle.rules.specs.Laws.{All}
use Rattle.rules.specs.Run.{after, trace}
use Rattle.rules.specs.Bounds.{bound, bound_by, laxity, section}
use Rattle.rules.specs.declared.Count.TheVariants.{Releases, TicksRun}
use Rattle.rules.specs.declared.Section.{Section}
use Rattle.rules.specs.declared.State.{State}
use Rattle.rules.specs.declared.TaskRecord.{TaskRecord}

-- What must come out. The counts of a rank: releases, done, missed, ran, blocked, worst, most blocked.
pub data Outcome : Type 0 where
  Ticks : ℕ → Outcome
  Trace : List ℕ → Outcome
  Switches : ℕ → Outcome
  Counts : ℕ → List ℕ → Outcome
  Bounds : List ℕ → Outcome
  Names : List (Option Section) → Outcome
  Laxities : List ℤ → Outcome
  Ends : State → Outcome

-- A case: the bytes of a sheet, a state to go on from, so many ticks, and what must come out.
pub record Case : Type 0 where
  pub sheet : List ℕ
  pub from : State
  pub ticks : ℕ
  pub outcomes : List Outcome

-- By the rules it does.
abbrev pub Shows : Sheet → State → ℕ → Outcome → Type 0
Shows sheet st h (Ticks n) = (after h sheet st).t ≡ n
Shows sheet st h (Trace xs) = trace h sheet st ≡ xs
Shows sheet st h (Switches n) = (after h sheet st).switches ≡ n
Shows sheet st h (Counts i xs) = counted (record_at (after h sheet st).tasks i).counts ≡ xs
Shows sheet st h (Bounds xs) = row (length sheet.tasks) (bound sheet) ≡ xs
Shows sheet st h (Names xs) = row (length sheet.tasks) (bound_by sheet) ≡ xs
Shows sheet st h (Laxities xs) = row (length sheet.tasks) (laxity sheet) ≡ xs
Shows sheet st h (Ends end) = after h sheet st ≡ end

-- THE STATEMENT. The bytes are an accepted sheet, the state is possible for it, and every outcome is as said.
abbrev pub HoldsFor : Case → Reading Sheet → Type 0
HoldsFor c (read sheet) = (possible sheet c.from ≡ true) × All (Shows sheet c.from c.ticks) c.outcomes
HoldsFor c (refused x) = ⊥

abbrev pub Holds : Case → Type 0
Holds c = HoldsFor c (read_sheet c.sheet)

-- The bytes of a sheet whose numbers are below 256: its head, a task's head, a step.
abbrev pub head_bytes : ℕ → ℕ → ℕ → List ℕ
head_bytes n m mode = 0x4C ∷ 0x54 ∷ 0x53 ∷ 0 ∷ 1 ∷ n ∷ m ∷ mode ∷ []

abbrev pub task_bytes : ℕ → ℕ → ℕ → List ℕ
task_bytes period offset count = 0 ∷ period ∷ 0 ∷ offset ∷ count ∷ []

abbrev pub run_bytes : ℕ → List ℕ
run_bytes n = 1 ∷ 0 ∷ n ∷ []

abbrev pub lock_bytes : ℕ → List ℕ
lock_bytes s = 2 ∷ 0 ∷ s ∷ []

abbrev pub unlock_bytes : ℕ → List ℕ
unlock_bytes s = 3 ∷ 0 ∷ s ∷ []

abbrev pub tasksA : List ℕ
tasksA =
    task_bytes 10 2 4 ++ run_bytes 1 ++ lock_bytes 0 ++ run_bytes 1 ++ unlock_bytes 0
    ++ task_bytes 20 0 5 ++ run_bytes 1 ++ lock_bytes 0 ++ run_bytes 3 ++ unlock_bytes 0 ++ run_bytes 1

abbrev pub A : Case
A = record {
  sheet = head_bytes 2 1 0 ++ tasksA;
  from = start;
  ticks = 10;
  outcomes =
      Ticks 10
      ∷ Trace (1 ∷ 1 ∷ 0 ∷ 1 ∷ 1 ∷ 0 ∷ 1 ∷ 255 ∷ 255 ∷ 255 ∷ [])
      ∷ Switches 5
      ∷ Counts 0 (1 ∷ 1 ∷ 0 ∷ 2 ∷ 2 ∷ 4 ∷ 2 ∷ [])
      ∷ Counts 1 (1 ∷ 1 ∷ 0 ∷ 5 ∷ 0 ∷ 7 ∷ 0 ∷ [])
      ∷ Bounds (3 ∷ 0 ∷ [])
      ∷ Names (Some (section 1 1) ∷ None ∷ [])
      ∷ Laxities (pos 5 ∷ pos 11 ∷ [])
      ∷ [];
}

-- A in mode 1
abbrev pub A2 : Case
A2 = record {
  sheet = head_bytes 2 1 1 ++ tasksA;
  from = start;
  ticks = 10;
  outcomes =
      Trace (1 ∷ 1 ∷ 1 ∷ 1 ∷ 0 ∷ 0 ∷ 1 ∷ 255 ∷ 255 ∷ 255 ∷ [])
      ∷ Switches 3
      ∷ Counts 0 (1 ∷ 1 ∷ 0 ∷ 2 ∷ 2 ∷ 4 ∷ 2 ∷ [])
      ∷ [];
}

-- A with m 2 and a rank 2
abbrev pub A3 : Case
A3 = record {
  sheet = head_bytes 3 2 0 ++ tasksA ++ task_bytes 20 0 3 ++ lock_bytes 1 ++ run_bytes 2 ++ unlock_bytes 1;
  from = start;
  ticks = 10;
  outcomes =
      Trace (1 ∷ 1 ∷ 0 ∷ 1 ∷ 1 ∷ 0 ∷ 1 ∷ 2 ∷ 2 ∷ 255 ∷ [])
      ∷ Switches 6
      ∷ Counts 0 (1 ∷ 1 ∷ 0 ∷ 2 ∷ 2 ∷ 4 ∷ 2 ∷ [])
      ∷ Counts 1 (1 ∷ 1 ∷ 0 ∷ 5 ∷ 0 ∷ 7 ∷ 0 ∷ [])
      ∷ [];
}

-- C 4 4 4 10, periods 10 15 30 100; ranks 1 and 2 hold one semaphore for 2 ticks, rank 3 for 4
abbrev pub B : Case
B = record {
  sheet =
      head_bytes 4 1 0 ++ task_bytes 10 0 1 ++ run_bytes 4
      ++ task_bytes 15 0 4 ++ run_bytes 2 ++ lock_bytes 0 ++ run_bytes 2 ++ unlock_bytes 0
      ++ task_bytes 30 0 4 ++ run_bytes 2 ++ lock_bytes 0 ++ run_bytes 2 ++ unlock_bytes 0
      ++ task_bytes 100 0 4 ++ run_bytes 6 ++ lock_bytes 0 ++ run_bytes 4 ++ unlock_bytes 0;
  from = start;
  ticks = 0;
  outcomes =
      Bounds (0 ∷ 4 ∷ 4 ∷ 0 ∷ [])
      ∷ Names (None ∷ Some (section 3 1) ∷ Some (section 3 1) ∷ None ∷ [])
      ∷ Laxities (pos 6 ∷ negsuc 0 ∷ pos 2 ∷ pos 8 ∷ [])
      ∷ [];
}

-- one task that overruns its period, and one that completes at its end
abbrev pub D : Case
D = record {
  sheet = head_bytes 1 0 0 ++ task_bytes 2 0 1 ++ run_bytes 3;
  from = start;
  ticks = 5;
  outcomes =
      Trace (0 ∷ 0 ∷ 0 ∷ 255 ∷ 0 ∷ [])
      ∷ Switches 2
      ∷ Counts 0 (3 ∷ 1 ∷ 1 ∷ 4 ∷ 0 ∷ 3 ∷ 0 ∷ [])
      ∷ [];
}

abbrev pub D2 : Case
D2 = record {
  sheet = head_bytes 1 0 0 ++ task_bytes 3 0 1 ++ run_bytes 3;
  from = start;
  ticks = 6;
  outcomes =
      Counts 0 (2 ∷ 2 ∷ 0 ∷ 6 ∷ 0 ∷ 3 ∷ 0 ∷ [])
      ∷ [];
}

-- two jobs, released at 0, that stand at their second lock at tick 2
abbrev pub at_second_lock : TaskRecord
at_second_lock = record {
  job = standing 2 0 0 0;
  counts = up TicksRun (up Releases no_counts);
}

abbrev pub E : Case
E = record {
  sheet =
      head_bytes 2 2 0
      ++ task_bytes 20 0 6 ++ lock_bytes 0 ++ run_bytes 1 ++ lock_bytes 1 ++ run_bytes 1 ++ unlock_bytes 1 ++ unlock_bytes 0
      ++ task_bytes 20 0 6 ++ lock_bytes 1 ++ run_bytes 1 ++ lock_bytes 0 ++ run_bytes 1 ++ unlock_bytes 0 ++ unlock_bytes 1;
  from = record { t = 2; switches = 2; last = last_job 1 0; tasks = at_second_lock ∷ at_second_lock ∷ replicate 14 blank };
  ticks = 1;
  outcomes =
      Trace (254 ∷ [])
      ∷ [];
}

-- A with horizon 0
abbrev pub F : Case
F = record {
  sheet = head_bytes 2 1 0 ++ tasksA;
  from = start;
  ticks = 0;
  outcomes =
      Ends start
      ∷ Trace []
      ∷ Bounds (3 ∷ 0 ∷ [])
      ∷ Names (Some (section 1 1) ∷ None ∷ [])
      ∷ Laxities (pos 5 ∷ pos 11 ∷ [])
      ∷ [];
}

abbrev pub cases : List Case
cases = A ∷ A2 ∷ A3 ∷ B ∷ D ∷ D2 ∷ E ∷ F ∷ []
