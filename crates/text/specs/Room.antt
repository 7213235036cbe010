-- THE ROOM that is asked for a text before its bytes are known, made of that of its words.
use Rattle.std.specs.Prelude.{ℕ, ◌+◌, ◌*◌, List, get_or}
use Rattle.rules.specs.Answers.{no_bound, no_laxity}
use Rattle.rules.specs.declared.Bound.{Bound}
use Rattle.rules.specs.declared.Laxity.{Laxity}
use Rattle.words.specs.Room.{number_room, field_room, given_by_room, tick_room}

-- A line of fields, with its end.
abbrev pub line_room : (fields : ℕ) → ℕ
line_room fields = fields * field_room + 1

abbrev pub head_line_room : ℕ
head_line_room = line_room 2

abbrev pub jobs_room : ℕ
jobs_room = 3 * field_room

abbrev pub times_room : ℕ
times_room = 3 * field_room

abbrev pub analysis_room : ℕ
analysis_room = 2 * field_room

-- The parts of a task line, as they stand in it.
abbrev pub task_line_room : ℕ
task_line_room = number_room + jobs_room + times_room + analysis_room + field_room + given_by_room + 1

abbrev pub trace_line_room : (h : ℕ) → ℕ
trace_line_room h = tick_room * h + line_room 1

-- The report of h ticks, with a line for each of sixteen tasks.
abbrev pub report_room : (h : ℕ) → ℕ
report_room h = head_line_room + task_line_room * 16 + trace_line_room h

abbrev pub refusal_line_room : ℕ
refusal_line_room = line_room 3

-- Sixteen answers by rank.
abbrev pub bound_at : List Bound → (i : ℕ) → Bound
bound_at bounds i = get_or bounds i no_bound

abbrev pub laxity_at : List Laxity → (i : ℕ) → Laxity
laxity_at laxities i = get_or laxities i no_laxity
