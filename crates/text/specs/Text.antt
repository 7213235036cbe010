-- THE PRINTED FORM: what the printing program writes for the bytes that it reads.
use Rattle.std.specs.Prelude.{ℕ, List, ◌++◌, length, take, drop, replicate, if◌then◌else◌}
use Rattle.std.specs.List.{flat_map}
use Rattle.rules.specs.Words.{◌<?◌, row}
use Rattle.rules.specs.Reading.{Numbers, refusal, word}
use Rattle.rules.specs.Fields.{start}
use Rattle.rules.specs.Record.{record_at}
use Rattle.rules.specs.Run.{after, trace}
use Rattle.rules.specs.Answers.{why, made, bound_of, laxity_of, read_run}
use Rattle.rules.specs.declared.Counts.{Counts}
use Rattle.rules.specs.declared.State.{State}
use Rattle.rules.specs.declared.Bound.{Bound}
use Rattle.rules.specs.declared.Laxity.{Laxity}
use Rattle.words.specs.Words.{ascii, decimal, field, signed_decimal, given_by, tick_word}

unfoldable pub head_line : (ticks switches : ℕ) → List ℕ
head_line ticks switches = field "ticks " ticks ++ field " switches " switches ++ ascii "\n"

-- Its releases, completions and misses;
unfoldable pub jobs : Counts → List ℕ
jobs c = field " releases " c.releases ++ field " done " c.completions ++ field " missed " c.misses

-- its ticks run, its ticks blocked and its worst response;
unfoldable pub times : Counts → List ℕ
times c = field " ran " c.ran ++ field " blocked " c.blocked ++ field " worst " c.worst

-- its bound and its laxity, and what gives the bound.
unfoldable pub analysis : Bound → Laxity → List ℕ
analysis bound laxity = field " bound " bound.ticks ++ ascii " laxity " ++ signed_decimal laxity

-- the most ticks blocked that any job had, to be held against the bound.
unfoldable pub most : Counts → List ℕ
most c = field " most " c.most

-- One line per rank, first field the rank.
unfoldable pub task_line : (i : ℕ) → Counts → Bound → Laxity → List ℕ
task_line i c bound laxity = decimal i ++ jobs c ++ times c ++ analysis bound laxity ++ most c ++ given_by bound.by ++ ascii "\n"

unfoldable pub task_lines : (n : ℕ) → State → (bounds : ℕ → Bound) (laxities : ℕ → Laxity) → List ℕ
task_lines n st bounds laxities = flat_map (λ i. task_line i (record_at st.tasks i).counts (bounds i) (laxities i)) (row n λ i. i)

-- The trace line has one word for each tick.
unfoldable pub trace_line : (runners : List ℕ) → List ℕ
trace_line runners = ascii "trace" ++ flat_map tick_word runners ++ ascii "\n"

-- An accepted run of n tasks prints these, whole.
unfoldable pub report : (n : ℕ) → State → (bounds : ℕ → Bound) (laxities : ℕ → Laxity) (runners : List ℕ) → List ℕ
report n st bounds laxities runners = head_line st.t st.switches ++ task_lines n st bounds laxities ++ trace_line runners

-- A refusal prints this alone.
unfoldable pub refusal_line : Numbers → List ℕ
refusal_line x = field "refused " x.number ++ field " task " x.rank ++ field " step " x.step ++ ascii "\n"

-- What a horizon and a sheet print. The trace has the horizon's length, so that 15 is never given.
unfoldable pub printed_run : (horizon : ℕ) (bytes : List ℕ) → List ℕ
printed_run h bytes =
    let r = read_run bytes h (replicate h 0) in
    made r (refusal_line (why r)) λ sheet.
    report (length sheet.tasks) (after h sheet start) (bound_of sheet) (laxity_of sheet) (trace h sheet start)

-- WHAT IS PRINTED for the bytes on standard input: a 16-bit big-endian horizon and then a sheet; at most 3,163 bytes are
-- taken. Input under two bytes is refusal 1.
unfoldable pub printed : (input : List ℕ) → List ℕ
printed input =
    let taken = take 3163 input in
    if length taken <? 2 then refusal_line (refusal 1 0 0) else printed_run (word taken 0) (drop 2 taken)
