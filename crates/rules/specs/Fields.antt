-- THE FIELDS OF THE RECORD: the one place that lists them. The other chapters name a field only where a rule is about it.
use Rattle.std.specs.Prelude.{ℕ, ◌+◌, List, [], ◌∷◌, map, Bool, true, false, not, ◌&&◌, replicate, if◌then◌else◌}
use Rattle.rules.specs.Words.{◌=?◌, all}
use Rattle.rules.specs.declared.Job.{Job}
use Rattle.rules.specs.declared.Count.{Count}
use Rattle.rules.specs.declared.Count.TheVariants.{Releases, Completions, Misses, TicksRun, TicksBlocked, WorstResponse, MostBlocked}
use Rattle.rules.specs.declared.Counts.{Counts}
use Rattle.rules.specs.declared.TaskRecord.{TaskRecord}
use Rattle.rules.specs.declared.LastJob.{LastJob}
use Rattle.rules.specs.declared.State.{State}

-- The counts of releases, completions, misses, ticks run, ticks blocked, the worst response, and the most ticks blocked that any
-- job had: by name (`Count`),
abbrev pub every_count : List Count
every_count = Releases ∷ Completions ∷ Misses ∷ TicksRun ∷ TicksBlocked ∷ WorstResponse ∷ MostBlocked ∷ []

-- by the place in that row,
abbrev pub place_of : Count → ℕ
place_of = elim [ Releases ↦ 0 | Completions ↦ 1 | Misses ↦ 2 | TicksRun ↦ 3 | TicksBlocked ↦ 4 | WorstResponse ↦ 5 | MostBlocked ↦ 6 ]

-- and as they stand in the record: the count of a name, and the counts that have a value for each name.
abbrev pub count : Count → Counts → ℕ
count Releases c = c.releases
count Completions c = c.completions
count Misses c = c.misses
count TicksRun c = c.ran
count TicksBlocked c = c.blocked
count WorstResponse c = c.worst
count MostBlocked c = c.most

abbrev pub counts : (Count → ℕ) → Counts
counts f = record {
  releases = f Releases;
  completions = f Completions;
  misses = f Misses;
  ran = f TicksRun;
  blocked = f TicksBlocked;
  worst = f WorstResponse;
  most = f MostBlocked;
}

-- All of them as a row.
unfoldable pub counted : Counts → List ℕ
counted c = map (λ k. count k c) every_count

-- One count set anew, and one that rises by one; the others stay.
abbrev pub with_count : Count → (value : ℕ) → Counts → Counts
with_count k value c = counts λ j. if place_of j =? place_of k then value else count j c

abbrev pub up : Count → Counts → Counts
up k c = with_count k (count k c + 1) c

-- A job that stands at a step with so many ticks left of it, its release tick and its ticks blocked; one that moves on and one
-- that is blocked for a tick, which keep the rest; and none.
abbrev pub standing : (position left release present : ℕ) → Job
standing position left release present = record { pending = true; position = position; left = left; release = release; present = present }

abbrev pub moved_to : (position left : ℕ) → Job → Job
moved_to position left j = standing position left j.release j.present

abbrev pub held_up : Job → Job
held_up j = standing j.position j.left j.release (j.present + 1)

abbrev pub no_job : Job
no_job = record { pending = false; position = 0; left = 0; release = 0; present = 0 }

-- The numbers of a job as a row.
unfoldable pub place : Job → List ℕ
place j = j.position ∷ j.left ∷ j.release ∷ j.present ∷ []

-- The record of a task: with another job, with other counts, and one that is zero.
abbrev pub with_job : Job → TaskRecord → TaskRecord
with_job j r = record { job = j; counts = r.counts }

abbrev pub with_counts : Counts → TaskRecord → TaskRecord
with_counts c r = record { job = r.job; counts = c }

abbrev pub no_counts : Counts
no_counts = counts λ k. 0

abbrev pub blank : TaskRecord
blank = record { job = no_job; counts = no_counts }

unfoldable pub zeros : List ℕ → Bool
zeros xs = all (λ x. x =? 0) xs

unfoldable pub zero_record : TaskRecord → Bool
zero_record r = not r.job.pending && zeros (place r.job) && zeros (counted r.counts)

-- The job that ran last, by rank and release tick, 255 and 0 while none has run. It is the same job where both are.
abbrev pub last_job : (rank release : ℕ) → LastJob
last_job rank release = record { rank = rank; release = release }

abbrev pub none_yet : LastJob
none_yet = last_job 255 0

unfoldable pub same_job : LastJob → LastJob → Bool
same_job a b = a.rank =? b.rank && a.release =? b.release

-- The record of a run: with other task records, one that is zero, and the start, where everything is zero, nobody is
-- pending, and no job has run.
abbrev pub with_tasks : State → List TaskRecord → State
with_tasks st records = record { t = st.t; switches = st.switches; last = st.last; tasks = records }

abbrev pub no_state : State
no_state = record { t = 0; switches = 0; last = last_job 0 0; tasks = replicate 16 blank }

abbrev pub start : State
start = record { t = 0; switches = 0; last = none_yet; tasks = replicate 16 blank }
