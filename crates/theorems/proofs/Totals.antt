-- Rules 6 and 7 fix the totals tick by tick.
use Prim.Native.Nat.{ℕ, zero, suc, ◌+◌, ◌<◌}
use mathlib.Core.Path.{◌≡◌, refl, sym, ap, ◌∙◌}
use mathlib.Core.List.{List}
use mathlib.Core.Bool.{Bool, true, false, not, ◌&&◌}
use native.Mathlib.Omega.{arith}
use native.Mathlib.Nat.{add-zero}
use lib.ListN.{length, get_or, replicate}
use borrow.Author.Tests.{eqb-true, lt-ltb, le-ltb}
use Rattle.std.specs.Prelude.{if◌then◌else◌}
use Rattle.rules.specs.Words.{◌<?◌, ◌=?◌, total}
use Rattle.rules.specs.Sheet.{Task, Sheet, task_at}
use Rattle.rules.specs.Fields.{up, blank, same_job, start}
use Rattle.rules.specs.Record.{record_at}
use Rattle.rules.specs.Choice.{runner_byte, runner}
use Rattle.rules.specs.declared.Runner.{Runner}
use Rattle.rules.specs.declared.Runner.TheVariants.{Rank, Stuck, Idle}
use Rattle.rules.specs.Tick.{released, after_releases, advanced, was_blocked, spent, after_runner, job_of, ran_last, closed, runner_of, tick}
use Rattle.rules.specs.Run.{after}
use Rattle.rules.specs.declared.Count.TheVariants.{TicksRun}
use Rattle.rules.specs.declared.TaskRecord.{TaskRecord}
use Rattle.rules.specs.declared.LastJob.{LastJob}
use Rattle.rules.specs.declared.State.{State}
use Rattle.rules.proofs.Laws.{true_false, row_at, if_cases}
use Rattle.rules.proofs.Possible.{job_same}
use Rattle.rules.proofs.MayRun.{runner_below}
use Rattle.rules.proofs.Tick.{released_cases, advanced_cases}
use Rattle.theorems.specs.Shams.{one, switch_now, blocked_now, blocked_of, TotalsOfRuns}

-- a runner that is a job is a rank
abbrev Ranked : Runner → Type 0
Ranked x = (k : ℕ) → x ≡ Rank k → k < 16

-- rule 1 and rule 5 leave the count of ticks blocked
abbrev blocked : TaskRecord → ℕ
blocked r = r.counts.blocked

released_blocked : (t : ℕ) (task : Task) (r : TaskRecord) → blocked (released t task r) ≡ blocked r
released_blocked t task r = released_cases (λ x. blocked x ≡ blocked r) t task r (λ e. refl) (λ e p. refl) (λ e p. refl)

advanced_blocked : (t : ℕ) (task : Task) (r : TaskRecord) → blocked (advanced t task r) ≡ blocked r
advanced_blocked t task r = advanced_cases (λ x. blocked x ≡ blocked r) t task r (λ l. refl) (λ l h. refl) (λ l h. refl)

-- rule 6 lets it rise by one where the job is blocked
job_blocked : (low same under waits : Bool) (ran r : TaskRecord) → low ≡ true → (same ≡ true → under ≡ false) → blocked ran ≡ blocked r
    → blocked (if same then record { job = ran.job; counts = up TicksRun ran.counts } else if under && waits then was_blocked r else r)
    ≡ blocked r + one (low && under && waits)
job_blocked false same under waits ran r l h e = true_false false l refl
job_blocked true true false waits ran r l h e = e ∙ sym (add-zero (blocked r))
job_blocked true true true waits ran r l h e = true_false true refl (h refl)
job_blocked true false false waits ran r l h e = sym (add-zero (blocked r))
job_blocked true false true true ran r l h e = refl
job_blocked true false true false ran r l h e = sym (add-zero (blocked r))

spent_blocked : (x : Runner) (t i : ℕ) (task : Task) (r : TaskRecord) → Ranked x
    → blocked (spent x t i task r) ≡ blocked r + one (runner_byte x <? 254 && i <? runner_byte x && r.job.pending)
unfolding spent runner_byte
spent_blocked Stuck t i task r l = sym (add-zero (blocked r))
spent_blocked Idle t i task r l = sym (add-zero (blocked r))
spent_blocked (Rank x) t i task r l =
    job_blocked (x <? 254) (i =? x) (i <? x) r.job.pending (advanced t task r) r
    (lt-ltb x 254 (omega (arith, l x refl))) (λ u. let same = eqb-true i x u in le-ltb i x (omega arith)) (advanced_blocked t task r)

-- rule 7 counts a switch where a job runs that is another than the one that ran last
switch_or_not : (b : Bool) (n : ℕ) → (if b then n else n + 1) ≡ n + one (not b)
switch_or_not true n = sym (add-zero n)
switch_or_not false n = refl

counted_switch : (x : Runner) (records : List TaskRecord) (last : LastJob) (n : ℕ) → Ranked x
    → (if same_job (ran_last x records last) last then n else n + 1)
    ≡ n + one (runner_byte x <? 254 && not (same_job (job_of records (runner_byte x)) last))
unfolding ran_last runner_byte
counted_switch (Rank i) records last n l =
    switch_or_not (same_job (job_of records i) last) n
    ∙ ap (λ (b : Bool). n + one (b && not (same_job (job_of records i) last))) (sym (lt-ltb i 254 (omega (arith, l i refl))))
counted_switch Stuck records last n l = rw (job_same last) (sym (add-zero n))
counted_switch Idle records last n l = rw (job_same last) (sym (add-zero n))

module _ (sheet : Sheet) (st : State) where
  releases_blocked : (i : ℕ) → i < 16 → blocked (record_at (after_releases sheet st) i) ≡ blocked_of st i
  unfolding after_releases record_at
  releases_blocked i l =
      ap blocked (row_at 16 _ blank i l)
      ∙ if_cases (λ x. blocked x ≡ blocked_of st i) (i <? length sheet.tasks) _ _
      (λ u. released_blocked st.t (task_at sheet i) (record_at st.tasks i)) (λ u. refl)

  pub tick_blocked : (i : ℕ) → i < 16 → blocked_of (tick sheet st) i ≡ blocked_of st i + one (blocked_now sheet st (runner_byte (runner_of sheet st)) i)
  unfolding tick runner_of closed after_runner record_at
  tick_blocked i l =
      let rs = after_releases sheet st in
      ap blocked (row_at 16 _ blank i l)
      ∙ spent_blocked (runner sheet rs) st.t i (task_at sheet i) (record_at rs i) (runner_below sheet rs)
      ∙ ap (λ (n : ℕ). n + one (blocked_now sheet st (runner_byte (runner sheet rs)) i)) (releases_blocked i l)

  pub tick_switches : (tick sheet st).switches ≡ st.switches + one (switch_now sheet st (runner_byte (runner_of sheet st)))
  unfolding tick runner_of closed
  tick_switches =
      let rs = after_releases sheet st in
      counted_switch (runner sheet rs) rs st.last st.switches (runner_below sheet rs)

-- and so in a run
blank_at : (n i : ℕ) → get_or (replicate n blank) i blank ≡ blank
blank_at zero i = refl
blank_at (suc n) zero = refl
blank_at (suc n) (suc i) = blank_at n i

blocked_total : (h : ℕ) (sheet : Sheet) (i : ℕ) → i < 16
    → blocked_of (after h sheet start) i ≡ total h λ t. one (blocked_now sheet (after t sheet start) (runner_byte (runner_of sheet (after t sheet start))) i)
unfolding after total record_at
blocked_total zero sheet i l = ap blocked (blank_at 16 i)
blocked_total (suc h) sheet i l =
    tick_blocked sheet (after h sheet start) i l
    ∙ ap (λ (n : ℕ). n + one (blocked_now sheet (after h sheet start) (runner_byte (runner_of sheet (after h sheet start))) i)) (blocked_total h sheet i l)

switches_total : (h : ℕ) (sheet : Sheet)
    → (after h sheet start).switches ≡ total h λ t. one (switch_now sheet (after t sheet start) (runner_byte (runner_of sheet (after t sheet start))))
unfolding after total
switches_total zero sheet = refl
switches_total (suc h) sheet =
    tick_switches sheet (after h sheet start)
    ∙ ap (λ (n : ℕ). n + one (switch_now sheet (after h sheet start) (runner_byte (runner_of sheet (after h sheet start))))) (switches_total h sheet)

pub totals_of_runs : TotalsOfRuns
totals_of_runs h sheet = (switches_total h sheet, blocked_total h sheet)
