-- The start record is possible, and a tick keeps it so.
use Prim.Native.Nat.{ℕ, zero, suc, ◌+◌, ◌-◌, ◌≤◌, ◌<◌, max}
use mathlib.Core.Path.{◌≡◌, refl, sym, ap, ◌∙◌, subst}
use mathlib.Core.Logic.{◌⊎◌, inl, inr, ⊎_elim}
use mathlib.Core.List.{List}
use mathlib.Core.Bool.{Bool, true, false, ◌&&◌}
use native.Mathlib.Omega.{arith}
use lib.ListN.{length, get_or-replicate}
use borrow.Author.Tests.{eqb-true}
use Rattle.std.specs.Prelude.{if◌then◌else◌}
use Rattle.rules.specs.Words.{◌=?◌, any, among}
use Rattle.rules.specs.Sheet.{Task, Sheet, task_at, held_on_top, held}
use Rattle.rules.specs.Reading.{read, read_sheet}
use Rattle.rules.specs.Fields.{count, up, held_up, no_job, blank, same_job, start}
use Rattle.rules.specs.Record.{record_at, behind, ahead, carries, holds, possible}
use Rattle.rules.specs.Choice.{held_by_other, runner}
use Rattle.rules.specs.declared.Runner.{Runner}
use Rattle.rules.specs.declared.Runner.TheVariants.{Rank, Stuck, Idle}
use Rattle.rules.specs.Tick.{released, after_releases, completed, advanced, spent, after_runner, ran_last, closed, runner_of, tick}
use Rattle.rules.specs.Run.{after}
use Rattle.rules.specs.Laws.{TaskLimits, takes, MayRun, RunnerMayRun, StartPossible, TickPossible}
use Rattle.rules.specs.declared.Count.{Count}
use Rattle.rules.specs.declared.Count.TheVariants.{Releases, Completions, Misses, TicksRun, TicksBlocked, WorstResponse, MostBlocked}
use Rattle.rules.specs.declared.Job.{Job}
use Rattle.rules.specs.declared.Counts.{Counts}
use Rattle.rules.specs.declared.TaskRecord.{TaskRecord}
use Rattle.rules.specs.declared.State.{State}
use Rattle.rules.proofs.Laws.{sure, below, true_false, if_cases, some_of}
use Rattle.rules.proofs.Limits.{accepted_within_limits}
use Rattle.rules.proofs.MayRun.{runner_may}
use Rattle.rules.proofs.Tick.{released_cases, advanced_cases, spent_cases, released_at, past_at, spent_at}
use Rattle.rules.proofs.Fields.{CountsFit, Within, set_within, blank_counts}
use Rattle.rules.proofs.Possible.{JobFits, PresentFits, LastFits, Single, Possible, possible_parts, parts_possible}
use Rattle.rules.proofs.Steps.{next_run_lem, goes_on_well, begins_well, comes_well, advanced_carries}

-- no job fits at any tick,
blank_job : (t : ℕ) (task : Task) → JobFits t task no_job
blank_job t task = record { rests = λ e. refl; release = λ e. true_false false e refl; stands = λ e. true_false false e refl }

-- and holds nothing
blank_holds : (task : Task) (s : ℕ) → carries task no_job s ≡ true → ⊥
unfolding carries
blank_holds task s e = true_false false e refl

-- THE LAW: the start record is possible
pub start_possible : StartPossible
unfolding record_at holds
start_possible bytes sheet e =
    let at : (i : ℕ) → i < 16 → record_at start.tasks i ≡ blank = λ i l. get_or-replicate 16 i blank blank l in
    parts_possible sheet start (record {
      time = omega arith;
      switches = omega arith;
      last = inr refl;
      counts = λ i l. subst (λ (r : TaskRecord). CountsFit 0 r.counts) (sym (at i l)) (blank_counts 0);
      present = λ i l. subst (PresentFits 0) (sym (at i l)) (omega arith, omega arith);
      job = λ i l. subst (λ (r : TaskRecord). JobFits 0 (task_at sheet i) r.job) (sym (at i l)) (blank_job 0 (task_at sheet i));
      past = λ i l h. at i l;
      single = λ i j s li lj ls hi hj. absurd (blank_holds (task_at sheet i) s (subst (λ (r : TaskRecord). carries (task_at sheet i) r.job s ≡ true) (at i li) hi));
    })

-- rule 1 raises releases and misses; the rest of a tick raises the others
abbrev at_release : Count → Bool
at_release = elim [ Releases ↦ true | Completions ↦ false | Misses ↦ true | TicksRun ↦ false | TicksBlocked ↦ false | WorstResponse ↦ false | MostBlocked ↦ false ]

-- so after the releases those two may have risen, and at the end of the tick all
abbrev pub Rising : (t : ℕ) → Counts → Type 0
Rising t c = Within (λ k. if at_release k then t + 1 else t) c

rising : (t : ℕ) (c : Counts) → CountsFit t c → Rising t c
rising t c f k = if_cases (λ (x : ℕ). count k c ≤ x) (at_release k) (t + 1) t (λ e. omega (arith, f k)) (λ e. f k)

pub risen : (t : ℕ) (c : Counts) → Rising t c → CountsFit (t + 1) c
risen t c f k = if_cases (λ (x : ℕ). count k c ≤ x → count k c ≤ t + 1) (at_release k) (t + 1) t (λ e l. l) (λ e l. omega arith) (f k)

-- at a release
one_more : (limit : Count → ℕ) (c : Counts) (k : Count) → Within limit c → count k c + 1 ≤ limit k → Within limit (up k c)
one_more limit c k f l = set_within limit c k (count k c + 1) f l

counts_released : (t : ℕ) (task : Task) (r : TaskRecord) → CountsFit t r.counts → Rising t (released t task r).counts
counts_released t task r f =
    let limit : Count → ℕ = λ k. if at_release k then t + 1 else t in
    let c = r.counts in
    let once = one_more limit c Releases (rising t c f) (omega (arith, f Releases)) in
    released_cases (λ x. Rising t x.counts) t task r
    (λ e. rising t c f)
    (λ e p. one_more limit (up Releases c) Misses once (omega (arith, f Misses)))
    (λ e p. once)

-- then the runner's,
counts_advanced : (t : ℕ) (task : Task) (r : TaskRecord) → Rising t r.counts → CountsFit (t + 1) (up TicksRun (advanced t task r).counts)
counts_advanced t task r f =
    let limit : Count → ℕ = λ k. t + 1 in
    let c = r.counts in
    let on = risen t c f in
    let ran : (c' : Counts) → c'.ran ≡ c.ran → CountsFit (t + 1) c' → CountsFit (t + 1) (up TicksRun c') =
    λ c' e g. one_more limit c' TicksRun g (omega (arith, e, f TicksRun)) in
    let done = one_more limit c Completions on (omega (arith, f Completions)) in
    advanced_cases (λ x. CountsFit (t + 1) (up TicksRun x.counts)) t task r
    (λ l. ran c refl on)
    (λ l h. ran c refl on)
    (λ l h. ran (completed (t + 1 - r.job.release) c) refl
    (set_within limit (up Completions c) WorstResponse (max c.worst (t + 1 - r.job.release)) done (omega (arith, f WorstResponse))))

-- and those of every rank
counts_spent : (x : Runner) (t i : ℕ) (task : Task) (r : TaskRecord) → Rising t r.counts → PresentFits t r → CountsFit (t + 1) (spent x t i task r).counts
counts_spent x t i task r f g =
    let limit : Count → ℕ = λ k. t + 1 in
    let c = r.counts in
    let longer = one_more limit c TicksBlocked (risen t c f) (omega (arith, f TicksBlocked)) in
    spent_cases (λ y. CountsFit (t + 1) y.counts) x t i task r
    (λ e. counts_advanced t task r f)
    (λ k e l p. set_within limit (up TicksBlocked c) MostBlocked (max c.most (r.job.present + 1)) longer (omega (arith, f MostBlocked, g.0)))
    (λ e p. risen t c f)

-- the blocked ticks of the present job: a job starts with none and ends with none, and one that is blocked raises the most with
-- them
present_released : (t : ℕ) (task : Task) (r : TaskRecord) → PresentFits t r → PresentFits t (released t task r)
present_released t task r g = released_cases (PresentFits t) t task r (λ e. g) (λ e p. g) (λ e p. (omega arith, omega arith))

present_spent : (x : Runner) (t i : ℕ) (task : Task) (r : TaskRecord) → PresentFits t r → PresentFits (t + 1) (spent x t i task r)
present_spent x t i task r g =
    let on : PresentFits (t + 1) r = (omega (arith, g.0), g.1) in
    spent_cases (PresentFits (t + 1)) x t i task r
    (λ e. advanced_cases (λ y. (y.job.present ≤ t + 1) × (y.job.present ≤ y.counts.most)) t task r
    (λ l. on) (λ l h. on) (λ l h. (omega arith, omega arith)))
    (λ k e l p. (omega (arith, g.0), omega (arith, g.1)))
    (λ e p. on)

-- jobs: one that waits, one that starts, and the runner
job_waits : (t : ℕ) (task : Task) (j : Job) → JobFits t task j → JobFits (t + 1) task j
job_waits t task j f = record { rests = f.rests; release = λ p. omega (arith, f.release p); stands = f.stands }

job_blocked : (t : ℕ) (task : Task) (j : Job) → j.pending ≡ true → JobFits t task j → JobFits t task (held_up j)
unfolding ahead
job_blocked t task j p f = record { rests = λ q. true_false true refl q; release = λ q. f.release p; stands = λ q. f.stands p }

-- after the releases: a job that starts stands at a run or a lock, released at t
job_released : (m t : ℕ) (task : Task) (r : TaskRecord) → TaskLimits m task → JobFits t task r.job → JobFits (t + 1) task (released t task r).job
unfolding ahead
job_released m t task r τ f = released_cases (λ x. JobFits (t + 1) task x.job) t task r
    (λ e. job_waits t task r.job f)
    (λ e p. job_waits t task r.job f)
    (λ e p. record { rests = λ q. true_false true refl q; release = λ q. omega arith; stands = λ q. begins_well m task τ })

-- the runner stands at its run, at its next step, or has completed
job_advanced : (m t : ℕ) (task : Task) (r : TaskRecord) → TaskLimits m task → r.job.pending ≡ true → JobFits (t + 1) task r.job
    → JobFits (t + 1) task (advanced t task r).job
unfolding ahead
job_advanced m t task r τ p f =
    let ν = next_run_lem m task r.job τ (f.stands p) in
    advanced_cases (λ x. JobFits (t + 1) task x.job) t task r
    (λ l. record { rests = λ q. true_false true refl q; release = λ q. f.release p; stands = λ q. goes_on_well task r.job ν l })
    (λ l h. record { rests = λ q. true_false true refl q; release = λ q. f.release p; stands = λ q. comes_well m task r.job τ h })
    (λ l h. blank_job (t + 1) task)

-- a job that is blocked holds what it held,
pub blocked_carries : (task : Task) (j : Job) (s : ℕ) → j.pending ≡ true → carries task (held_up j) s ≡ carries task j s
unfolding carries behind
blocked_carries task j s p = ap (λ (b : Bool). b && among s (held (behind task j))) (sym p)

-- and a release leaves what a job holds: one that starts holds nothing
released_carries : (t : ℕ) (task : Task) (r : TaskRecord) (s : ℕ) → carries task (released t task r).job s ≡ carries task r.job s
unfolding carries behind held held_on_top among any
released_carries t task r s = released_cases (λ x. carries task x.job s ≡ carries task r.job s) t task r
    (λ e. refl)
    (λ e p. refl)
    (λ e p. rw p refl)

-- a tick of a possible state, rank by rank
module _ (bytes : List ℕ) (sheet : Sheet) (e : read_sheet bytes ≡ read sheet) (st : State) (π : Possible sheet st) where
  -- the sheet's tasks, and the records after the releases
  abbrev n : ℕ
  n = length sheet.tasks

  abbrev rs : List TaskRecord
  rs = after_releases sheet st

  -- after the releases
  each_released : (P : TaskRecord → Type 0) (i : ℕ) → i < 16
      → (i < n → P (released st.t (task_at sheet i) (record_at st.tasks i))) → (n ≤ i → P (record_at st.tasks i)) → P (record_at rs i)
  each_released P i l inside past = ⊎_elim
      (λ (u : i < n). subst P (sym (released_at sheet st i l u)) (inside u))
      (λ (u : n ≤ i). subst P (sym (past_at sheet st i l u)) (past u))
      (below i n)

  -- counts,
  pub released_rising : (i : ℕ) → i < 16 → Rising st.t (record_at rs i).counts
  released_rising i l = each_released (λ r. Rising st.t r.counts) i l
      (λ u. counts_released st.t (task_at sheet i) (record_at st.tasks i) (π.counts i l))
      (λ u. rising st.t (record_at st.tasks i).counts (π.counts i l))

  pub released_present : (i : ℕ) → i < 16 → PresentFits st.t (record_at rs i)
  released_present i l = each_released (PresentFits st.t) i l
      (λ u. present_released st.t (task_at sheet i) (record_at st.tasks i) (π.present i l))
      (λ u. π.present i l)

  -- jobs,
  pub released_fits : (i : ℕ) → i < 16 → JobFits (st.t + 1) (task_at sheet i) (record_at rs i).job
  released_fits i l = each_released (λ r. JobFits (st.t + 1) (task_at sheet i) r.job) i l
      (λ u. job_released sheet.semaphores st.t (task_at sheet i) (record_at st.tasks i) ((accepted_within_limits bytes sheet e).each i u) (π.job i l))
      (λ u. job_waits st.t (task_at sheet i) (record_at st.tasks i).job (π.job i l))

  -- what they hold,
  pub holds_released : (i s : ℕ) → i < 16 → holds sheet rs i s ≡ holds sheet st.tasks i s
  unfolding holds
  holds_released i s l = each_released (λ r. carries (task_at sheet i) r.job s ≡ carries (task_at sheet i) (record_at st.tasks i).job s) i l
      (λ u. released_carries st.t (task_at sheet i) (record_at st.tasks i) s)
      (λ u. refl)

  pub released_single : Single (holds sheet rs)
  released_single i j s li lj ls p q = π.single i j s li lj ls (sym (holds_released i s li) ∙ p) (sym (holds_released j s lj) ∙ q)

  -- and the records at n and above
  pub released_past : (i : ℕ) → i < 16 → n ≤ i → record_at rs i ≡ blank
  released_past i l h = past_at sheet st i l h ∙ π.past i l h

  -- the runner that the choice gives,
  pub may_run : (i : ℕ) → runner sheet rs ≡ Rank i → MayRun sheet rs i
  may_run i z = runner_may sheet rs i z (λ k l u. ap (λ (r : TaskRecord). r.job.pending) (released_past k l u))

  -- and what the tick does with any that may run
  module _ (x : Runner) (may : (i : ℕ) → x ≡ Rank i → MayRun sheet rs i) where
    abbrev next : List TaskRecord
    next = after_runner x sheet st.t rs

    -- it is one of sixteen
    pub runner_rank : (i : ℕ) → x ≡ Rank i → i < 16
    runner_rank i z = omega (arith, (may i z).rank, (accepted_within_limits bytes sheet e).tasks_to)

    -- after the runner
    next_fits : (i : ℕ) → i < 16 → JobFits (st.t + 1) (task_at sheet i) (record_at next i).job
    next_fits i l = subst (λ (r : TaskRecord). JobFits (st.t + 1) (task_at sheet i) r.job) (sym (spent_at x sheet st.t rs i l))
        (spent_cases (λ r. JobFits (st.t + 1) (task_at sheet i) r.job) x st.t i (task_at sheet i) (record_at rs i)
        (λ z. job_advanced sheet.semaphores st.t (task_at sheet i) (record_at rs i) ((accepted_within_limits bytes sheet e).each i (may i z).rank) (may i z).pending (released_fits i l))
        (λ k z u p. job_blocked (st.t + 1) (task_at sheet i) (record_at rs i).job p (released_fits i l))
        (λ z p. released_fits i l))

    -- the records at n and above: none of them runs, and none is blocked
    next_past : (i : ℕ) → i < 16 → n ≤ i → record_at next i ≡ blank
    next_past i l h = spent_at x sheet st.t rs i l ∙ spent_cases (λ r. r ≡ blank) x st.t i (task_at sheet i) (record_at rs i)
        (λ z. absurd (omega (arith, (may i z).rank)))
        (λ k z u p. absurd (omega (arith, (may k z).rank)))
        (λ z p. released_past i l h)

    -- a job holds what it held, or it is the runner and took it
    abbrev HeldOrTook : (i s : ℕ) → Type 0
    HeldOrTook i s = (holds sheet rs i s ≡ true) ⊎ ((x ≡ Rank i) × (takes (task_at sheet i) (record_at rs i).job s ≡ true))

    held_or_took : (i s : ℕ) → i < 16 → holds sheet next i s ≡ true → HeldOrTook i s
    unfolding holds
    held_or_took i s l h = spent_cases (λ r. carries (task_at sheet i) r.job s ≡ true → HeldOrTook i s) x st.t i (task_at sheet i) (record_at rs i)
        (λ z c. ⊎_elim inl (λ v. inr (z, v)) (advanced_carries st.t (task_at sheet i) (record_at rs i) s (may i z).pending c))
        (λ k z u p c. inl (sym (blocked_carries (task_at sheet i) (record_at rs i).job s p) ∙ c))
        (λ z p c. inl c)
        (subst (λ (r : TaskRecord). carries (task_at sheet i) r.job s ≡ true) (spent_at x sheet st.t rs i l) h)

    -- so no semaphore is held by two: what the runner took no other holds
    took_alone : (i k s : ℕ) → k < 16 → s < 16 → x ≡ Rank i → takes (task_at sheet i) (record_at rs i).job s ≡ true → holds sheet rs k s ≡ true → k ≡ i
    unfolding held_by_other
    took_alone i k s lk ls z t h = ⊎_elim
        (λ u. eqb-true k i u)
        (λ u. true_false (held_by_other sheet rs i s) (some_of 16 _ k lk (rw u h)) ((may i z).alone s ls t))
        (sure (k =? i))

    pub next_single : Single (holds sheet next)
    next_single i j s li lj ls hi hj = go (held_or_took i s li hi) (held_or_took j s lj hj)
      where
        go : HeldOrTook i s → HeldOrTook j s → i ≡ j
        go (inl a) (inl b) = released_single i j s li lj ls a b
        go (inl a) (inr b) = took_alone j i s li ls b.0 b.1 a
        go (inr a) (inl b) = sym (took_alone i j s lj ls a.0 a.1 b)
        go (inr a) (inr b) = let z : Rank i ≡ Rank j = sym a.0 ∙ b.0 in cc

    -- the job that ran last: the runner was released by this tick, and nobody else takes its place
    last_waits : LastFits n st.t st.last → LastFits n (st.t + 1) st.last
    last_waits (inl (r, l)) = inl (r, omega arith)
    last_waits (inr z) = inr z

    ran_fits : (y : Runner) → ((k : ℕ) → y ≡ Rank k → MayRun sheet rs k) → LastFits n (st.t + 1) (ran_last y rs st.last)
    unfolding ran_last
    ran_fits (Rank k) h =
        let μ = h k refl in
        inl (μ.rank, (released_fits k (omega (arith, μ.rank, (accepted_within_limits bytes sheet e).tasks_to))).release μ.pending)
    ran_fits Stuck h = last_waits π.last
    ran_fits Idle h = last_waits π.last

    -- at most one switch a tick
    switches_rise : (b : Bool) → (if b then st.switches else st.switches + 1) ≤ st.t + 1
    switches_rise true = omega (arith, π.switches)
    switches_rise false = omega (arith, π.switches)

    -- all parts together
    pub ticked_possible : st.t < 60000 → Possible sheet (closed st (ran_last x rs st.last) next)
    unfolding closed
    ticked_possible early = record {
      time = omega arith;
      switches = switches_rise (same_job (ran_last x rs st.last) st.last);
      last = ran_fits x may;
      counts = λ i l. subst (λ (r : TaskRecord). CountsFit (st.t + 1) r.counts) (sym (spent_at x sheet st.t rs i l)) (counts_spent x st.t i (task_at sheet i) (record_at rs i) (released_rising i l) (released_present i l));
      present = λ i l. subst (PresentFits (st.t + 1)) (sym (spent_at x sheet st.t rs i l)) (present_spent x st.t i (task_at sheet i) (record_at rs i) (released_present i l));
      job = next_fits;
      past = next_past;
      single = next_single;
    }

  -- of the tick itself
  pub tick_parts : st.t < 60000 → Possible sheet (tick sheet st)
  unfolding tick runner_of
  tick_parts early = ticked_possible (runner sheet rs) may_run early

-- THE LAW: the choice gives a runner that may run
pub runner_may_run : RunnerMayRun
unfolding runner_of
runner_may_run bytes sheet e st p = may_run bytes sheet e st (possible_parts sheet st p)

-- THE LAW: a tick of a possible state below tick 60,000 gives a possible state
pub tick_possible : TickPossible
tick_possible bytes sheet e st p early = parts_possible sheet (tick sheet st) (tick_parts bytes sheet e st (possible_parts sheet st p) early)

-- so a run that ends by tick 60,000 keeps it so, and each tick of it counts one
pub after_time : (h : ℕ) (sheet : Sheet) (st : State) → (after h sheet st).t ≡ st.t + h
unfolding after tick closed
after_time zero sheet st = omega arith
after_time (suc h) sheet st = omega (arith, after_time h sheet st)

-- the record after it is possible
pub after_possible : (bytes : List ℕ) (sheet : Sheet) → read_sheet bytes ≡ read sheet
    → (h : ℕ) (st : State) → possible sheet st ≡ true → st.t + h ≤ 60000 → possible sheet (after h sheet st) ≡ true
unfolding after
after_possible bytes sheet e zero st p l = p
after_possible bytes sheet e (suc h) st p l =
    tick_possible bytes sheet e (after h sheet st) (after_possible bytes sheet e h st p (omega arith)) (omega (arith, after_time h sheet st))
