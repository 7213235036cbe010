-- The total is at most the most times the jobs that have ended, and the present job's ticks on top.
use Prim.Native.Nat.{ℕ, zero, suc, ◌+◌, ◌*◌, ◌≤◌, ◌<◌, max}
use mathlib.Core.Path.{◌≡◌, refl, sym, ap, ◌∙◌, subst}
use mathlib.Core.Logic.{⊎_elim}
use mathlib.Core.List.{List}
use mathlib.Core.Bool.{true, false}
use native.Mathlib.Omega.{arith}
use native.Mathlib.Nat.{mul-le-mul_right, mul-suc}
use lib.ListN.{length, get_or-replicate}
use Rattle.rules.specs.Sheet.{Task, Sheet, task_at}
use Rattle.rules.specs.Fields.{blank, start}
use Rattle.rules.specs.Record.{record_at}
use Rattle.rules.specs.Choice.{runner}
use Rattle.rules.specs.declared.Runner.{Runner}
use Rattle.rules.specs.declared.Runner.TheVariants.{Rank}
use Rattle.rules.specs.Tick.{released, after_releases, advanced, spent, closed, runner_of, tick}
use Rattle.rules.specs.Run.{after}
use Rattle.rules.specs.declared.Counts.{Counts}
use Rattle.rules.specs.declared.TaskRecord.{TaskRecord}
use Rattle.rules.specs.declared.State.{State}
use Rattle.rules.proofs.Laws.{below, true_false, sure}
use Rattle.rules.proofs.Open.{rules}
use Rattle.rules.proofs.Tick.{released_cases, advanced_cases, spent_cases, released_at, past_at, spent_at}
use Rattle.rules.proofs.Walk.{runner_runs}
use Rattle.theorems.specs.Blocked.{MostAndTotals, BothInA, BlockedTells}
use Rattle.theorems.proofs.Needed.{sheetA, readsA}

-- so many releases before the present job's own
record Before (releases blocked most present : ℕ) : Type 0 where
  jobs : ℕ
  all : releases ≡ suc jobs
  total : blocked ≤ most * jobs + present

record Tallied (r : TaskRecord) : Type 0 where
  most : r.counts.most ≤ r.counts.blocked
  present : r.job.present ≤ r.counts.most
  rests : r.job.pending ≡ false → r.counts.blocked ≤ r.counts.most * r.counts.releases
  waits : r.job.pending ≡ true → Before r.counts.releases r.counts.blocked r.counts.most r.job.present

blank_tallied : Tallied blank
blank_tallied = record { most = omega arith; present = omega arith; rests = λ e. omega arith; waits = λ e. true_false false e refl }

-- what the jobs before it had, and its own, is at most the most for each release
ends : (c : Counts) (present : ℕ) → present ≤ c.most → Before c.releases c.blocked c.most present → c.blocked ≤ c.most * c.releases
ends c present l β = omega (arith, β.total, ap (λ (n : ℕ). c.most * n) β.all ∙ mul-suc c.most β.jobs)

-- 1. a release that is dropped, and one that starts a job
released_tallied : (t : ℕ) (task : Task) (r : TaskRecord) → Tallied r → Tallied (released t task r)
released_tallied t task r τ =
    let c = r.counts in
    released_cases Tallied t task r
    (λ e. τ)
    (λ e p. record {
      most = τ.most;
      present = τ.present;
      rests = λ q. true_false r.job.pending p q;
      waits = λ q. let β = τ.waits p in
          record { jobs = suc β.jobs; all = omega (arith, β.all); total = omega (arith, β.total, mul-suc c.most β.jobs) };
    })
    (λ e p. record {
      most = τ.most;
      present = omega arith;
      rests = λ q. true_false true refl q;
      waits = λ q. record { jobs = c.releases; all = omega arith; total = omega (arith, τ.rests p) };
    })

-- 5. the runner goes on, or completes
advanced_tallied : (t : ℕ) (task : Task) (r : TaskRecord) → r.job.pending ≡ true → Tallied r → Tallied (advanced t task r)
advanced_tallied t task r p τ =
    advanced_cases Tallied t task r
    (λ l. record { most = τ.most; present = τ.present; rests = λ q. true_false true refl q; waits = λ q. τ.waits p })
    (λ l h. record { most = τ.most; present = τ.present; rests = λ q. true_false true refl q; waits = λ q. τ.waits p })
    (λ l h. record {
      most = τ.most;
      present = omega arith;
      rests = λ q. ends r.counts r.job.present τ.present (τ.waits p);
      waits = λ q. true_false false q refl;
    })

-- 6. a job that is blocked raises the total, its own count, and the most with it
spent_tallied : (x : Runner) (t i : ℕ) (task : Task) (r : TaskRecord) → (x ≡ Rank i → r.job.pending ≡ true) → Tallied r → Tallied (spent x t i task r)
spent_tallied x t i task r may τ =
    let c = r.counts in
    let more = max c.most (r.job.present + 1) in
    spent_cases Tallied x t i task r
    (λ z. let α = advanced_tallied t task r (may z) τ in record { most = α.most; present = α.present; rests = α.rests; waits = α.waits })
    (λ k z l p. let β = τ.waits p in record {
      most = omega (arith, τ.most, τ.present);
      present = omega arith;
      rests = λ q. true_false true refl q;
      waits = λ q. record { jobs = β.jobs; all = β.all; total = omega (arith, β.total, mul-le-mul_right β.jobs (let m : c.most ≤ more = omega arith in m)) };
    })
    (λ z p. τ)

-- a tick, and a run
module _ (sheet : Sheet) (st : State) (τ : (i : ℕ) → i < 16 → Tallied (record_at st.tasks i)) where
  abbrev rs : List TaskRecord
  rs = after_releases sheet st

  mid : (i : ℕ) → i < 16 → Tallied (record_at rs i)
  mid i l = ⊎_elim
      (λ (u : i < length sheet.tasks). subst Tallied (sym (released_at sheet st i l u)) (released_tallied st.t (task_at sheet i) (record_at st.tasks i) (τ i l)))
      (λ (u : length sheet.tasks ≤ i). subst Tallied (sym (past_at sheet st i l u)) (τ i l))
      (below i (length sheet.tasks))

  tick_tallied : (i : ℕ) → i < 16 → Tallied (record_at (tick sheet st).tasks i)
  unfolding tick closed runner_of
  tick_tallied i l = subst Tallied (sym (spent_at (runner sheet rs) sheet st.t rs i l))
      (spent_tallied (runner sheet rs) st.t i (task_at sheet i) (record_at rs i) (λ z. (runner_runs sheet rs i z).pending) (mid i l))

run_tallied : (ticks : ℕ) (sheet : Sheet) (i : ℕ) → i < 16 → Tallied (record_at (after ticks sheet start).tasks i)
unfolding after record_at
run_tallied zero sheet i l = subst Tallied (sym (get_or-replicate 16 i blank blank l)) blank_tallied
run_tallied (suc h) sheet i l = tick_tallied sheet (after h sheet start) (run_tallied h sheet) i l

most_and_totals : MostAndTotals
most_and_totals ticks sheet i l =
    let r = record_at (after ticks sheet start).tasks i in
    let τ = run_tallied ticks sheet i l in
    record {
      most = τ.most;
      total = ⊎_elim (λ p. ends r.counts r.job.present τ.present (τ.waits p)) (λ p. τ.rests p) (sure r.job.pending);
    }

both_inA : BothInA (sheetA 0)
unfolding rules
both_inA = record { accepted = readsA; releases = refl; total = refl; most = refl }

pub blocked_tells : BlockedTells
blocked_tells = record { runs = most_and_totals; tight = (sheetA 0, both_inA) }
