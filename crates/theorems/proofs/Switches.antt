-- A job that has run was switched to, and no switch is to two jobs.
use Prim.Native.Nat.{ℕ, zero, suc, ◌+◌, ◌≤◌, ◌<◌}
use mathlib.Core.Path.{◌≡◌, refl, sym, ap, ◌∙◌, subst}
use mathlib.Core.Logic.{◌⊎◌, inl, inr, ⊎_elim}
use mathlib.Core.List.{List, [], ◌∷◌}
use mathlib.Core.Bool.{Bool, true, false}
use native.Mathlib.Omega.{arith}
use lib.ListN.{length}
use Rattle.std.specs.Prelude.{if◌then◌else◌}
use Rattle.rules.specs.Sheet.{Sheet, run}
use Rattle.rules.specs.Fields.{none_yet, same_job, start}
use Rattle.rules.specs.declared.Runner.{Runner}
use Rattle.rules.specs.declared.Runner.TheVariants.{Rank, Stuck, Idle}
use Rattle.rules.specs.Tick.{after_releases, job_of, ran_last, closed, runner_of, tick}
use Rattle.rules.specs.Run.{after}
use Rattle.rules.specs.Laws.{All}
use Rattle.rules.specs.declared.State.{State}
use Rattle.rules.specs.declared.LastJob.{LastJob}
use Rattle.rules.proofs.Laws.{sure, below, true_false, if_cases}
use Rattle.rules.proofs.Open.{rules}
use Rattle.rules.proofs.Possible.{same_job_lem, job_same}
use Rattle.rules.proofs.MayRun.{runner_below}
use Rattle.theorems.specs.Switches.{AtMostOne, PassedOver, Runs, HasRun, Different, AsManyAsJobs, NoMoreInD, SwitchesTell}

-- one tick: what it counts, and the job that it remembers
module _ (sheet : Sheet) (st : State) where
  abbrev ran : LastJob
  ran = ran_last (runner_of sheet st) (after_releases sheet st) st.last

  remembers : (tick sheet st).last ≡ ran
  unfolding tick closed
  remembers = refl

  counts : (tick sheet st).switches ≡ (if same_job ran st.last then st.switches else st.switches + 1)
  unfolding tick closed
  counts = refl

  same_counts_none : same_job ran st.last ≡ true → (tick sheet st).switches ≡ st.switches
  same_counts_none e = counts ∙ ap (λ (b : Bool). if b then st.switches else st.switches + 1) e

  other_counts_one : same_job ran st.last ≡ false → (tick sheet st).switches ≡ st.switches + 1
  other_counts_one e = counts ∙ ap (λ (b : Bool). if b then st.switches else st.switches + 1) e

  -- where nobody runs it is the one before
  stays : (runner_of sheet st ≡ Stuck) ⊎ (runner_of sheet st ≡ Idle) → ran ≡ st.last
  unfolding ran_last
  stays (inl e) = ap (λ (x : Runner). ran_last x (after_releases sheet st) st.last) e
  stays (inr e) = ap (λ (x : Runner). ran_last x (after_releases sheet st) st.last) e

  -- a job that runs is the one remembered
  runs_last : (j : LastJob) → Runs sheet st j → ran ≡ j
  unfolding ran_last
  runs_last j ρ = ap (λ (x : Runner). ran_last x (after_releases sheet st) st.last) ρ.runner ∙ ρ.named

  -- somebody runs, or nobody does
  who : ((j : LastJob) × Runs sheet st j) ⊎ ((runner_of sheet st ≡ Stuck) ⊎ (runner_of sheet st ≡ Idle))
  who = go (runner_of sheet st) refl
    where
      go : (x : Runner) → runner_of sheet st ≡ x → ((j : LastJob) × Runs sheet st j) ⊎ ((runner_of sheet st ≡ Stuck) ⊎ (runner_of sheet st ≡ Idle))
      go (Rank i) e = inl (job_of (after_releases sheet st) i, record { rank = i; runner = e; named = refl })
      go Stuck e = inr (inl e)
      go Idle e = inr (inr e)

  -- a rank is no 255
  not_none : Runs sheet st none_yet → ⊥
  unfolding runner_of
  not_none ρ = omega (arith, ap (λ (j : LastJob). j.rank) ρ.named, runner_below sheet (after_releases sheet st) ρ.rank ρ.runner)

at_most_one : AtMostOne
at_most_one sheet st = ⊎_elim
    (λ e. omega (arith, same_counts_none sheet st e))
    (λ e. omega (arith, other_counts_one sheet st e))
    (sure (same_job (ran sheet st) st.last))

passed_over : PassedOver
passed_over sheet st nobody =
    let same = stays sheet st nobody in
    (same_counts_none sheet st (ap (λ (j : LastJob). same_job j st.last) same ∙ job_same st.last), remembers sheet st ∙ same)

-- a job that has run in the first ticks and one more: in the first ones, or in the last
later : (h : ℕ) (sheet : Sheet) (j : LastJob) → HasRun h sheet j → HasRun (suc h) sheet j
later h sheet j ρ = record { time = ρ.time; early = omega (arith, ρ.early); there = ρ.there }

now_or_before : (h : ℕ) (sheet : Sheet) (j : LastJob) → HasRun (suc h) sheet j → Runs sheet (after h sheet start) j ⊎ HasRun h sheet j
now_or_before h sheet j ρ = ⊎_elim
    (λ (l : ρ.time < h). inr (record { time = ρ.time; early = l; there = ρ.there }))
    (λ (l : h ≤ ρ.time). let z : ρ.time ≡ h = omega (arith, ρ.early) in inl (subst (λ (t : ℕ). Runs sheet (after t sheet start) j) z ρ.there))
    (below ρ.time h)

-- the remembered job has run, unless none has
last_has_run : (h : ℕ) (sheet : Sheet) → ((after h sheet start).last ≡ none_yet) ⊎ HasRun h sheet (after h sheet start).last
unfolding after
last_has_run zero sheet = inl refl
last_has_run (suc h) sheet =
    let st = after h sheet start in
    ⊎_elim
    (λ (w : (j : LastJob) × Runs sheet st j).
    let z = sym (remembers sheet st ∙ runs_last sheet st w.0 w.1) in
    inr (subst (HasRun (suc h) sheet) z (record { time = h; early = omega arith; there = w.1 })))
    (λ nobody.
    let z = sym (remembers sheet st ∙ stays sheet st nobody) in
    ⊎_elim
    (λ (u : st.last ≡ none_yet). inl (sym z ∙ u))
    (λ (u : HasRun h sheet st.last). inr (subst (HasRun (suc h) sheet) z (later h sheet st.last u)))
    (last_has_run h sheet))
    (who sheet st)

-- what holds of each in a row
all_to : {A : Type 0} (P Q : A → Type 0) → ((x : A) → P x → Q x) → (xs : List A) → All P xs → All Q xs
all_to P Q f [] h = tt
all_to P Q f (x ∷ xs) h = (f x h.0, all_to P Q f xs h.1)

-- a row without a job
module _ (k : LastJob) where
  unfoldable others : List LastJob → List LastJob
  others [] = []
  others (j ∷ js) = let rest = others js in if same_job j k then rest else j ∷ rest

  others_all : (P : LastJob → Type 0) (js : List LastJob) → All P js → All P (others js)
  unfolding others
  others_all P [] h = tt
  others_all P (j ∷ js) h = if_cases (All P) (same_job j k) _ _ (λ e. others_all P js h.1) (λ e. (h.0, others_all P js h.1))

  others_different : (js : List LastJob) → Different js → Different (others js)
  unfolding others
  others_different [] d = tt
  others_different (j ∷ js) d = if_cases Different (same_job j k) _ _
      (λ e. others_different js d.1)
      (λ e. (others_all (λ x. x ≡ j → ⊥) js d.0, others_different js d.1))

  -- what holds of every job but that one holds of each that is left
  others_hold : (P Q : LastJob → Type 0) → ((j : LastJob) → Q j → (j ≡ k) ⊎ P j) → (js : List LastJob) → All Q js → All P (others js)
  unfolding others
  others_hold P Q f [] h = tt
  others_hold P Q f (j ∷ js) h = if_cases (All P) (same_job j k) _ _
      (λ e. others_hold P Q f js h.1)
      (λ e. (⊎_elim (λ z. true_false (same_job j k) (ap (λ (x : LastJob). same_job x k) z ∙ job_same k) e) (λ p. p) (f j h.0), others_hold P Q f js h.1))

  -- and where it stood in the row once at most, one has gone at most
  others_same : (js : List LastJob) → All (λ x. x ≡ k → ⊥) js → others js ≡ js
  unfolding others
  others_same [] h = refl
  others_same (j ∷ js) h = if_cases (λ (r : List LastJob). r ≡ j ∷ js) (same_job j k) _ _
      (λ e. absurd (h.0 (same_job_lem j k e)))
      (λ e. ap (λ (r : List LastJob). j ∷ r) (others_same js h.1))

  others_length : (js : List LastJob) → Different js → length js ≤ length (others js) + 1
  unfolding others
  others_length [] d = omega arith
  others_length (j ∷ js) d = if_cases (λ (r : List LastJob). suc (length js) ≤ length r + 1) (same_job j k) _ _
      (λ e. omega (arith, ap length (others_same js (subst (λ (x : LastJob). All (λ y. y ≡ x → ⊥) js) (same_job_lem j k e) d.0))))
      (λ e. omega (arith, others_length js d.1))

-- where the job of a tick is the one that ran last, it has run before
ran_before : (h : ℕ) (sheet : Sheet) (j : LastJob) → Runs sheet (after h sheet start) j
    → same_job (ran sheet (after h sheet start)) (after h sheet start).last ≡ true → HasRun h sheet j
ran_before h sheet j ρ e =
    let st = after h sheet start in
    let z = sym (same_job_lem (ran sheet st) st.last e) ∙ runs_last sheet st j ρ in
    ⊎_elim
    (λ (u : st.last ≡ none_yet). absurd (not_none sheet st (subst (Runs sheet st) (sym z ∙ u) ρ)))
    (λ (u : HasRun h sheet st.last). subst (HasRun h sheet) z u)
    (last_has_run h sheet)

-- THE LAW, tick by tick: every job has run before, or one has not and a switch is counted
as_many_as_jobs : AsManyAsJobs
unfolding after
as_many_as_jobs zero sheet [] d a = omega arith
as_many_as_jobs zero sheet (j ∷ js) d a = absurd (omega (arith, a.0.early))
as_many_as_jobs (suc h) sheet js d a =
    let st = after h sheet start in
    let k = ran sheet st in
    ⊎_elim
    (λ (e : same_job k st.last ≡ true).
    let old = all_to (HasRun (suc h) sheet) (HasRun h sheet)
    (λ j ρ. ⊎_elim (λ r. ran_before h sheet j r e) (λ u. u) (now_or_before h sheet j ρ)) js a in
    omega (arith, same_counts_none sheet st e, as_many_as_jobs h sheet js d old))
    (λ (e : same_job k st.last ≡ false).
    let old = others_hold k (HasRun h sheet) (HasRun (suc h) sheet)
    (λ j ρ. ⊎_elim (λ r. inl (sym (runs_last sheet st j r))) inr (now_or_before h sheet j ρ)) js a in
    omega (arith, other_counts_one sheet st e, others_length k js d, as_many_as_jobs h sheet (others k js) (others_different k js d) old))
    (sure (same_job k st.last))

-- by computation of D
abbrev sheetD : Sheet
sheetD = record { mode = 0; semaphores = 0; tasks = record { period = 2; offset = 0; steps = run 3 ∷ [] } ∷ [] }

no_more_inD : NoMoreInD sheetD
unfolding rules
no_more_inD = record {
  accepted = refl;
  different = ((λ z. let four : ◌≡◌ {A = ℕ} 4 0 = ap (λ (j : LastJob). j.release) z in omega arith, tt), (tt, tt));
  have_run = (
    record { time = 0; early = omega arith; there = record { rank = 0; runner = refl; named = refl } },
    (record { time = 4; early = omega arith; there = record { rank = 0; runner = refl; named = refl } }, tt),
  );
  switches = refl;
}

pub switches_tell : SwitchesTell
switches_tell = record { at_most_one = at_most_one; passed_over = passed_over; as_many_as_jobs = as_many_as_jobs; tight = (sheetD, no_more_inD) }
