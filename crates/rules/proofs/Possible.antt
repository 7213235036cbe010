-- A possible state, part by part: from the test and back to it.
use Prim.Native.Nat.{ℕ, zero, suc, ◌≤◌, ◌<◌}
use mathlib.Core.Path.{◌≡◌, refl, ap, ap₂}
use mathlib.Core.Logic.{◌⊎◌, inl, inr, ⊎_elim}
use mathlib.Core.List.{List, [], ◌∷◌}
use mathlib.Core.Bool.{Bool, true, false, not, ◌&&◌}
use native.Mathlib.Omega.{arith}
use lib.ListN.{length, get_or, drop}
use borrow.Author.Tests.{ltb-true, leb-true, eqb-true, lt-ltb, le-leb, eq-eqb, not-true}
use Rattle.std.specs.Prelude.{if◌then◌else◌}
use Rattle.rules.specs.Words.{◌<?◌, ◌≤?◌, ◌=?◌, ◌⇒◌, every, all}
use Rattle.rules.specs.Sheet.{Step, Task, Sheet, task_at}
use Rattle.rules.specs.Fields.{no_job, blank, place, counted, zeros, zero_record, none_yet, same_job}
use Rattle.rules.specs.Record.{record_at, ahead, holds, counts_fit, last_fits, stands_well, job_fits, present_fits, record_fits, none_held_by_two, possible}
use Rattle.rules.specs.declared.Job.{Job}
use Rattle.rules.specs.declared.Counts.{Counts}
use Rattle.rules.specs.declared.TaskRecord.{TaskRecord}
use Rattle.rules.specs.declared.LastJob.{LastJob}
use Rattle.rules.specs.declared.State.{State}
use Rattle.rules.proofs.Fields.{CountsFit, counts_fit_lem, fit_counts, no_counts_lem, all_at}
use Rattle.rules.proofs.Laws.{sure, true_false, and_left, and_right, and_both, or_cases, or_right, implied, implies_yes, every_at, every_of}

-- a task not pending has no job, with every number zero; a pending one has a release tick below t, and stands well
pub record JobFits (t : ℕ) (task : Task) (j : Job) : Type 0 where
  pub rests : j.pending ≡ false → j ≡ no_job
  pub release : j.pending ≡ true → j.release < t
  pub stands : j.pending ≡ true → stands_well (ahead task j) j.left ≡ true

-- the blocked ticks of the present job are at most t, and at most the most
abbrev pub PresentFits : (t : ℕ) → TaskRecord → Type 0
PresentFits t r = (r.job.present ≤ t) × (r.job.present ≤ r.counts.most)

-- the remembered job's rank is below n and its release tick below t, or none has run
abbrev pub LastFits : (n t : ℕ) → LastJob → Type 0
LastFits n t j = ((j.rank < n) × (j.release < t)) ⊎ (j ≡ none_yet)

-- no semaphore is held by two
abbrev pub Single : (ℕ → ℕ → Bool) → Type 0
Single has = (i j s : ℕ) → i < 16 → j < 16 → s < 16 → has i s ≡ true → has j s ≡ true → i ≡ j

module _ (sheet : Sheet) (records : List TaskRecord) where
  pub held_by_one : none_held_by_two sheet records ≡ true → Single (holds sheet records)
  unfolding none_held_by_two
  held_by_one e i j s li lj ls hi hj =
      eqb-true i j (implies_yes (holds sheet records i s && holds sheet records j s) (i =? j)
      (every_at 16 _ (every_at 16 _ (every_at 16 _ e s ls) i li) j lj) (and_both _ _ hi hj))

  -- and back
  pub none_by_two : Single (holds sheet records) → none_held_by_two sheet records ≡ true
  unfolding none_held_by_two
  none_by_two single = every_of 16 _ (λ s ls. every_of 16 _ (λ i li. every_of 16 _ (λ j lj.
      let both = holds sheet records i s && holds sheet records j s in
      ⊎_elim
      (λ (u : both ≡ true). implied both (i =? j) (eq-eqb i j (single i j s li lj ls (and_left (holds sheet records i s) _ u) (and_right (holds sheet records i s) _ u))))
      (λ (u : both ≡ false). rw u refl)
      (sure both))))

-- counts and job of each rank fit, records at n and above are zero, no semaphore is held by two
pub record Possible (sheet : Sheet) (st : State) : Type 0 where
  pub time : st.t ≤ 60000
  pub switches : st.switches ≤ st.t
  pub last : LastFits (length sheet.tasks) st.t st.last
  pub counts : (i : ℕ) → i < 16 → CountsFit st.t (record_at st.tasks i).counts
  pub present : (i : ℕ) → i < 16 → PresentFits st.t (record_at st.tasks i)
  pub job : (i : ℕ) → i < 16 → JobFits st.t (task_at sheet i) (record_at st.tasks i).job
  pub past : (i : ℕ) → i < 16 → length sheet.tasks ≤ i → record_at st.tasks i ≡ blank
  pub single : Single (holds sheet st.tasks)

-- a job that is not pending and whose numbers are zero is no job
rests : (j : Job) → j.pending ≡ false → zeros (place j) ≡ true → j ≡ no_job
unfolding zeros place
rests j p e =
    let zero : (i : ℕ) → i < length (place j) → get_or (place j) i 0 ≡ 0 = λ i l. eqb-true (get_or (place j) i 0) 0 (all_at (λ x. x =? 0) (place j) e i l) in
    same j.pending j.position j.left j.release j.present p (zero 0 (omega arith)) (zero 1 (omega arith)) (zero 2 (omega arith)) (zero 3 (omega arith))
  where
    same : (p : Bool) (a b c d : ℕ) → p ≡ false → a ≡ 0 → b ≡ 0 → c ≡ 0 → d ≡ 0 → record { pending = p; position = a; left = b; release = c; present = d } ≡ no_job
    same p a b c d v w x y z = rw (v, w, x, y, z) refl

-- a job
pub job_fits_lem : (t : ℕ) (task : Task) (j : Job) → job_fits t task j ≡ true → JobFits t task j
unfolding job_fits
job_fits_lem t task j e = go j.pending refl e
  where
    go : (b : Bool) → j.pending ≡ b → (if b then j.release <? t && stands_well (ahead task j) j.left else zeros (place j)) ≡ true → JobFits t task j
    go true p e = record {
      rests = λ q. true_false j.pending p q;
      release = λ q. ltb-true j.release t (and_left (j.release <? t) _ e);
      stands = λ q. and_right (j.release <? t) _ e;
    }
    go false p e = record {
      rests = λ q. rests j q e;
      release = λ q. true_false j.pending q p;
      stands = λ q. true_false j.pending q p;
    }

-- the blocked ticks of the present job
present_fits_lem : (t : ℕ) (r : TaskRecord) → present_fits t r ≡ true → PresentFits t r
unfolding present_fits
present_fits_lem t r e =
    let present = r.job.present in
    (leb-true present t (and_left (present ≤? t) _ e), leb-true present r.counts.most (and_right (present ≤? t) _ e))

fit_present : (t : ℕ) (r : TaskRecord) → PresentFits t r → present_fits t r ≡ true
unfolding present_fits
fit_present t r f = and_both _ _ (le-leb _ _ f.0) (le-leb _ _ f.1)

-- a job, back
pub fit_job : (t : ℕ) (task : Task) (j : Job) → JobFits t task j → job_fits t task j ≡ true
unfolding job_fits zeros place all
fit_job t task j f = go j.pending refl
  where
    go : (b : Bool) → j.pending ≡ b → (if b then j.release <? t && stands_well (ahead task j) j.left else zeros (place j)) ≡ true
    go true p = and_both _ _ (lt-ltb _ _ (f.release p)) (f.stands p)
    go false p = ap (λ (k : Job). zeros (place k)) (f.rests p)

-- a zero record is blank
pub is_blank : (r : TaskRecord) → zero_record r ≡ true → r ≡ blank
unfolding zero_record
is_blank r e =
    let jobs = and_left (not r.job.pending && zeros (place r.job)) _ e in
    let job = rests r.job (not-true r.job.pending (and_left (not r.job.pending) _ jobs)) (and_right (not r.job.pending) _ jobs) in
    let counts = no_counts_lem r.counts (and_right (not r.job.pending && zeros (place r.job)) _ e) in
    ap₂ (λ (j : Job) (c : Counts). record { job = j; counts = c }) job counts

-- two jobs are the same where rank and release tick are
pub same_job_lem : (a b : LastJob) → same_job a b ≡ true → a ≡ b
unfolding same_job
same_job_lem a b e =
    ap₂ (λ (rank release : ℕ). record { rank = rank; release = release })
    (eqb-true a.rank b.rank (and_left (a.rank =? b.rank) _ e))
    (eqb-true a.release b.release (and_right (a.rank =? b.rank) _ e))

pub job_same : (a : LastJob) → same_job a a ≡ true
unfolding same_job
job_same a = rw (eq-eqb a.rank a.rank refl, eq-eqb a.release a.release refl) refl

-- the remembered job
last_fits_lem : (n t : ℕ) (j : LastJob) → last_fits n t j ≡ true → LastFits n t j
unfolding last_fits
last_fits_lem n t j e = ⊎_elim
    (λ (u : (j.rank <? n && j.release <? t) ≡ true).
    inl (ltb-true j.rank n (and_left (j.rank <? n) _ u), ltb-true j.release t (and_right (j.rank <? n) _ u)))
    (λ (u : same_job j none_yet ≡ true). inr (same_job_lem j none_yet u))
    (or_cases (j.rank <? n && j.release <? t) (same_job j none_yet) e)

-- the remembered job, back
fit_last : (n t : ℕ) (j : LastJob) → LastFits n t j → last_fits n t j ≡ true
unfolding last_fits same_job
fit_last n t j (inl (r, l)) = rw (lt-ltb j.rank n r, lt-ltb j.release t l) refl
fit_last n t j (inr e) = or_right (j.rank <? n && j.release <? t) (same_job j none_yet) (ap (λ (k : LastJob). same_job k none_yet) e)

-- the whole
module _ (sheet : Sheet) (st : State) where
  -- the test of one rank
  Rank : ℕ → Bool
  Rank i = record_fits sheet st.t i (record_at st.tasks i)

  -- the test tells every part
  pub possible_parts : possible sheet st ≡ true → Possible sheet st
  unfolding possible record_fits Rank
  possible_parts e =
      let n = length sheet.tasks in
      let upTo4 = and_left _ (none_held_by_two sheet st.tasks) e in
      let upTo3 = and_left _ (every 16 Rank) upTo4 in
      let upTo2 = and_left _ (last_fits n st.t st.last) upTo3 in
      let rank = every_at 16 Rank (and_right (st.t ≤? 60000 && st.switches ≤? st.t && last_fits n st.t st.last) _ upTo4) in
      record {
        time = leb-true st.t 60000 (and_left (st.t ≤? 60000) _ upTo2);
        switches = leb-true st.switches st.t (and_right (st.t ≤? 60000) _ upTo2);
        last = last_fits_lem n st.t st.last (and_right (st.t ≤? 60000 && st.switches ≤? st.t) _ upTo3);
        counts = λ i l. let r = record_at st.tasks i in
            counts_fit_lem st.t r.counts (and_left _ (present_fits st.t r) (and_left _ (job_fits st.t (task_at sheet i) r.job) (and_left _ (n ≤? i ⇒ zero_record r) (rank i l))));
        present = λ i l. let r = record_at st.tasks i in
            present_fits_lem st.t r (and_right (counts_fit st.t r.counts) _ (and_left _ (job_fits st.t (task_at sheet i) r.job) (and_left _ (n ≤? i ⇒ zero_record r) (rank i l))));
        job = λ i l. let r = record_at st.tasks i in
            job_fits_lem st.t (task_at sheet i) r.job (and_right (counts_fit st.t r.counts && present_fits st.t r) _ (and_left _ (n ≤? i ⇒ zero_record r) (rank i l)));
        past = λ i l h. let r = record_at st.tasks i in
            is_blank r (implies_yes (n ≤? i) (zero_record r) (and_right (counts_fit st.t r.counts && present_fits st.t r && job_fits st.t (task_at sheet i) r.job) _ (rank i l)) (le-leb n i h));
        single = held_by_one sheet st.tasks (and_right (st.t ≤? 60000 && st.switches ≤? st.t && last_fits n st.t st.last && every 16 Rank) _ e);
      }

  -- and the parts give the test
  pub parts_possible : Possible sheet st → possible sheet st ≡ true
  unfolding possible record_fits Rank zero_record zeros place counted all
  parts_possible f =
      let n = length sheet.tasks in
      let last = fit_last n st.t st.last f.last in
      let rank = every_of 16 Rank (λ i l. let r = record_at st.tasks i in
      and_both (counts_fit st.t r.counts && present_fits st.t r && job_fits st.t (task_at sheet i) r.job) (n ≤? i ⇒ zero_record r)
      (and_both (counts_fit st.t r.counts && present_fits st.t r) _
      (and_both _ _ (fit_counts st.t r.counts (f.counts i l)) (fit_present st.t r (f.present i l)))
      (fit_job st.t (task_at sheet i) r.job (f.job i l)))
      (⊎_elim
      (λ (u : (n ≤? i) ≡ true). implied (n ≤? i) (zero_record r) (ap zero_record (f.past i l (leb-true n i u))))
      (λ (u : (n ≤? i) ≡ false). rw u refl)
      (sure (n ≤? i)))) in
      let single = none_by_two sheet st.tasks f.single in
      rw (le-leb _ _ f.time, le-leb _ _ f.switches, last, rank, single) refl

-- a job that stands well stands inside its steps
pub stands_inside : (k left : ℕ) (steps : List Step) → stands_well (drop k steps) left ≡ true → k < length steps
unfolding stands_well
stands_inside zero left [] e = true_false false e refl
stands_inside (suc k) left [] e = true_false false e refl
stands_inside zero left (x ∷ steps) e = omega arith
stands_inside (suc k) left (x ∷ steps) e = omega (arith, stands_inside k left steps e)
