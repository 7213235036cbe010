-- Two runs whose first k tasks are the same and apart from the others keep the same records below k.
use Prim.Native.Nat.{ℕ, zero, suc, ◌+◌, ◌≤◌, ◌<◌}
use mathlib.Core.Path.{◌≡◌, refl, sym, ap, ap₂, ◌∙◌, subst₂}
use mathlib.Core.Logic.{⊎_elim}
use mathlib.Core.List.{List, [], ◌∷◌}
use mathlib.Core.Bool.{Bool, true, false, not, ◌&&◌}
use native.Mathlib.Omega.{arith}
use lib.ListN.{length, get_or}
use lib.Seq.{get_or-take}
use borrow.Author.Tests.{leb-true, lt-ltb, le-leb, ne_eqb}
use Rattle.std.specs.Prelude.{if◌then◌else◌}
use Rattle.rules.specs.Words.{◌<?◌, ◌≤?◌, ◌=?◌, ◌⇒◌, among}
use Rattle.rules.specs.Sheet.{Task, Sheet, no_task, task_at}
use Rattle.rules.specs.Fields.{blank, start}
use Rattle.rules.specs.Record.{record_at, carries, holds}
use Rattle.rules.specs.Choice.{locks, ceiling, goes, top_job, held_by_other, free_of_ceilings, may_go, in_the_way, next_candidate, walk, runner}
use Rattle.rules.specs.declared.Runner.{Runner}
use Rattle.rules.specs.declared.Runner.TheVariants.{Rank, Stuck, Idle}
use Rattle.rules.specs.Tick.{released, spent, after_releases, after_runner, closed, runner_of, tick}
use Rattle.rules.specs.Run.{after}
use Rattle.rules.specs.Answers.{told, record_after, ticked}
use Rattle.rules.specs.declared.TaskRecord.{TaskRecord}
use Rattle.rules.specs.declared.State.{State}
use Rattle.rules.proofs.Laws.{sure, below, true_false, and_left, and_right, and_no, implied, implies_yes, some_same, every_same, every_at, smallest_same, smallest_found, smallest_passes, smallest_le, smallest_agrees, row_at}
use Rattle.rules.proofs.Choice.{holds_locks, Barred, barred, Lowest, not_lowest, in_the_way_lem, next_holds}
use Rattle.rules.proofs.Reading.{sheet_few}
use Rattle.theorems.specs.Demand3.{SameMode, NoLowerLocks, Premises, SameRecords, NonInterference, Agree, FromStates, FromPossibleStates, OfRuns, OfTicks, OfTicksInPlace}
use Rattle.theorems.proofs.Answers.{one_sheet, tick_goes, run_goes}

-- what the premises say of two sheets, rank by rank
pub record Twin (k : ℕ) (a b : Sheet) : Type 0 where
  pub few : k ≤ 16
  pub mode : SameMode a b
  pub counted : k ≤ length a.tasks
  pub counted' : k ≤ length b.tasks
  pub task : (i : ℕ) → i < k → task_at a i ≡ task_at b i
  pub apart : NoLowerLocks k a
  pub apart' : NoLowerLocks k b

pub flip : {k : ℕ} {a b : Sheet} → Twin k a b → Twin k b a
flip τ = record { few = τ.few; mode = sym τ.mode; counted = τ.counted'; counted' = τ.counted; task = λ i l. sym (τ.task i l); apart = τ.apart'; apart' = τ.apart }

-- the records of the first k are the same
abbrev Same : ℕ → List TaskRecord → List TaskRecord → Type 0
Same k rs rs' = (i : ℕ) → i < k → record_at rs i ≡ record_at rs' i

-- a ceiling below k is the same in both, and one that is not is not
pub ceiling_same : {k : ℕ} {a b : Sheet} → Twin k a b → (s : ℕ) → ceiling a s < k → ceiling a s ≡ ceiling b s
unfolding ceiling
ceiling_same {k} {a} {b} τ s l = smallest_agrees 16 255 k _ _ (omega (arith, τ.few)) (λ i m. ap (λ (x : Task). locks x s) (τ.task i m)) l

pub ceiling_high : {k : ℕ} {a b : Sheet} → Twin k a b → (s : ℕ) → k ≤ ceiling a s → k ≤ ceiling b s
ceiling_high {k} {a} {b} τ s l = ⊎_elim (λ u. absurd (omega (arith, ceiling_same (flip τ) s u))) (λ u. u) (below (ceiling b s) k)

pub ceiling_locks : {k : ℕ} {a b : Sheet} → Twin k a b → (s : ℕ) → ceiling a s < k → locks (task_at a (ceiling a s)) s ≡ true
unfolding ceiling
ceiling_locks {k} τ s l = smallest_passes 16 255 _ k (omega (arith, τ.few)) l

-- a semaphore whose ceiling is below k is held by the same job in both, one of the first k
none_above : {k : ℕ} {a b : Sheet} → Twin k a b → (rs : List TaskRecord) (s j : ℕ) → ceiling a s < k → k ≤ j → holds a rs j s ≡ false
none_above {k} {a} τ rs s j l m = ⊎_elim
    (λ e. true_false (locks (task_at a j) s) (holds_locks a rs j s e) (τ.apart (ceiling a s) j s l m (ceiling_locks τ s l)))
    (λ e. e)
    (sure (holds a rs j s))

module _ {k : ℕ} {a b : Sheet} (τ : Twin k a b) (rs rs' : List TaskRecord) (same : Same k rs rs') where
  holds_same : (s : ℕ) → ceiling a s < k → (j : ℕ) → holds a rs j s ≡ holds b rs' j s
  unfolding holds
  holds_same s l j = ⊎_elim
      (λ u. ap₂ (λ (x : Task) (r : TaskRecord). carries x r.job s) (τ.task j u) (same j u))
      (λ u. none_above τ rs s j l u ∙ sym (none_above (flip τ) rs' s j (let e = ceiling_same τ s l in omega arith) u))
      (below j k)

  other_same : (i s : ℕ) → ceiling a s < k → held_by_other a rs i s ≡ held_by_other b rs' i s
  unfolding held_by_other
  other_same i s l = some_same 16 _ _ (λ j m. ap (λ (x : Bool). not (j =? i) && x) (holds_same s l j))

  -- what the others hold above k bars none of the first k, so a job of theirs is free in both or in neither, and may go so
  free_same : (i : ℕ) → i < k → free_of_ceilings a rs i ≡ free_of_ceilings b rs' i
  unfolding free_of_ceilings
  free_same i l = every_same 16 _ _ (λ s m. ⊎_elim
      (λ u. ap₂ (λ (x : Bool) (c : ℕ). x ⇒ i <? c) (other_same i s u) (ceiling_same τ s u))
      (λ u. implied (held_by_other a rs i s) _ (lt-ltb i (ceiling a s) (omega arith))
      ∙ sym (implied (held_by_other b rs' i s) _ (lt-ltb i (ceiling b s) (omega (arith, ceiling_high τ s u)))))
      (below (ceiling a s) k))

  may_go_same : (i : ℕ) → i < k → may_go a rs i ≡ may_go b rs' i
  unfolding may_go
  may_go_same i l =
      ap₂ (λ (m : ℕ) (x : Task). goes m x (record_at rs i).job (free_of_ceilings a rs i)) τ.mode (τ.task i l)
      ∙ ap₂ (λ (r : TaskRecord) (f : Bool). goes b.mode (task_at b i) r.job f) (same i l) (free_same i l)

  -- where one of the first k is barred, what stands in its way is the same in both, and so is its holder, one of the first k
  module _ (i : ℕ) (l : i < k) (w : ℕ) (β : Barred a rs i w) where
    barred_too : Barred b rs' i w
    barred_too =
        let c : ceiling a w < k = omega (arith, β.ceiled) in
        record { number = β.number; other = sym (other_same i w c) ∙ β.other; ceiled = let e = ceiling_same τ w c in omega (arith, β.ceiled) }

    lowest_same : (s : ℕ) → (held_by_other a rs i s && Lowest a rs i s) ≡ (held_by_other b rs' i s && Lowest b rs' i s)
    lowest_same s = ⊎_elim
        (λ u. ap₂ ◌&&◌ (other_same i s u) (every_same 16 _ _ (λ v m. ⊎_elim
        (λ c. ap₂ ◌⇒◌ (other_same i v c) (ap₂ ◌≤?◌ (ceiling_same τ s u) (ceiling_same τ v c)))
        (λ c. implied (held_by_other a rs i v) _ (le-leb (ceiling a s) (ceiling a v) (omega arith))
        ∙ sym (implied (held_by_other b rs' i v) _ (le-leb (ceiling b s) (ceiling b v) (omega (arith, ceiling_high τ v c, ceiling_same τ s u)))))
        (below (ceiling a v) k))))
        (λ u. and_no (held_by_other a rs i s) _ (not_lowest a rs i w s β (omega (arith, β.ceiled)))
        ∙ sym (and_no (held_by_other b rs' i s) _ (not_lowest b rs' i w s barred_too (omega (arith, barred_too.ceiled, ceiling_high τ s u)))))
        (below (ceiling a s) k)

    way_same : in_the_way a rs i ≡ in_the_way b rs' i
    unfolding in_the_way
    way_same = smallest_same 16 255 _ _ (λ s m. lowest_same s)

    way_low : ceiling a (in_the_way a rs i) < k
    way_low =
        let s = in_the_way a rs i in
        let p = and_right (held_by_other a rs i s) (Lowest a rs i s) (in_the_way_lem a rs i w β) in
        let q = every_at 16 (λ u. held_by_other a rs i u ⇒ ceiling a s ≤? ceiling a u) p w β.number in
        let q = implies_yes (held_by_other a rs i w) (ceiling a s ≤? ceiling a w) q β.other in
        omega (arith, leb-true (ceiling a s) (ceiling a w) q, β.ceiled)

    next_same : next_candidate a rs i ≡ next_candidate b rs' i
    unfolding next_candidate
    next_same = smallest_same 16 255 _ _ (λ j m. ap (λ (x : Bool). not (j =? i) && x) (holds_same (in_the_way a rs i) way_low j ∙ ap (holds b rs' j) way_same))

    next_below : may_go a rs i ≡ false → next_candidate a rs i < k
    next_below e =
        let s = in_the_way a rs i in
        let j = next_candidate a rs i in
        ⊎_elim (λ u. u) (λ u. true_false (holds a rs j s) (next_holds a rs i e).1 (none_above τ rs s j way_low u)) (below j k)

  -- so the walk never leaves the first k, and is the same
  walk_same : (more : ℕ) (seen : List ℕ) (i : ℕ) → i < k → walk a rs more seen i ≡ walk b rs' more seen i
  unfolding walk
  walk_same zero seen i l = refl
  walk_same (suc more) seen i l = ap (λ (x : Runner). if among i seen then Stuck else x) (⊎_elim
      (λ u. let v : may_go b rs' i ≡ true = sym (may_go_same i l) ∙ u in rw (u, v) refl)
      (λ u.
      let v : may_go b rs' i ≡ false = sym (may_go_same i l) ∙ u in
      let z = barred a rs i u in
      rw (u, v) (walk_same more (i ∷ seen) (next_candidate a rs i) (next_below i l z.0 z.1 u) ∙ ap (walk b rs' more (i ∷ seen)) (next_same i l z.0 z.1)))
      (sure (may_go a rs i)))

top_same : (k : ℕ) (rs rs' : List TaskRecord) → k ≤ 16 → Same k rs rs' → top_job rs < k → top_job rs ≡ top_job rs'
unfolding top_job
top_same k rs rs' h same l = smallest_agrees 16 255 k _ _ (omega arith) (λ i m. ap (λ (r : TaskRecord). r.job.pending) (same i m)) l

-- where the top job is one of the first k, the runner is the same in both
runner_same : {k : ℕ} {a b : Sheet} (τ : Twin k a b) (rs rs' : List TaskRecord) → Same k rs rs' → top_job rs < k → runner a rs ≡ runner b rs'
unfolding runner
runner_same {k} {a} {b} τ rs rs' same l =
    let e = top_same k rs rs' τ.few same l in
    ap₂ (λ (n : ℕ) (x : Runner). if n =? 255 then Idle else x) e (walk_same τ rs rs' same 16 [] (top_job rs) l ∙ ap (walk b rs' 16 []) e)

-- elsewhere none of the first k is pending, and the runner is none of them
abbrev Low : ℕ → Runner → Type 0
Low k (Rank j) = k ≤ j
Low k Stuck = Unit {0}
Low k Idle = Unit {0}

low_if : (k : ℕ) (c : Bool) (x y : Runner) → Low k x → Low k y → Low k (if c then x else y)
low_if k true x y p q = p
low_if k false x y p q = q

module _ (k : ℕ) (a : Sheet) (rs : List TaskRecord) (few : k ≤ 16) (high : k ≤ top_job rs) where
  none_pending : (i : ℕ) → i < k → (record_at rs i).job.pending ≡ false
  unfolding top_job
  none_pending i m = ⊎_elim
      (λ e. absurd (omega (arith, smallest_le 16 255 (λ j. (record_at rs j).job.pending) i (omega arith) e)))
      (λ e. e)
      (sure (record_at rs i).job.pending)

  next_low : (i : ℕ) → k ≤ next_candidate a rs i
  unfolding next_candidate holds carries
  next_low i =
      let j = next_candidate a rs i in
      let p : ℕ → Bool = λ x. not (x =? i) && holds a rs x (in_the_way a rs i) in
      ⊎_elim
      (λ w. ⊎_elim
      (λ u. true_false (record_at rs j).job.pending (and_left (record_at rs j).job.pending _ (and_right (not (j =? i)) (holds a rs j (in_the_way a rs i)) w.1)) (none_pending j u))
      (λ u. u)
      (below j k))
      (λ w. omega (arith, w.0))
      (smallest_found 16 255 p)

  walk_low : (more : ℕ) (seen : List ℕ) (i : ℕ) → k ≤ i → Low k (walk a rs more seen i)
  unfolding walk
  walk_low zero seen i m = tt
  walk_low (suc more) seen i m =
      low_if k (among i seen) _ _ tt (low_if k (may_go a rs i) _ _ m (walk_low more (i ∷ seen) (next_candidate a rs i) (next_low i)))

  runner_low : Low k (runner a rs)
  unfolding runner
  runner_low = low_if k (top_job rs =? 255) _ _ tt (walk_low 16 [] (top_job rs) high)

-- and such a runner leaves their records as they are
spent_low : (k : ℕ) (x : Runner) (t i : ℕ) (task : Task) (r : TaskRecord) → i < k → Low k x → r.job.pending ≡ false → spent x t i task r ≡ r
unfolding spent
spent_low k (Rank j) t i task r l h e = rw (ne_eqb i j (λ z. omega arith), and_no (i <? j) r.job.pending e) refl
spent_low k Stuck t i task r l h e = refl
spent_low k Idle t i task r l h e = refl

-- one tick
module _ {k : ℕ} {a b : Sheet} (τ : Twin k a b) (st st' : State) (α : Agree k st st') where
  released_same : Same k (after_releases a st) (after_releases b st')
  unfolding after_releases record_at
  released_same i l =
      let in-a = lt-ltb i (length a.tasks) (omega (arith, τ.counted)) in
      let in_b = lt-ltb i (length b.tasks) (omega (arith, τ.counted')) in
      row_at 16 _ blank i (omega (arith, τ.few))
      ∙ rw (in-a, in_b) (ap (λ (t : ℕ). released t (task_at a i) (record_at st.tasks i)) α.time ∙ ap₂ (released st'.t) (τ.task i l) (α.records i l))
      ∙ sym (row_at 16 _ blank i (omega (arith, τ.few)))

  spent_same : (i : ℕ) → i < k
      → spent (runner a (after_releases a st)) st.t i (task_at a i) (record_at (after_releases a st) i)
      ≡ spent (runner b (after_releases b st')) st'.t i (task_at b i) (record_at (after_releases b st') i)
  spent_same i l =
      let rs = after_releases a st in
      let rs' = after_releases b st' in
      let same = released_same in
      ⊎_elim
      (λ u. ap₂ (λ (x : Runner) (t : ℕ). spent x t i (task_at a i) (record_at rs i)) (runner_same τ rs rs' same u) α.time
      ∙ ap₂ (spent (runner b rs') st'.t i) (τ.task i l) (same i l))
      (λ u.
      let v : k ≤ top_job rs' = ⊎_elim (λ w. absurd (omega (arith, top_same k rs' rs τ.few (λ j m. sym (same j m)) w))) (λ w. w) (below (top_job rs') k) in
      spent_low k (runner a rs) st.t i (task_at a i) (record_at rs i) l (runner_low k a rs τ.few u) (none_pending k a rs τ.few u i l)
      ∙ same i l
      ∙ sym (spent_low k (runner b rs') st'.t i (task_at b i) (record_at rs' i) l (runner_low k b rs' τ.few v) (none_pending k b rs' τ.few v i l)))
      (below (top_job rs) k)

  tick_same : Agree k (tick a st) (tick b st')
  unfolding tick runner_of closed after_runner record_at
  tick_same = record {
    time = ap (λ (t : ℕ). t + 1) α.time;
    records = λ i l. row_at 16 _ blank i (omega (arith, τ.few)) ∙ spent_same i l ∙ sym (row_at 16 _ blank i (omega (arith, τ.few)));
  }

-- any number of ticks
after_same : {k : ℕ} {a b : Sheet} → Twin k a b → (st st' : State) → Agree k st st' → (h : ℕ) → Agree k (after h a st) (after h b st')
unfolding after
after_same τ st st' α zero = α
after_same {a} {b} τ st st' α (suc h) = tick_same τ (after h a st) (after h b st') (after_same τ st st' α h)

pub twin : (k : ℕ) (bytes bytes' : List ℕ) (a b : Sheet) → Premises k bytes bytes' a b → Twin k a b
unfolding task_at
twin k bytes bytes' a b π =
    let σ = π.first in
    record {
      few = omega (arith, sheet_few bytes a σ.accepted, σ.present);
      mode = π.mode;
      counted = σ.present;
      counted' = σ.present';
      task = λ i l. sym (get_or-take k a.tasks i no_task l) ∙ ap (λ (xs : List Task). get_or xs i no_task) σ.identical ∙ get_or-take k b.tasks i no_task l;
      apart = π.apart;
      apart' = π.apart';
    }

pub from_states : FromStates
from_states k bytes bytes' a b π st st' α h = after_same (twin k bytes bytes' a b π) st st' α h

pub from_possible_states : FromPossibleStates
from_possible_states k bytes bytes' a b π st st' p p' α h m = from_states k bytes bytes' a b π st st' α h

-- the start agrees with itself
pub non_interference : NonInterference
non_interference k bytes bytes' a b π h m =
    (from_states k bytes bytes' a b π start start (record { time = refl; records = λ i l. refl }) h).records

-- what the calls answer is that
pub of_runs : OfRuns
of_runs k bytes bytes' a b π h buffer buffer' z z' =
    let r = run_goes bytes h buffer z in
    let r' = run_goes bytes' h buffer' z' in
    let e = r.1.state ∙ ap (λ (x : Sheet). after h x start) (one_sheet bytes r.0 a r.1.accepted π.first.accepted) in
    let e' = r'.1.state ∙ ap (λ (x : Sheet). after h x start) (one_sheet bytes' r'.0 b r'.1.accepted π.first.accepted') in
    subst₂ (SameRecords k) (sym e) (sym e') (non_interference k bytes bytes' a b π h r.1.permitted)

pub of_ticks : OfTicks
unfolding after
of_ticks k bytes bytes' a b π st st' α z z' =
    let r = tick_goes bytes st z in
    let r' = tick_goes bytes' st' z' in
    let e = r.1.state ∙ ap (λ (x : Sheet). tick x st) (one_sheet bytes r.0 a r.1.accepted π.first.accepted) in
    let e' = r'.1.state ∙ ap (λ (x : Sheet). tick x st') (one_sheet bytes' r'.0 b r'.1.accepted π.first.accepted') in
    subst₂ (Agree k) (sym e) (sym e') (from_states k bytes bytes' a b π st st' α 1)

pub of_ticks_in_place : OfTicksInPlace
unfolding told record_after ticked
of_ticks_in_place = of_ticks
