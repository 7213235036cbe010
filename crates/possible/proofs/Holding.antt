-- Laws of what is held: by one job alone, against the holders, and none by two.
use Rattle.std.proofs.Common.{ℕ, ◌+◌, ◌-◌, ◌≤◌, ◌<◌, ◌≡◌, refl, sym, ap, ◌∙◌, ⊎_elim, List, [], Bool, true, false, not, ◌&&◌, length, get_or, take, map, replicate, arith, if◌then◌else◌}
use borrow.Author.Tests.{eq-eqb, ne_eqb, eqb-true, eqb-false, not-true, not-false}
use Rattle.rules.specs.Words.{◌=?◌, ◌⇒◌, row, any, among}
use Rattle.rules.specs.Sheet.{Step, Task, Sheet, task_at, held}
use Rattle.rules.specs.Fields.{blank}
use Rattle.rules.specs.Record.{record_at, behind, carries, holds, none_held_by_two}
use Rattle.rules.specs.declared.Job.{Job}
use Rattle.rules.specs.declared.TaskRecord.{TaskRecord}
use Rattle.rules.proofs.Laws.{sure, below, and_at, true_false, and_left, and_right, and_both, implied, implies_no, implies_yes, denied, every_same, every_at, every_of, not_every, every_no, row_at, smallest_le, smallest_there, smallest_none, row_same}
use Rattle.table.specs.Steps.{said}
use Rattle.table.specs.Tasks.{task_of}
use Rattle.table.specs.declared.task.Task.{Task as Table·Task}
use Rattle.table.proofs.Laws.{many_tasks, task_read}
use Rattle.holders.specs.Holders.{holder, holders, first_with, after_steps}
use Rattle.holders.proofs.Holders.{stepped, holds_past, holder_at}
use Rattle.possible.specs.Holding.{same_holder, same_holders, holds_alone}

-- where no other rank has anything, the steps of rank i hold what they have locked and not unlocked
alone : (i : ℕ) (own : List ℕ) (s : ℕ) → ℕ
alone i own s = if among s own then i else 255

module _ (i : ℕ) (l : i < 255) where
  beside_nobody : (own : List ℕ) → row 16 (first_with (λ j s. false) i own) ≡ row 16 (alone i own)
  unfolding first_with alone
  beside_nobody own = row_same 16 (first_with (λ j s. false) i own) (alone i own) (λ s m. smallest_none i _ (λ j. false) (λ j n. refl))

  steps_alone : (steps : List Step) → after_steps i steps (replicate 16 255) ≡ row 16 (alone i (held steps))
  unfolding held row alone among any
  steps_alone steps = ap (after_steps i steps) (sym (beside_nobody [])) ∙ stepped (λ j s. false) i l [] steps ∙ beside_nobody (held steps)

  same_alone : (b : Bool) (h : ℕ) → same_holder (if b then i else 255) h ≡ (b ⇒ h =? i)
  unfolding same_holder
  same_alone true h = rw (ne_eqb i 255 (λ e. omega arith)) refl
  same_alone false h = refl

-- a job of rank i
module _ (i : ℕ) (task : Task) (j : Job) (hs : List ℕ) where
  pub rests_alone : not j.pending ≡ true → not j.pending ≡ holds_alone i task j hs
  unfolding holds_alone carries
  rests_alone h = h ∙ sym (every_of 16 _ (λ s m. rw (not-true j.pending h) refl))

  pub stands_alone : not j.pending ≡ false → i < 255 → (steps : List (List ℕ)) → map said steps ≡ task.steps
      → (own : List ℕ) → own ≡ after_steps i (take (j.position - 0) (map said steps)) (replicate 16 255)
      → (b : Bool) → b ≡ same_holders own hs → b ≡ holds_alone i task j hs
  unfolding same_holders holds_alone carries behind alone
  stands_alone h l steps es own eo b eb = eb ∙ every_same 16 _ _ (λ s m.
      let z : j.position - 0 ≡ j.position = omega arith in
      let at : own ≡ row 16 (alone i (held (behind task j))) = eo ∙ ap (λ (xs : List Step). after_steps i (take (j.position - 0) xs) (replicate 16 255)) es ∙ steps_alone i l (take (j.position - 0) task.steps) ∙ ap (λ (n : ℕ). row 16 (alone i (held (take n task.steps)))) z in
      let own-s = ap (λ (o : List ℕ). get_or o s 0) at ∙ row_at 16 (alone i (held (behind task j))) 0 s m in
      ap (λ (o : ℕ). same_holder o (get_or hs s 0)) own-s
      ∙ same_alone i l (among s (held (behind task j))) (get_or hs s 0)
      ∙ ap (λ (p : Bool). (p && among s (held (behind task j))) ⇒ get_or hs s 0 =? i) (sym (not-false j.pending h)))

-- against the holders of the sixteen records
module _ (sheet : Sheet) (records : List TaskRecord) (hs : List ℕ) (eh : hs ≡ holders sheet records) where
  -- a job that is not the holder of something it holds: the holder holds it too
  not_alone : (i : ℕ) → i < 16 → holds_alone i (task_at sheet i) (record_at records i).job hs ≡ false → false ≡ none_held_by_two sheet records
  unfolding holds_alone holder none_held_by_two holds
  not_alone i li e =
      let w = not_every 16 (λ s. carries (task_at sheet i) (record_at records i).job s ⇒ get_or hs s 0 =? i) e in
      let s = w.0 in
      let d = denied (carries (task_at sheet i) (record_at records i).job s) (get_or hs s 0 =? i) w.2 in
      let h = holder sheet records s in
      let lh : h < 16 = omega (arith, smallest_le 16 255 (λ j. holds sheet records j s) i li d.0) in
      let too = smallest_there 16 255 (λ j. holds sheet records j s) i li d.0 in
      sym (every_no 16 _ s w.1 (every_no 16 _ i li (every_no 16 _ h lh
      (implies_no (holds sheet records i s && holds sheet records h s) (i =? h) (and_both _ _ d.0 too)
      (ne_eqb i h (λ z. eqb-false (get_or hs s 0) i d.1 (holder_at sheet records hs eh s w.1 ∙ sym z)))))))

  -- where each is, two that hold the same are its holder both
  all_alone : ((k : ℕ) → k < length sheet.tasks → holds_alone k (task_at sheet k) (record_at records k).job hs ≡ true) → true ≡ none_held_by_two sheet records
  unfolding holds_alone none_held_by_two holds
  all_alone each = sym (every_of 16 _ (λ s ls. every_of 16 _ (λ i li. every_of 16 _ (λ j lj.
      let both = holds sheet records i s && holds sheet records j s in
      ⊎_elim
      (λ (u : both ≡ true).
      let a = is_holder s ls i (and_left (holds sheet records i s) _ u) in
      let b = is_holder s ls j (and_right (holds sheet records i s) _ u) in
      implied both (i =? j) (eq-eqb i j (omega arith)))
      (λ (u : both ≡ false). rw u refl)
      (sure both)))))
    where
      is_holder : (s : ℕ) → s < 16 → (i : ℕ) → holds sheet records i s ≡ true → get_or hs s 0 ≡ i
      is_holder s ls i hi = ⊎_elim
          (λ u. eqb-true (get_or hs s 0) i (implies_yes (carries (task_at sheet i) (record_at records i).job s) _ (every_at 16 _ (each i u) s ls) hi))
          (λ u. true_false (holds sheet records i s) hi (holds_past sheet records i s u))
          (below i (length sheet.tasks))

-- the loop over the ranks
module _ (sheet : Sheet) (records : List TaskRecord) (hs : List ℕ) (eh : hs ≡ holders sheet records)
    (tasks : List Table·Task) (same : map task_of tasks ≡ sheet.tasks) (few : length tasks ≤ 16) (i : ℕ) where
  module _ (l : i < length tasks) (task : Table·Task) (is : task ≡ get_or tasks i task) (b : Bool) (eb : b ≡ holds_alone i (task_of task) (get_or records i blank).job hs) where
    by_rank_lem : b ≡ holds_alone i (task_at sheet i) (record_at records i).job hs
    unfolding record_at
    by_rank_lem = eb ∙ ap (λ (task : Task). holds_alone i task (get_or records i blank).job hs) (task_read sheet tasks same i l task is)

    pub rank_off : not b ≡ true → false ≡ none_held_by_two sheet records
    rank_off h = not_alone sheet records hs eh i (omega arith) (sym by_rank_lem ∙ not-true b h)

    pub rank_more : not b ≡ false → ((k : ℕ) → k < i → holds_alone k (task_at sheet k) (record_at records k).job hs ≡ true)
        → (k : ℕ) → k < i + 1 → holds_alone k (task_at sheet k) (record_at records k).job hs ≡ true
    rank_more h inv k m = and_at (λ k. holds_alone k (task_at sheet k) (record_at records k).job hs ≡ true) i inv (sym by_rank_lem ∙ not-false b h) k (omega arith)

  pub ranks_all : length tasks ≤ i → ((k : ℕ) → k < i → holds_alone k (task_at sheet k) (record_at records k).job hs ≡ true) → true ≡ none_held_by_two sheet records
  ranks_all l inv = all_alone sheet records hs eh (λ k m. inv k (omega (arith, many_tasks sheet tasks same)))
