-- Laws of the tests on one record, each in the words of document 01's sentence.
use Rattle.std.proofs.Common.{ℕ, ◌≤◌, ◌<◌, ◌≡◌, refl, sym, ap, ◌∙◌, List, [], ◌∷◌, Bool, true, false, not, ◌&&◌, Some, None, length, get_or, drop, map, if◌then◌else◌}
use Rattle.std.proofs.Math.ListN.{get_or-eq_default}
use borrow.Author.Tests.{le-leb, lt-leb}
use Rattle.rules.specs.Words.{◌<?◌, ◌≤?◌, ◌=?◌, ◌⇒◌, within}
use Rattle.rules.specs.Sheet.{Step as Rules·Step, run, lock, unlock, Task, Sheet, no_task, task_at}
use Rattle.rules.specs.Fields.{place, counted, zeros, zero_record}
use Rattle.rules.specs.Record.{ahead, stands_well, job_fits}
use Rattle.rules.specs.declared.TaskRecord.{TaskRecord}
use Rattle.rules.proofs.Laws.{and_no, and_true}
use Rattle.table.specs.Steps.{here}
use Rattle.table.specs.Tasks.{task_of}
use Rattle.table.specs.declared.Step.{Step}
use Rattle.table.specs.declared.Step.TheVariants.{Run, Lock, Unlock}
use Rattle.table.specs.declared.task.Task.{Task as Table·Task}
use Rattle.table.proofs.Laws.{many_tasks, task_read}

-- how a job stands, by the step that it stands at
pub stands_by : (steps : List Rules·Step) (left : ℕ) → stands_well steps left
    ≡ (elim (here steps) [ Some x ↦ elim x [ Run n ↦ within 1 n left | Lock s ↦ left =? 0 | Unlock s ↦ false ] | None ↦ false ])
unfolding stands_well here
stands_by [] left = refl
stands_by (run n ∷ steps) left = refl
stands_by (lock s ∷ steps) left = refl
stands_by (unlock s ∷ steps) left = refl

pub stands_run : (steps : List Rules·Step) (left n : ℕ) (x : Step) → Some x ≡ here steps → x ≡ Run n → within 1 n left ≡ stands_well steps left
stands_run steps left n x e u = sym (stands_by steps left ∙ rw (← e, u) refl)

-- a zero record needs no task
zero_fits : (t : ℕ) (x : TaskRecord) → (job_fits t no_task x.job && zero_record x) ≡ zero_record x
unfolding job_fits zero_record ahead stands_well
zero_fits t x = go x.job.pending (zeros (place x.job)) (zeros (counted x.counts))
  where
    go : (p z c : Bool) → ((if p then x.job.release <? t && stands_well (drop x.job.position []) x.job.left else z) && (not p && z && c)) ≡ (not p && z && c)
    go true z c = and_no _ false refl
    go false true c = refl
    go false false c = refl

-- below n the job decides, and from n on the record must be zero
module _ (sheet : Sheet) (t i : ℕ) (x : TaskRecord) (tasks : List Table·Task) (same : map task_of tasks ≡ sheet.tasks) where
  pub in_rank : (task : Table·Task) → i < length tasks → task ≡ get_or tasks i task → (b : Bool) → b ≡ job_fits t (task_of task) x.job
      → b ≡ (job_fits t (task_at sheet i) x.job && (length sheet.tasks ≤? i ⇒ zero_record x))
  in_rank task l is b eb =
      eb ∙ ap (λ (task : Task). job_fits t task x.job) (task_read sheet tasks same i l task is) ∙ sym (rw (lt-leb (length sheet.tasks) i (rw (many_tasks sheet tasks same) at l)) (and_true _))

  pub past_last : length tasks ≤ i → (b : Bool) → b ≡ zero_record x → b ≡ (job_fits t (task_at sheet i) x.job && (length sheet.tasks ≤? i ⇒ zero_record x))
  unfolding task_at
  past_last l b eb =
      let m : length sheet.tasks ≤ i = rw (many_tasks sheet tasks same) at l in
      eb ∙ sym (rw (le-leb (length sheet.tasks) i m, get_or-eq_default sheet.tasks no_task {n = i} m) (zero_fits t x))
