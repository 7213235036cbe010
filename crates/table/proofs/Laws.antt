-- Laws of the table: past the end of a row, the tasks of its sheet, and the task of a rank.
use Rattle.std.proofs.Common.{ℕ, zero, suc, ◌<◌, ◌≤◌, ◌≡◌, refl, sym, ap, ◌∙◌, List, [], ◌∷◌, length, get_or, take, drop, map, true, Result, Ok, Err, arith}
use Rattle.std.specs.Result.{IsOk, IfOk, result_unwrap_or}
use Rattle.std.proofs.lemmas.List.{get_or-map, take-map, length-map, length-take-le}
use lib.Seq.{drop-nil}
use Rattle.rules.proofs.Laws.{true_false}
use Rattle.rules.specs.Sheet.{Task as Rules·Task, Sheet, no_task, task_at}
use Rattle.table.specs.Tasks.{task_of, sheet_with}
use Rattle.table.specs.Table.{sheet_of}
use Rattle.table.specs.declared.task.Task.{Task}
use Rattle.table.specs.declared.Table.{Table}

-- past the end of a row nothing is left
pub drop_past : {A : Type 0} (l : List A) (n : ℕ) → length l ≤ n → drop n l ≡ []
drop_past [] n h = drop-nil n
drop_past (x ∷ xs) zero h = absurd (omega arith)
drop_past (x ∷ xs) (suc n) h = drop_past xs n (omega arith)

-- a sheet has as many tasks as its head says
pub head_counts : (table : Table) → table.head.n ≡ length (sheet_of table).tasks
unfolding sheet_of sheet_with
head_counts table =
    let all = length-map table.tasks task_of in
    sym (length-take-le table.head.n (map task_of table.tasks) (omega (arith, all, table.few, table.sized)))

-- its tasks are the first in the table
pub tasks_first : (table : Table) (n : ℕ) → n ≡ length (sheet_of table).tasks → map task_of (take n table.tasks) ≡ (sheet_of table).tasks
unfolding sheet_of sheet_with
tasks_first table n e =
    let first : n ≡ table.head.n = e ∙ sym (head_counts table) in
    sym (take-map task_of n table.tasks) ∙ ap (λ n. take n (map task_of table.tasks)) first

-- an array that is taken out of a full row has what stood there
pub taken_out : {A E : Type 0} (r : Result A E) (other row items : A) → IsOk r → IfOk r (λ x. x ≡ items) → row ≡ result_unwrap_or r other → row ≡ items
taken_out (Ok x) other row items some same e = e ∙ same
taken_out (Err x) other row items some same e = true_false true refl (sym some)

-- as many tasks as the sheet has
pub many_tasks : (sheet : Sheet) (tasks : List Task) → map task_of tasks ≡ sheet.tasks → length tasks ≡ length sheet.tasks
many_tasks sheet tasks same = sym (length-map tasks task_of) ∙ ap length same

-- the task of a rank, as it is read from the tasks
pub task_read : (sheet : Sheet) (tasks : List Task) → map task_of tasks ≡ sheet.tasks → (i : ℕ) → i < length tasks → (task : Task) → task ≡ get_or tasks i task
    → task_of task ≡ task_at sheet i
unfolding task_at
task_read sheet tasks same i l task is = ap task_of is ∙ sym (get_or-map task_of tasks i task no_task l) ∙ ap (λ (tasks : List Rules·Task). get_or tasks i no_task) same
