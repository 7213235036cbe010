-- The tasks of a sheet, one by one.
use Rattle.std.proofs.Common.{ℕ, zero, suc, ◌+◌, ◌-◌, ◌≤◌, ◌<◌, ◌≡◌, refl, sym, ap, ◌∙◌, List, [], ◌∷◌, ◌++◌, length, length-append, set, take, map, append_assoc, append-nil, arith}
use Rattle.rules.specs.Sheet.{Task}
use Rattle.rules.specs.Reading.{Reading, read, refused, ◌>>=◌, read_task, read_tasks}
use Rattle.rules.specs.declared.Head.{Head}
use Rattle.table.specs.Tasks.{task_of}
use Rattle.table.specs.declared.task.Task.{Task as Table·Task}
use Rattle.sheet.proofs.Turns.{then_then, then_same, in_turn}

-- what was read before, and what is still read
unfoldable pub with_front : List Task → Reading (List Task × List ℕ) → Reading (List Task × List ℕ)
with_front front more = more >>= λ x. read (front ++ x.0, x.1)

-- the tasks that are left to read, behind those taken, give the whole
pub record Taking (head : Head) (bytes : List ℕ) (tasks : List Task) (rest : List ℕ) (i : ℕ) : Type 0 where
  pub many : length tasks ≡ i
  pub left : with_front tasks (read_tasks head i (head.n - i) rest) ≡ read_tasks head 0 head.n bytes

pub front_none : (more : Reading (List Task × List ℕ)) → with_front [] more ≡ more
unfolding with_front ◌>>=◌
front_none (read x) = refl
front_none (refused x) = refl

-- a task that was read goes to the front
front_more : (front : List Task) (task : Task) (more : Reading (List Task × List ℕ)) → with_front front (more >>= λ x. read (task ∷ x.0, x.1)) ≡ with_front (front ++ (task ∷ [])) more
unfolding with_front ◌>>=◌
front_more front task (read x) = ap (λ (ts : List Task). read (ts, x.1)) (sym (append_assoc front (task ∷ []) x.0))
front_more front task (refused x) = refl

-- a task put behind those taken
pub taken_more : (tasks : List Table·Task) (i : ℕ) (task : Table·Task) → i < length tasks → take (i + 1) (map task_of (set tasks i task)) ≡ take i (map task_of tasks) ++ (task_of task ∷ [])
taken_more [] i task l = absurd (omega arith)
taken_more (x ∷ tasks) zero task l = refl
taken_more (x ∷ tasks) (suc i) task l =
    let next : suc i + 1 ≡ suc (i + 1) = omega arith in
    rw next (ap (λ (more : List Task). task_of x ∷ more) (taken_more tasks i task (omega arith)))

-- one more of them, and none
module _ (head : Head) (i : ℕ) (bytes : List ℕ) (tasks : List Task) where
  pub tasks_more : (n : ℕ) → 1 ≤ n → with_front tasks (read_tasks head i n bytes)
      ≡ (read_task head i bytes >>= λ x. with_front (tasks ++ (x.0 ∷ [])) (read_tasks head (i + 1) (n - 1) x.1))
  unfolding read_tasks with_front
  tasks_more zero l = absurd (omega arith)
  tasks_more (suc n) l =
      let z : suc n - 1 ≡ n = omega arith in
      rw z (then_then (read_task head i bytes) _ _ ∙ then_same (read_task head i bytes) _ _ (λ x. front_more tasks x.0 (read_tasks head (i + 1) n x.1)))

  pub tasks_none : (n : ℕ) → n ≤ 0 → with_front tasks (read_tasks head i n bytes) ≡ read (tasks, bytes)
  unfolding read_tasks with_front ◌>>=◌
  tasks_none zero l = ap (λ (ts : List Task). read (ts, bytes)) (append-nil tasks)
  tasks_none (suc n) l = absurd (omega arith)

pub ruleset tasks_in_turn = (in_turn, tasks_more, tasks_none, front_none)

-- one more turn
pub one_taken : (head : Head) (bytes : List ℕ) (tasks : List Table·Task) (rest : List ℕ) (i : ℕ) → Taking head bytes (take i (map task_of tasks)) rest i → i < head.n → i < length tasks
    → (task : Table·Task) (next : List ℕ) → read (task_of task, next) ≡ read_task head i rest → (row : List Table·Task) → row ≡ set tasks i task
    → Taking head bytes (take (i + 1) (map task_of row)) next (i + 1)
one_taken head bytes tasks rest i γ below inside task next e row er =
    let before = take i (map task_of tasks) in
    rw (er, taken_more tasks i task inside) (record {
      many = length-append before (task_of task ∷ []) ∙ ap (λ (n : ℕ). n + 1) γ.many;
      left = grind (arith, tasks_in_turn);
    })
