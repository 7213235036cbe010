-- Laws of reading: what an accepted sheet went through.
use Prim.Native.Nat.{ℕ, zero, suc, ◌+◌, ◌*◌, ◌≤◌, ◌<◌}
use mathlib.Core.Path.{◌≡◌, refl, sym, ap, ◌∙◌, subst}
use mathlib.Core.List.{List, [], ◌∷◌}
use mathlib.Core.Bool.{Bool, true, false, not}
use native.Mathlib.Omega.{arith}
use lib.ListN.{length, get_or, drop}
use borrow.Author.Tests.{ltb-true, ltb-false, leb-true, leb-false, not-false}
use Rattle.rules.specs.Words.{◌<?◌, ◌≤?◌, within}
use Rattle.rules.specs.Sheet.{Step, Task, Sheet, no_task, task_at}
use Rattle.rules.specs.Reading.{Reading, read, refused, ◌>>=◌, refuse◌of◌at◌when◌, byte, word, read_head, TaskHead, head_length, read_task_head, known, step_of, misplaced, read_step, read_steps, read_task, read_tasks, read_sheet}
use Rattle.rules.specs.declared.Head.{Head}
use Rattle.rules.proofs.Laws.{and_left, and_right}

-- what was read in two parts was read in the first
pub both_read : {A B : Type 0} (r : Reading A) (f : A → Reading B) (x : B) → (r >>= f) ≡ read x → (y : A) × (r ≡ read y) × (f y ≡ read x)
unfolding ◌>>=◌
both_read (read y) f x e = (y, refl, e)
both_read (refused z) f x e = absurd (let c : ◌≡◌ {A = ℕ} 0 1 = cc in omega arith)

-- what was read behind a test passed it
pub passed : {B : Type 0} (number rank step : ℕ) (test : Bool) (rest : Reading B) (x : B) → (refuse◌of◌at◌when◌ number rank step test >>= λ u. rest) ≡ read x → (test ≡ false) × (rest ≡ read x)
unfolding ◌>>=◌ refuse◌of◌at◌when◌
passed number rank step true rest x e = absurd (let c : ◌≡◌ {A = ℕ} 0 1 = cc in omega arith)
passed number rank step false rest x e = (refl, e)

-- what was read is one thing
pub got : {A : Type 0} (x y : A) → read x ≡ read y → x ≡ y
got x y e = cc

-- a number that was not turned away for its range lies in it: from below,
pub within_from : (low high x : ℕ) → not (within low high x) ≡ false → low ≤ x
unfolding within
within_from low high x e = leb-true low x (and_left (low ≤? x) (x ≤? high) (not-false (within low high x) e))

-- and from above
pub within_to : (low high x : ℕ) → not (within low high x) ≡ false → x ≤ high
unfolding within
within_to low high x e = leb-true x high (and_right (low ≤? x) (x ≤? high) (not-false (within low high x) e))

-- what the head of a sheet that was read passed
pub record HeadPassed (bytes : List ℕ) (head : Head) : Type 0 where
  pub long : 8 ≤ length bytes
  pub some : 1 ≤ head.n
  pub few : head.n ≤ 16
  pub semaphores : head.semaphores ≤ 16
  pub mode : head.mode ≤ 1

pub head_passed : (bytes : List ℕ) (head : Head) → read_head bytes ≡ read head → HeadPassed bytes head
unfolding read_head
head_passed bytes head e =
    let past1 = passed 1 0 0 (length bytes <? 8) _ head e in
    let past3 = passed 3 0 0 _ _ head (passed 2 0 0 _ _ head past1.1).1 in
    let past4 = passed 4 0 0 (not (within 1 16 (byte bytes 5))) _ head past3.1 in
    let past5 = passed 5 0 0 (16 <? byte bytes 6) _ head past4.1 in
    let past6 = passed 6 0 0 (1 <? byte bytes 7) _ head past5.1 in
    subst (HeadPassed bytes) (got _ head past6.1) (record {
      long = ltb-false (length bytes) 8 past1.0;
      some = within_from 1 16 (byte bytes 5) past4.0;
      few = within_to 1 16 (byte bytes 5) past4.0;
      semaphores = ltb-false 16 (byte bytes 6) past5.0;
      mode = ltb-false 1 (byte bytes 7) past6.0;
    })

-- what the head of a task that was read passed
pub record TaskHeadPassed (head : Head) (bytes : List ℕ) (own : TaskHead) : Type 0 where
  pub period_from : 1 ≤ own.period
  pub period_to : own.period ≤ 10000
  pub offset : own.offset < own.period
  pub count_from : 1 ≤ own.count
  pub count_to : own.count ≤ 64
  pub whole : head_length head + 3 * own.count ≤ length bytes

pub task_head_passed : (head : Head) (i : ℕ) (bytes : List ℕ) (own : TaskHead) → read_task_head head i bytes ≡ read own
    → TaskHeadPassed head bytes own
unfolding read_task_head
task_head_passed head i bytes own e =
    let period = word bytes 0 in
    let offset = word bytes 2 in
    let count = byte bytes 4 in
    let past8 = passed 8 i 0 (not (within 1 10000 period)) _ own (passed 7 i 0 _ _ own e).1 in
    let past9 = passed 9 i 0 (not (offset <? period)) _ own past8.1 in
    let past10 = passed 10 i 0 (not (within 1 64 count)) _ own past9.1 in
    let past7 = passed 7 i 0 (length bytes <? head_length head + 3 * count) _ own past10.1 in
    subst (TaskHeadPassed head bytes) (got _ own past7.1) (record {
      period_from = within_from 1 10000 period past8.0;
      period_to = within_to 1 10000 period past8.0;
      offset = ltb-true offset period (not-false (offset <? period) past9.0);
      count_from = within_from 1 64 count past10.0;
      count_to = within_to 1 64 count past10.0;
      whole = ltb-false (length bytes) (head_length head + 3 * count) past7.0;
    })

-- what a step that was read passed: it is known, and well placed
pub record StepPassed (m : ℕ) (before : List Step) (bytes : List ℕ) (step : Step) : Type 0 where
  pub there : step ≡ step_of (byte bytes 0) (word bytes 1)
  pub known : not (known m (byte bytes 0) (word bytes 1)) ≡ false
  pub placed : misplaced before step ≡ false

pub step_passed : (m i : ℕ) (before : List Step) (bytes : List ℕ) (step : Step) → read_step m i before bytes ≡ read step
    → StepPassed m before bytes step
unfolding read_step
step_passed m i before bytes step e =
    let past11 = passed 11 i (length before) (not (known m (byte bytes 0) (word bytes 1))) _ step e in
    let past12 = passed 12 i (length before) (misplaced before (step_of (byte bytes 0) (word bytes 1))) _ step past11.1 in
    subst (StepPassed m before bytes) (got _ step past12.1) (record { there = refl; known = past11.0; placed = past12.0 })

-- what a task that was read went through: its head and its steps
pub record TaskRead (head : Head) (i : ℕ) (bytes : List ℕ) (x : Task × List ℕ) : Type 0 where
  pub own : TaskHead
  pub passed : TaskHeadPassed head bytes own
  pub period : x.0.period ≡ own.period
  pub offset : x.0.offset ≡ own.offset
  pub steps : read_steps head.semaphores i own.count [] (drop (head_length head) bytes) ≡ read x.0.steps
  pub rest : x.1 ≡ drop (head_length head + 3 * own.count) bytes

pub task_read : (head : Head) (i : ℕ) (bytes : List ℕ) (x : Task × List ℕ) → read_task head i bytes ≡ read x
    → TaskRead head i bytes x
unfolding read_task
task_read head i bytes x e =
    let one = both_read (read_task_head head i bytes) _ x e in
    let own = one.0 in
    let steps = both_read (read_steps head.semaphores i own.count [] (drop (head_length head) bytes)) _ x one.2 in
    subst (TaskRead head i bytes) (got _ x steps.2) (record {
      own = own;
      passed = task_head_passed head i bytes own one.1;
      period = refl;
      offset = refl;
      steps = steps.1;
      rest = refl;
    })

-- as many tasks are read as are asked for
pub tasks_length : (head : Head) (i n : ℕ) (bytes : List ℕ) (x : List Task × List ℕ) → read_tasks head i n bytes ≡ read x
    → length x.0 ≡ n
unfolding read_tasks
tasks_length head i zero bytes x e = ap (λ (y : List Task × List ℕ). length y.0) (sym (got ([], bytes) x e))
tasks_length head i (suc n) bytes x e =
    let one = both_read (read_task head i bytes) _ x e in
    let more = both_read (read_tasks head (i + 1) n one.0.1) _ x one.2 in
    ap (λ (y : List Task × List ℕ). length y.0) (sym (got (one.0.0 ∷ more.0.0, more.0.1) x more.2))
    ∙ ap suc (tasks_length head (i + 1) n one.0.1 more.0 more.1)

-- what holds of every task that is read
module _ (P : Task → Type 0) (head : Head)
    (read-task : (i : ℕ) (bytes : List ℕ) (x : Task × List ℕ) → read_task head i bytes ≡ read x → P x.0) where
  Each : List Task → Type 0
  Each tasks = (j : ℕ) → j < length tasks → P (get_or tasks j no_task)

  each_cons : (task : Task) (tasks : List Task) → P task → Each tasks → Each (task ∷ tasks)
  unfolding Each
  each_cons task tasks e h zero l = e
  each_cons task tasks e h (suc j) l = h j (omega arith)

  each_read : (i n : ℕ) (bytes : List ℕ) (x : List Task × List ℕ) → read_tasks head i n bytes ≡ read x → Each x.0
  unfolding read_tasks Each
  each_read i zero bytes x e = λ j l. absurd (omega (arith, tasks_length head i zero bytes x e))
  each_read i (suc n) bytes x e =
      let one = both_read (read_task head i bytes) _ x e in
      let more = both_read (read_tasks head (i + 1) n one.0.1) _ x one.2 in
      subst (λ (y : List Task × List ℕ). Each y.0) (got (one.0.0 ∷ more.0.0, more.0.1) x more.2)
      (each_cons one.0.0 more.0.0 (read-task i bytes one.0 one.1) (each_read (i + 1) n one.0.1 more.0 more.1))

-- what an accepted sheet went through: its head, its tasks, and nothing behind them
pub record Accepted (bytes : List ℕ) (sheet : Sheet) : Type 0 where
  pub head : Head
  pub passed : HeadPassed bytes head
  pub semaphores : sheet.semaphores ≡ head.semaphores
  pub mode : sheet.mode ≡ head.mode
  pub rest : List ℕ
  pub tasks : read_tasks head 0 head.n (drop 8 bytes) ≡ read (sheet.tasks, rest)
  pub ends : length rest ≡ 0

-- every accepted sheet went through these
pub accepted : (bytes : List ℕ) (sheet : Sheet) → read_sheet bytes ≡ read sheet → Accepted bytes sheet
unfolding read_sheet
accepted bytes sheet e =
    let one = both_read (read_head bytes) _ sheet e in
    let head = one.0 in
    let tasks = both_read (read_tasks head 0 head.n (drop 8 bytes)) _ sheet one.2 in
    let past13 = passed 13 0 0 (1 ≤? length tasks.0.1) _ sheet tasks.2 in
    subst (Accepted bytes) (got _ sheet past13.1) (record {
      head = head;
      passed = head_passed bytes head one.1;
      semaphores = refl;
      mode = refl;
      rest = tasks.0.1;
      tasks = tasks.1;
      ends = omega (arith, leb-false 1 (length tasks.0.1) past13.0);
    })

-- the task count of its head is that of its tasks
pub sheet_count : (bytes : List ℕ) (sheet : Sheet) (α : Accepted bytes sheet) → length sheet.tasks ≡ α.head.n
sheet_count bytes sheet α = tasks_length α.head 0 α.head.n (drop 8 bytes) (sheet.tasks, α.rest) α.tasks

-- which is at most sixteen
pub sheet_few : (bytes : List ℕ) (sheet : Sheet) → read_sheet bytes ≡ read sheet → length sheet.tasks ≤ 16
sheet_few bytes sheet e = let α = accepted bytes sheet e in omega (arith, α.passed.few, sheet_count bytes sheet α)

-- what holds of every task that is read holds of each task of an accepted sheet, with its semaphore count
pub each_task_of : (P : ℕ → Task → Type 0)
    → ((head : Head) (i : ℕ) (bytes : List ℕ) (x : Task × List ℕ) → read_task head i bytes ≡ read x → P head.semaphores x.0)
    → (bytes : List ℕ) (sheet : Sheet) → read_sheet bytes ≡ read sheet → (i : ℕ) → i < length sheet.tasks → P sheet.semaphores (task_at sheet i)
unfolding task_at Each
each_task_of P h bytes sheet e i l =
    let α = accepted bytes sheet e in
    let head = α.head in
    subst (λ (m : ℕ). P m (task_at sheet i)) (sym α.semaphores)
    (each_read (P head.semaphores) head (h head) 0 head.n (drop 8 bytes) (sheet.tasks, α.rest) α.tasks i l)

-- the period of each task is at least 1
pub periods : (bytes : List ℕ) (sheet : Sheet) → read_sheet bytes ≡ read sheet → (i : ℕ) → i < length sheet.tasks → 1 ≤ (task_at sheet i).period
periods = each_task_of (λ m task. 1 ≤ task.period)
    (λ head i bytes x e. let τ = task_read head i bytes x e in omega (arith, τ.period, τ.passed.period_from))
