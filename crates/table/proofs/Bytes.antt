-- An accepted sheet is read again from its own bytes.
use Rattle.std.proofs.Common.{ℕ, suc, ◌+◌, ◌*◌, ◌/◌, ◌%◌, ◌≤◌, ◌<◌, ◌≡◌, refl, sym, ap, ◌∙◌, Bool, true, false, not, List, [], ◌∷◌, ◌++◌, length, get_or, drop, flat_map, append_assoc, append-nil, length-append, drop_at, arith, le-ltb, lt-ltb, le-leb}
use borrow.Author.Tests.{not-true}
use Rattle.rules.specs.Words.{◌≤?◌, within}
use Rattle.rules.specs.Sheet.{Step, run, lock, unlock, Task, Sheet, no_task, task_at, held}
use Rattle.rules.specs.Reading.{Reading, read, ◌>>=◌, refuse◌of◌at◌when◌, byte, word, marked, read_head, head_length, read_task_head, known, step_of, misplaced, read_step, read_steps, read_task, read_tasks, read_sheet}
use Rattle.rules.specs.Laws.{All, StepLimits, TaskLimits, Limits, placed}
use Rattle.rules.specs.declared.Head.{Head}
use Rattle.rules.proofs.Laws.{and_left, and_right}
use Rattle.rules.proofs.Nesting.{nesting}
use Rattle.rules.proofs.Limits.{accepted_within_limits}
use Rattle.table.specs.Bytes.{big, step_bytes, task_bytes, sheet_bytes}

-- a number by its two bytes
whole : (n : ℕ) → n / 256 * 256 + n % 256 ≡ n
whole n = omega arith

-- a test that is passed
passes : {B : Type 0} (number rank step : ℕ) (test : Bool) (rest : Reading B) → test ≡ false → (refuse◌of◌at◌when◌ number rank step test >>= λ u. rest) ≡ rest
unfolding ◌>>=◌ refuse◌of◌at◌when◌
passes number rank step test rest e = rw e refl

-- a number in a range is not turned away for it
lies_in : (low high x : ℕ) → low ≤ x → x ≤ high → not (within low high x) ≡ false
unfolding within
lies_in low high x from to = rw (le-leb low x from, le-leb x high to) refl

-- a step that keeps its limits and is well placed is read from its bytes
step_again : (m i : ℕ) (before : List Step) (x : Step) (more : List ℕ) → StepLimits m x → misplaced before x ≡ false
    → read_step m i before (step_bytes x ++ more) ≡ read x
unfolding read_step known step_of step_bytes big byte word within
step_again m i before (run n) more h e = rw (whole n) (passes 11 i (length before) _ _ (lies_in 1 1000 n h.0 h.1) ∙ passes 12 i (length before) _ _ e)
step_again m i before (lock s) more h e = rw (whole s) (passes 11 i (length before) _ _ (ap not (lt-ltb s m h)) ∙ passes 12 i (length before) _ _ e)
step_again m i before (unlock s) more h e = rw (whole s) (passes 11 i (length before) _ _ (ap not (lt-ltb s m h)) ∙ passes 12 i (length before) _ _ e)

-- a step has three bytes
behind_step : (x : Step) (more : List ℕ) → drop 3 (step_bytes x ++ more) ≡ more
unfolding step_bytes big
behind_step (run n) more = refl
behind_step (lock s) more = refl
behind_step (unlock s) more = refl

-- steps have three for each
steps_long : (steps : List Step) → length (flat_map step_bytes steps) ≡ 3 * length steps
unfolding step_bytes big
steps_long [] = refl
steps_long (run n ∷ steps) = omega (arith, steps_long steps)
steps_long (lock s ∷ steps) = omega (arith, steps_long steps)
steps_long (unlock s ∷ steps) = omega (arith, steps_long steps)

-- steps that keep their limits and are well placed, behind others
steps_again : (m i : ℕ) (before steps : List Step) (more : List ℕ) → All (StepLimits m) steps → placed before steps ≡ true
    → read_steps m i (length steps) before (flat_map step_bytes steps ++ more) ≡ read (before ++ steps)
unfolding read_steps placed ◌>>=◌
steps_again m i before [] more h p =
    passes 12 i (length before) _ _ (not-true (1 ≤? length (held before)) p) ∙ ap read (sym (append-nil before))
steps_again m i before (x ∷ steps) more h p =
    let others = flat_map step_bytes steps ++ more in
    let here = not-true (misplaced before x) (and_left (not (misplaced before x)) _ p) in
    let there = and_right (not (misplaced before x)) (placed (before ++ (x ∷ [])) steps) p in
    rw (append_assoc (step_bytes x) (flat_map step_bytes steps) more, behind_step x others, step_again m i before x others h.0 here)
    (steps_again m i (before ++ (x ∷ [])) steps more h.1 there ∙ ap read (append_assoc before (x ∷ []) steps))

-- the head of a task that keeps its limits
task_head_again : (head : Head) (i : ℕ) (task : Task) (more : List ℕ) → TaskLimits head.semaphores task
    → read_task_head head i (task_bytes task ++ more) ≡ read (record { period = task.period; offset = task.offset; count = length task.steps })
unfolding read_task_head head_length task_bytes big byte word
task_head_again head i task more h =
    let steps = flat_map step_bytes task.steps in
    let long : 5 + 3 * length task.steps ≤ 5 + length (steps ++ more) = omega (arith, steps_long task.steps, length-append steps more) in
    rw (whole task.period, whole task.offset) (
    passes 7 i 0 _ _ (le-ltb _ 5 (omega arith))
    ∙ passes 8 i 0 _ _ (lies_in 1 10000 task.period h.period_from h.period_to)
    ∙ passes 9 i 0 _ _ (ap not (lt-ltb task.offset task.period h.offset))
    ∙ passes 10 i 0 _ _ (lies_in 1 64 (length task.steps) h.steps_from h.steps_to)
    ∙ passes 7 i 0 _ _ (le-ltb _ (5 + 3 * length task.steps) (omega arith)))

-- such a task, and the bytes behind it
task_again : (head : Head) (i : ℕ) (task : Task) (more : List ℕ) → TaskLimits head.semaphores task
    → read_task head i (task_bytes task ++ more) ≡ read (task, more)
unfolding read_task head_length ◌>>=◌ task_bytes big
task_again head i task more h =
    let long = steps_long task.steps in
    rw (
      task_head_again head i task more h,
      steps_again head.semaphores i [] task.steps more h.steps ((nesting task.steps).1 h.body),
      drop_at (task_bytes task) more (5 + 3 * length task.steps) (omega (arith, long)),
    ) refl

-- such tasks, and the bytes behind them
tasks_again : (head : Head) (i : ℕ) (tasks : List Task) (more : List ℕ)
    → ((j : ℕ) → j < length tasks → TaskLimits head.semaphores (get_or tasks j no_task))
    → read_tasks head i (length tasks) (flat_map task_bytes tasks ++ more) ≡ read (tasks, more)
unfolding read_tasks ◌>>=◌
tasks_again head i [] more h = refl
tasks_again head i (task ∷ tasks) more h =
    let others = flat_map task_bytes tasks ++ more in
    rw (
      append_assoc (task_bytes task) (flat_map task_bytes tasks) more,
      task_again head i task others (h 0 (omega arith)),
      tasks_again head (i + 1) tasks more (λ j l. h (suc j) (omega arith)),
    ) refl

-- the head of a sheet that keeps its limits
head_again : (sheet : Sheet) → 1 ≤ length sheet.tasks → length sheet.tasks ≤ 16 → sheet.semaphores ≤ 16 → sheet.mode ≤ 1
    → read_head (sheet_bytes sheet) ≡ read (record { n = length sheet.tasks; semaphores = sheet.semaphores; mode = sheet.mode })
unfolding read_head sheet_bytes marked byte word
head_again sheet from to semaphores mode =
    passes 1 0 0 _ _ (le-ltb _ 8 (omega arith))
    ∙ passes 2 0 0 _ _ refl
    ∙ passes 3 0 0 _ _ refl
    ∙ passes 4 0 0 _ _ (lies_in 1 16 (length sheet.tasks) from to)
    ∙ passes 5 0 0 _ _ (le-ltb 16 sheet.semaphores semaphores)
    ∙ passes 6 0 0 _ _ (le-ltb 1 sheet.mode mode)

-- THE LAW: a sheet that keeps document 01's limits is read from its bytes
pub limits_read : (bytes : List ℕ) (sheet : Sheet) → Limits bytes sheet → read_sheet (sheet_bytes sheet) ≡ read sheet
unfolding read_sheet ◌>>=◌ task_at sheet_bytes
limits_read bytes sheet limits =
    let head : Head = record { n = length sheet.tasks; semaphores = sheet.semaphores; mode = sheet.mode } in
    let tasks : read_tasks head 0 head.n (flat_map task_bytes sheet.tasks) ≡ read (sheet.tasks, []) =
    ap (read_tasks head 0 head.n) (sym (append-nil (flat_map task_bytes sheet.tasks))) ∙ tasks_again head 0 sheet.tasks [] limits.each in
    rw (head_again sheet limits.tasks_from limits.tasks_to limits.semaphores limits.mode, tasks) (passes 13 0 0 _ _ refl)

-- so whatever bytes a sheet was read from, its own are read as it too
pub read_again : (bytes : List ℕ) (sheet : Sheet) → read_sheet bytes ≡ read sheet → read_sheet (sheet_bytes sheet) ≡ read sheet
read_again bytes sheet e = limits_read bytes sheet (accepted_within_limits bytes sheet e)
