-- An accepted sheet keeps document 01's limits.
use Prim.Native.Nat.{ℕ, zero, suc, ◌+◌, ◌-◌, ◌*◌, ◌≤◌, ◌<◌}
use mathlib.Core.Path.{◌≡◌, refl, sym, ap, ◌∙◌, subst}
use mathlib.Core.List.{List, [], ◌∷◌, ◌++◌, append_assoc, append-nil}
use mathlib.Core.Bool.{Bool, true, false, not, ◌&&◌}
use native.Mathlib.Omega.{arith}
use native.Mathlib.Nat.{suc-mul, mul-le-mul_right}
use lib.ListN.{length, drop, length-drop}
use borrow.Author.Tests.{ltb-true, not-false}
use Rattle.std.specs.Prelude.{if◌then◌else◌}
use Rattle.rules.specs.Words.{◌<?◌, ◌=?◌, within}
use Rattle.rules.specs.Sheet.{Step, run, lock, unlock, Task}
use Rattle.rules.specs.Reading.{read, byte, word, head_length, longest_task, longest_sheet, known, step_of, read_step, read_steps, read_task, read_tasks}
use Rattle.rules.specs.Laws.{All, StepLimits, TaskLimits, LongestSheet, AcceptedWithinLimits}
use Rattle.rules.specs.declared.Head.{Head}
use Rattle.rules.proofs.Laws.{and_right}
use Rattle.rules.proofs.Reading.{both_read, passed, got, within_from, within_to, step_passed, task_read, accepted, sheet_count, each_task_of}
use Rattle.rules.proofs.Nesting.{nesting, task_placed}

-- a step whose kind and value are known keeps its limits
step_limits : (m kind value : ℕ) → not (known m kind value) ≡ false → StepLimits m (step_of kind value)
unfolding known step_of
step_limits m kind value e = first (kind =? 1) e
  where
    second : (b : Bool) → value < m → StepLimits m (if b then lock value else unlock value)
    second true l = l
    second false l = l

    first : (b : Bool) → not (if b then within 1 1000 value else within 2 3 kind && value <? m) ≡ false
        → StepLimits m (if b then run value else if kind =? 2 then lock value else unlock value)
    first true e = (within_from 1 1000 value e, within_to 1 1000 value e)
    first false e = second (kind =? 2) (ltb-true value m (and_right (within 2 3 kind) _ (not-false (within 2 3 kind && value <? m) e)))

-- the steps that were read are as many as the count says, and each keeps its limits
steps_limits : (m i n : ℕ) (before : List Step) (bytes : List ℕ) (steps : List Step) → read_steps m i n before bytes ≡ read steps
    → (more : List Step) × (steps ≡ before ++ more) × (length more ≡ n) × All (StepLimits m) more
unfolding read_steps
steps_limits m i zero before bytes steps e = ([], sym (append-nil before ∙ got before steps (passed 12 i (length before) _ _ steps e).1), refl, tt)
steps_limits m i (suc n) before bytes steps e =
    let one = both_read (read_step m i before bytes) _ steps e in
    let x = one.0 in
    let σ = step_passed m i before bytes x one.1 in
    let r = steps_limits m i n (before ++ (x ∷ [])) (drop 3 bytes) steps one.2 in
    let limits = subst (StepLimits m) (sym σ.there) (step_limits m (byte bytes 0) (word bytes 1) σ.known) in
    (x ∷ r.0, r.1 ∙ append_assoc before (x ∷ []) r.0, ap suc r.2, (limits, r.3))

-- a task that was read keeps its limits
pub task_limits : (head : Head) (i : ℕ) (bytes : List ℕ) (x : Task × List ℕ) → read_task head i bytes ≡ read x
    → TaskLimits head.semaphores x.0
task_limits head i bytes x e =
    let τ = task_read head i bytes x e in
    let π = τ.passed in
    let m = head.semaphores in
    let r = steps_limits m i τ.own.count [] (drop (head_length head) bytes) x.0.steps τ.steps in
    let many : length x.0.steps ≡ τ.own.count = ap length r.1 ∙ r.2 in
    record {
      period_from = omega (arith, τ.period, π.period_from);
      period_to = omega (arith, τ.period, π.period_to);
      offset = omega (arith, τ.period, τ.offset, π.offset);
      steps_from = omega (arith, many, π.count_from);
      steps_to = omega (arith, many, π.count_to);
      steps = subst (All (StepLimits m)) (sym r.1) r.3;
      body = (nesting x.0.steps).0 (task_placed head i bytes x e);
    }

-- a task takes at most the bytes of the longest,
task_size : (head : Head) (i : ℕ) (bytes : List ℕ) (x : Task × List ℕ) → read_task head i bytes ≡ read x
    → length bytes ≤ longest_task head + length x.1
unfolding longest_task
task_size head i bytes x e =
    let τ = task_read head i bytes x e in
    let size = head_length head + 3 * τ.own.count in
    let left : length x.1 ≡ length bytes - size = ap length τ.rest ∙ length-drop size bytes in
    omega (arith, left, τ.passed.count_to)

-- n tasks, n times that,
tasks_size : (head : Head) (i n : ℕ) (bytes : List ℕ) (x : List Task × List ℕ) → read_tasks head i n bytes ≡ read x
    → length bytes ≤ n * longest_task head + length x.1
unfolding read_tasks
tasks_size head i zero bytes x e = omega (arith, ap (λ (y : List Task × List ℕ). length y.1) (got ([], bytes) x e))
tasks_size head i (suc n) bytes x e =
    let one = both_read (read_task head i bytes) _ x e in
    let more = both_read (read_tasks head (i + 1) n one.0.1) _ x one.2 in
    let same = ap (λ (y : List Task × List ℕ). length y.1) (got (one.0.0 ∷ more.0.0, more.0.1) x more.2) in
    let first = task_size head i bytes one.0 one.1 in
    let others = tasks_size head (i + 1) n one.0.1 more.0 more.1 in
    omega (arith, suc-mul n (longest_task head), same, first, others)

-- and sixteen at most, behind the head
pub sheet_size : (head : Head) (n p : ℕ) → n ≤ 16 → p ≤ 8 + n * longest_task head → p ≤ longest_sheet head
unfolding longest_sheet
sheet_size head n p few near = omega (arith, mul-le-mul_right (longest_task head) few)

-- every field of a task's head lies in it; the step count is the last
pub fields_inside : (head : Head) → 4 < head_length head
unfolding head_length
fields_inside head = omega arith

-- THE LAW: the longest sheet is that of document 01
pub longest : LongestSheet
unfolding longest_sheet longest_task head_length
longest head = refl

-- THE LAW: an accepted sheet keeps document 01's limits
pub accepted_within_limits : AcceptedWithinLimits
accepted_within_limits bytes sheet e =
    let α = accepted bytes sheet e in
    let π = α.passed in
    let head = α.head in
    let n = sheet_count bytes sheet α in
    let tasks = tasks_size head 0 head.n (drop 8 bytes) (sheet.tasks, α.rest) α.tasks in
    let size = sheet_size head head.n (length bytes) π.few (omega (arith, tasks, α.ends, length-drop 8 bytes)) in
    record {
      tasks_from = omega (arith, n, π.some);
      tasks_to = omega (arith, n, π.few);
      semaphores = omega (arith, α.semaphores, π.semaphores);
      mode = omega (arith, α.mode, π.mode);
      each = each_task_of TaskLimits task_limits bytes sheet e;
      size = omega (arith, size, longest head);
    }
