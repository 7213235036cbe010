-- Laws of the longest of many sections, of the first that gives a bound, and of a bound.
use Rattle.std.proofs.Common.{ℕ, zero, suc, ◌+◌, ◌-◌, ◌≤◌, ◌<◌, max, ◌≡◌, refl, sym, ap, ◌∙◌, List, [], ◌∷◌, Bool, true, false, ◌&&◌, length, get_or, drop, take, map, arith, if◌then◌else◌, Option, Some, None, unwrap_or, add-one}
use mathlib.Core.Logic.{⊎_elim}
use Rattle.std.proofs.lemmas.List.{get_or_past, get_or-drop, take_all, length-drop}
use borrow.Author.Tests.{lt-ltb, le-ltb, ne_eqb, eq-eqb}
use Rattle.std.specs.Option.{MatchOption}
use Rattle.std.specs.Ordering.{ord_max}
use Rattle.std.proofs.Common.{nat_cmp}
use Rattle.std.proofs.lemmas.Bool.Decides.{nat_tests}
use Rattle.rules.specs.Words.{◌=?◌, some, smallest, largest}
use Rattle.rules.specs.Sheet.{Step, run, lock, unlock, Sheet, Task, task_at, no_task}
use Rattle.rules.specs.Bounds.{runs, cost, section_length, begins, steps_from, is_counted, counted_length, bound, gives, bound_by, section}
use Rattle.rules.proofs.Laws.{below, if_cases, and_at, some_of, none_of, smallest_found, smallest_is, smallest_none, smallest_same, largest_same}
use Rattle.table.specs.Tasks.{task_of}
use Rattle.table.specs.declared.task.Task.{Task as Table·Task}
use Rattle.table.proofs.Laws.{drop_past, many_tasks, task_read}
use Rattle.bounds.proofs.Steps.{inside_le, runs_drop}
use Rattle.bounds.specs.Sections.{counts, counted_section, longest_section, first_giving}

-- the larger of two numbers, as `max` picks it
max_is : (a b : ℕ) → ord_max nat_cmp a b ≡ max a b
max_is a b = grind (arith, nat_tests)

-- the largest of values: one more, none, and none behind the last
pub largest_turn : (f : ℕ → ℕ) (k best v r : ℕ) → best ≡ largest k f → v ≡ f k → r ≡ ord_max nat_cmp best v → r ≡ largest (k + 1) f
unfolding largest
largest_turn f k best v r eb ev er = er ∙ max_is best v ∙ rw (eb, ev, add-one k) refl

largest_none : (n : ℕ) (f : ℕ → ℕ) → ((k : ℕ) → k < n → f k ≡ 0) → largest n f ≡ 0
unfolding largest
largest_none zero f h = refl
largest_none (suc n) f h = omega (arith, largest_none n f (λ k l. h k (omega arith)), h n (omega arith))

largest_end : (n m : ℕ) (f : ℕ → ℕ) → n ≤ m → ((k : ℕ) → n ≤ k → f k ≡ 0) → largest n f ≡ largest m f
unfolding largest
largest_end n zero f l h = let e : n ≡ 0 = omega arith in rw e refl
largest_end n (suc m) f l h = ⊎_elim
    (λ u. omega (arith, largest_end n m f (omega arith) h, h m (omega arith)))
    (λ u. let e : n ≡ suc m = omega arith in rw e refl)
    (below n (suc m))

largest_few : (n : ℕ) (f : ℕ → ℕ) (m : ℕ) → ((k : ℕ) → f k ≤ m) → largest n f ≤ m
unfolding largest
largest_few zero f m h = omega arith
largest_few (suc n) f m h = omega (arith, largest_few n f m h, h n)

-- no section is longer than its task, so no bound is above every cost
section_few : (steps : List Step) → section_length steps ≤ runs steps
unfolding section_length runs
section_few [] = omega arith
section_few (run n ∷ steps) = omega arith
section_few (lock s ∷ steps) = inside_le s steps
section_few (unlock s ∷ steps) = omega arith

pub bound_few : (sheet : Sheet) (m : ℕ) → ((j : ℕ) → cost (task_at sheet j) ≤ m) → (i : ℕ) → bound sheet i ≤ m
unfolding bound counted_length steps_from cost
bound_few sheet m h i = largest_few 16 _ m (λ j. largest_few 64 _ m (λ k.
    if_cases (λ n. n ≤ m) (is_counted sheet i j k) _ _
    (λ e. omega (arith, section_few (drop k (task_at sheet j).steps), runs_drop (task_at sheet j).steps k, h j))
    (λ e. omega arith)))

-- past a task's last step nothing begins
module _ (sheet : Sheet) (i : ℕ) (steps : List Step) where
  counts_past : (k : ℕ) → length steps ≤ k → counts sheet i (drop k steps) ≡ false
  unfolding counts begins
  counts_past k l = rw (drop_past steps k l) refl

  section_past : (k : ℕ) → length steps ≤ k → unwrap_or (counted_section sheet i (drop k steps)) 0 ≡ 0
  unfolding counted_section
  section_past k l = rw (counts_past k l) refl

  pub longest_begin : 0 ≡ largest 0 (λ k. unwrap_or (counted_section sheet i (drop k steps)) 0)
  unfolding largest
  longest_begin = refl

  pub longest_end : (n best : ℕ) → n ≡ length steps → n ≤ 64 → best ≡ largest n (λ k. unwrap_or (counted_section sheet i (drop k steps)) 0) → best ≡ longest_section sheet i steps
  unfolding longest_section
  longest_end n best e l eb = eb ∙ largest_end n 64 _ l (λ k m. section_past k (omega arith))

  -- a section gives a bound where its length is that many ticks
  abbrev pub gives_here : (ticks k : ℕ) → Bool
  gives_here ticks k = counts sheet i (drop k steps) && section_length (drop k steps) =? ticks

  module _ (ticks : ℕ) (n : ℕ) (all : n ≡ length steps) (few : n ≤ 64) where
    abbrev At : ℕ → Type 0
    At k = counted_section sheet i (drop k steps) ≡ Some ticks

    here : (k : ℕ) → At k → gives_here ticks k ≡ true
    unfolding counted_section
    here k = go (counts sheet i (drop k steps)) (section_length (drop k steps))
      where
        go : (b : Bool) (m : ℕ) → (if b then Some m else None) ≡ Some ticks → (b && m =? ticks) ≡ true
        go true m e = let z : m ≡ ticks = cc in eq-eqb m ticks z
        go false m e = cc

    not_here : (k : ℕ) → (At k → ⊥) → gives_here ticks k ≡ false
    unfolding counted_section
    not_here k = go (counts sheet i (drop k steps)) (section_length (drop k steps))
      where
        go : (b : Bool) (m : ℕ) → ((if b then Some m else None) ≡ Some ticks → ⊥) → (b && m =? ticks) ≡ false
        go true m h = ne_eqb m ticks (λ z. h (ap Some z))
        go false m h = refl

    past : (k : ℕ) → n ≤ k → gives_here ticks k ≡ false
    past k l = rw (counts_past k (omega arith)) refl

    -- the first position that a look at each finds
    pub first_found : (r : Option ℕ) → MatchOption r ((k : ℕ) → 0 ≤ k → k < n → At k → ⊥) (λ k. (0 ≤ k) × (k < n) × At k × ((x : ℕ) → 0 ≤ x → x < k → At x → ⊥)) → r ≡ first_giving sheet i ticks steps
    unfolding first_giving
    first_found None h = rw (smallest_none 64 255 (gives_here ticks) (λ k l. ⊎_elim (λ u. not_here k (h k (omega arith) u)) (past k) (below k n))) refl
    first_found (Some k) h = rw (smallest_is 64 255 (gives_here ticks) k (omega (arith, h.1)) (here k h.2) (λ x l. not_here x (h.3 x (omega arith) l)), ne_eqb k 255 (λ z. omega (arith, h.1))) refl

-- the longest section of task j that counts for task i
unfoldable pub longest_of : Sheet → (i j : ℕ) → ℕ
longest_of sheet i j = largest 64 (counted_length sheet i j)

-- the tasks from a rank on, as a slice has them
module _ (sheet : Sheet) (tasks : List Table·Task) (all : map task_of tasks ≡ sheet.tasks) (n : ℕ) where
  abbrev rest : List Table·Task
  rest = take (length tasks - n) (drop n tasks)

  rest_is : rest ≡ drop n tasks
  rest_is = take_all (length tasks - n) (drop n tasks) (omega (arith, length-drop n tasks))

  pub rest_length : n ≤ length tasks → n + length rest ≡ length sheet.tasks
  rest_length l = omega (arith, ap length rest_is, length-drop n tasks, many_tasks sheet tasks all)

  pub rest_task : (t : ℕ) (task : Table·Task) → t < length rest → task ≡ get_or rest t task → task_of task ≡ task_at sheet (n + t)
  rest_task t task l e =
      task_read sheet tasks all (n + t) (omega (arith, ap length rest_is, length-drop n tasks)) task
      (e ∙ ap (λ (xs : List Table·Task). get_or xs t task) rest_is ∙ get_or-drop n tasks t task)

module _ (sheet : Sheet) (i : ℕ) where
  -- a task up to i has none
  not_counted : (j k : ℕ) → j ≤ i → is_counted sheet i j k ≡ false
  unfolding is_counted
  not_counted j k l = rw (le-ltb i j l) refl

  is_counts : (j k : ℕ) → i < j → is_counted sheet i j k ≡ counts sheet i (drop k (task_at sheet j).steps)
  unfolding is_counted counts steps_from
  is_counts j k l = rw (lt-ltb i j l) refl

  longest_none : (j : ℕ) → j ≤ i → longest_of sheet i j ≡ 0
  unfolding longest_of counted_length
  longest_none j l = largest_none 64 _ (λ k m. rw (not_counted j k l) refl)

  pub longest_is : (j : ℕ) → i < j → longest_section sheet i (task_at sheet j).steps ≡ longest_of sheet i j
  unfolding longest_of longest_section counted_length counted_section steps_from
  longest_is j l = largest_same 64 _ _ (λ k. rw (is_counts j k l) (go (counts sheet i (drop k (task_at sheet j).steps)) _))
    where
      go : (b : Bool) (n : ℕ) → unwrap_or (if b then Some n else None) 0 ≡ (if b then n else 0)
      go true n = refl
      go false n = refl

  pub task_past : (j : ℕ) → length sheet.tasks ≤ j → task_at sheet j ≡ no_task
  unfolding task_at
  task_past j l = get_or_past sheet.tasks j no_task l

  longest_past : (j : ℕ) → length sheet.tasks ≤ j → longest_of sheet i j ≡ 0
  longest_past j l = ⊎_elim
      (λ u. sym (longest_is j u) ∙ rw (task_past j l) (sym (longest_end sheet i [] 0 0 refl (omega arith) (longest_begin sheet i []))))
      (longest_none j)
      (below i j)

  pub bound_begin : 0 ≡ largest (i + 1 + 0) (longest_of sheet i)
  bound_begin = sym (largest_none (i + 1 + 0) (longest_of sheet i) (λ j l. longest_none j (omega arith)))

  pub bound_turn : (t : ℕ) (task : Task) (best v r : ℕ) → task ≡ task_at sheet (i + 1 + t) → best ≡ largest (i + 1 + t) (longest_of sheet i) → v ≡ longest_section sheet i task.steps → r ≡ ord_max nat_cmp best v
      → r ≡ largest (i + 1 + (t + 1)) (longest_of sheet i)
  bound_turn t task best v r et eb ev er =
      largest_turn (longest_of sheet i) (i + 1 + t) best v r eb (ev ∙ ap (λ (x : Task). longest_section sheet i x.steps) et ∙ longest_is (i + 1 + t) (omega arith)) er
      ∙ ap (λ (n : ℕ). largest n (longest_of sheet i)) (let e : i + 1 + t + 1 ≡ i + 1 + (t + 1) = omega arith in e)

  pub bound_end : (n best : ℕ) → n ≡ length sheet.tasks → n ≤ 16 → best ≡ largest n (longest_of sheet i) → best ≡ bound sheet i
  unfolding bound longest_of
  bound_end n best e l eb = eb ∙ largest_end n 16 (longest_of sheet i) l (λ j m. longest_past j (omega arith))

  -- what gives a bound of so many ticks
  module _ (ticks : ℕ) where
    gives_is : (j k : ℕ) → i < j → gives_here sheet i (task_at sheet j).steps ticks k ≡ gives sheet i ticks j k
    unfolding gives steps_from
    gives_is j k l = rw (is_counts j k l) refl

    first_is : (j : ℕ) → i < j → first_giving sheet i ticks (task_at sheet j).steps ≡ (let k = smallest 64 255 (gives sheet i ticks j) in if k =? 255 then None else Some k)
    unfolding first_giving
    first_is j l = ap (λ (k : ℕ). if k =? 255 then None else Some k) (smallest_same 64 255 _ _ (λ k m. gives_is j k l))

    pub by_begin : (x : ℕ) → x < i + 1 → some 64 (gives sheet i ticks x) ≡ false
    unfolding gives
    by_begin x l = none_of 64 _ (λ k m. rw (not_counted x k (omega arith)) refl)

    module _ (j : ℕ) (l : i < j) (h : (x : ℕ) → x < j → some 64 (gives sheet i ticks x) ≡ false) where
      -- the first task that has a section which gives the bound
      pub by_found : j < 16 → (k : ℕ) → Some k ≡ first_giving sheet i ticks (task_at sheet j).steps → ticks ≡ bound sheet i → Some (section j k) ≡ bound_by sheet i
      unfolding bound_by
      by_found m k e et = ⊎_elim
          (λ w.
          let one : (smallest 64 255 (gives sheet i ticks j) =? 255) ≡ false = ne_eqb _ 255 (λ z. omega (arith, w.0)) in
          let same : Some k ≡ Some (smallest 64 255 (gives sheet i ticks j)) = e ∙ first_is j l ∙ rw one refl in
          let at : k ≡ smallest 64 255 (gives sheet i ticks j) = cc in
          let rank = smallest_is 16 255 (λ x. some 64 (gives sheet i ticks x)) j m (some_of 64 (gives sheet i ticks j) _ w.0 w.1) h in
          rw (← et, rank, ne_eqb j 255 (λ z. omega arith), at) refl)
          (λ w. let none : Some k ≡ None = e ∙ first_is j l ∙ rw w.0 refl in cc)
          (smallest_found 64 255 (gives sheet i ticks j))

      -- this task has none
      pub by_turn : None ≡ first_giving sheet i ticks (task_at sheet j).steps → (x : ℕ) → x < j + 1 → some 64 (gives sheet i ticks x) ≡ false
      by_turn e x m = and_at (λ x. some 64 (gives sheet i ticks x) ≡ false) j h (⊎_elim
          (λ w.
          let one : (smallest 64 255 (gives sheet i ticks j) =? 255) ≡ false = ne_eqb _ 255 (λ z. omega (arith, w.0)) in
          let same : None ≡ Some (smallest 64 255 (gives sheet i ticks j)) = e ∙ first_is j l ∙ rw one refl in cc)
          (λ w. none_of 64 (gives sheet i ticks j) w.1)
          (smallest_found 64 255 (gives sheet i ticks j))) x (omega arith)

    gives_past : (j k : ℕ) → length sheet.tasks ≤ j → gives sheet i ticks j k ≡ false
    unfolding gives
    gives_past j k l = ⊎_elim
        (λ u. rw (is_counts j k u, task_past j l, counts_past sheet i [] k (omega arith)) refl)
        (λ u. rw (not_counted j k u) refl)
        (below i j)

    pub by_none : (j : ℕ) → ticks ≡ bound sheet i → length sheet.tasks ≤ j → ((x : ℕ) → x < j → some 64 (gives sheet i ticks x) ≡ false) → None ≡ bound_by sheet i
    unfolding bound_by
    by_none j et l h =
        rw (← et, smallest_none 16 255 (λ x. some 64 (gives sheet i ticks x)) (λ x m. ⊎_elim (h x) (λ u. none_of 64 (gives sheet i ticks x) (λ k n. gives_past x k (omega arith))) (below x j))) refl
