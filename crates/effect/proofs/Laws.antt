-- Laws of the tick's effect: the steps that pass, the releases, a record and its rank, the sixteen records.
use Prim.Native.Nat.{ℕ, suc, ◌+◌, ◌-◌, ◌*◌, ◌/◌, ◌%◌, ◌≤◌, ◌<◌, min}
use mathlib.Core.Path.{◌≡◌, refl, sym, ap, ◌∙◌}
use mathlib.Core.Logic.{⊎_elim}
use mathlib.Core.Bool.{Bool, true, false, ◌&&◌}
use mathlib.Core.List.{List, [], ◌∷◌, ◌++◌, map}
use native.Mathlib.Omega.{arith}
use native.Mathlib.Nat.{add_assoc, div-add-mod'}
use lib.Arith.{digits_mod}
use lib.Dec.{eqb}
use lib.ListN.{length, take, drop, get_or, set, length-set, length-append, get_or-append}
use lib.Seq.{ext_get_or, get_or-set_same, get_or-set_other}
use borrow.Author.Count.{below_more}
use denote.Bor.{Bor}
use borrow.Author.Tests.{ltb-true, ltb-false, lt-ltb, le-ltb, lt-leb, le-leb, eq-eqb, ne_eqb, eqb-true, eqb-false}
use Rattle.std.specs.Prelude.{if◌then◌else◌, Option, Some, None}
use Rattle.std.specs.Slice.{IsItemAt}
use Rattle.std.specs.List.{prefix_len}
use Rattle.std.proofs.lemmas.List.{drop-map, drop_min, length-drop, length-map, length-take, length-take-le, take-append-drop, take_all, append-nil, get_or-take, get_or-map, get_or-drop, get_or_default, get_or-append_right, get_or_past}
use Rattle.std.proofs.lemmas.List.Edits.{map_over_more}
use Rattle.std.proofs.lemmas.List.Folds.{length-prefix_len}
use Rattle.rules.specs.Words.{◌<?◌, ◌=?◌, leading}
use Rattle.rules.specs.Sheet.{Step as Rules·Step, Task, Sheet, no_task, task_at}
use Rattle.rules.specs.Fields.{up, blank, with_tasks}
use Rattle.rules.specs.Record.{record_at, ahead}
use Rattle.rules.specs.Tick.{releases_at, released, after_releases, next_run, left_of_run, behind_unlocks, advanced, was_blocked, spent, after_runner}
use Rattle.rules.specs.declared.Count.TheVariants.{TicksRun}
use Rattle.rules.specs.declared.Counts.{Counts}
use Rattle.rules.specs.declared.TaskRecord.{TaskRecord}
use Rattle.rules.specs.declared.State.{State}
use Rattle.rules.specs.declared.Runner.{Runner}
use Rattle.rules.specs.declared.Runner.TheVariants.{Rank, Stuck, Idle}
use Rattle.rules.proofs.Laws.{sure, below, length_row, row_at}
use Rattle.rules.proofs.Tick.{advanced_cases, spent_at}
use Rattle.table.proofs.Laws.{drop_past, many_tasks, task_read}
use Rattle.table.specs.Steps.{said}
use Rattle.table.specs.Tasks.{task_of}
use Rattle.table.specs.declared.task.Task.{Task as Table·Task}
use Rattle.record.specs.Room.{CountsBelow, AllBelow}
use Rattle.effect.specs.Effect.{Rests, Quiet, blocked_once, each_blocked}

-- how many steps pass from a position on, in the table and in the sheet
prefix_len-said : (test : Rules·Step → Bool) (xs : List (List ℕ)) → prefix_len (λ x. test (said x)) xs ≡ leading test (map said xs)
unfolding leading
prefix_len-said test [] = refl
prefix_len-said test (x ∷ xs) = go (test (said x)) (prefix_len-said test xs)
  where
    go : (b : Bool) → prefix_len (λ x. test (said x)) xs ≡ leading test (map said xs)
        → (if b then 1 + prefix_len (λ x. test (said x)) xs else 0) ≡ (if b then suc (leading test (map said xs)) else 0)
    go true h = omega arith
    go false h = refl

-- what is cut off at a position, where the steps end before it at their end
pub cut_from : (from : ℕ) (xs : List (List ℕ)) (n : ℕ) → n ≡ min from (length xs) → take (length xs - n) (drop n xs) ≡ drop from xs
cut_from from xs n e =
    take_all (length xs - n) (drop n xs) (omega (arith, length-drop n xs)) ∙ ap (λ k. drop k xs) e ∙ drop_min from xs

pub passing : (test : Rules·Step → Bool) (from : ℕ) (xs ahead : List (List ℕ)) (steps : List Rules·Step) → map said xs ≡ steps → ahead ≡ drop from xs
    → (n : ℕ) → n ≡ length (take (prefix_len (λ x. test (said x)) ahead) ahead) → from + n ≡ from + leading test (drop from steps)
passing test from xs ahead steps e behind n en =
    ap (λ k. from + k) (en ∙ length-prefix_len (λ x. test (said x)) ahead ∙ prefix_len-said test ahead ∙ ap (λ ys. leading test (map said ys)) behind
    ∙ ap (leading test) (sym (drop-map said from xs) ∙ ap (drop from) e))

-- what a look at a rank finds in the table's tasks
pub task_found : (sheet : Sheet) (tasks : List Table·Task) (i : ℕ) (r : Option (Bor Table·Task)) → map task_of tasks ≡ sheet.tasks → IsItemAt tasks i r
    → (x : Bor Table·Task) → r ≡ Some x → task_of x.now ≡ task_at sheet i
task_found sheet tasks i r e found x h =
    let item = rw h at found in task_read sheet tasks e i (ltb-true i (length tasks) (sym item.0)) x.now item.1

pub task_past : (sheet : Sheet) (tasks : List Table·Task) (i : ℕ) (r : Option (Bor Table·Task)) → map task_of tasks ≡ sheet.tasks → IsItemAt tasks i r → r ≡ None
    → no_task ≡ task_at sheet i
unfolding task_at
task_past sheet tasks i r e found h =
    let item = rw h at found in
    sym (get_or_past sheet.tasks i no_task (rw (many_tasks sheet tasks e) at (ltb-false i (length tasks) (sym item.0))))

-- a task has no release before its next one
not_due : (x d q p since : ℕ) → x ≡ q * p + since → since + d < p → 1 ≤ d → eqb ((x + d) % p) 0 ≡ false
not_due x d q p since e l g =
    rw (ap (λ (y : ℕ). (y + d) % p) e ∙ ap (λ (y : ℕ). y % p) (add_assoc (q * p) since d) ∙ digits_mod q l) (ne_eqb (since + d) 0 (λ z. omega arith))

pub rests_early : (k : ℕ) (task : Task) → k < task.offset → releases_at k task ≡ false
unfolding releases_at
rests_early k task l = rw (lt-leb task.offset k l) refl

pub rests_then : (t : ℕ) (task : Task) → task.offset ≤ t → Rests (t + 1) (t + (task.period - (t - task.offset) % task.period)) task
unfolding releases_at
rests_then t task l k f h =
    let x = t - task.offset in
    let p = task.period in
    let split : k - task.offset ≡ x + (k - t) = omega arith in
    rw (le-leb task.offset k (omega arith), split) (not_due x (k - t) (x / p) p (x % p) (sym (div-add-mod' x p)) (omega arith) (omega arith))

-- the quiet ticks, one task more
pub quiet_more : (sheet : Sheet) (from i due next both : ℕ) → ((j : ℕ) → j < i → Rests from due (task_at sheet j)) → Rests from next (task_at sheet i)
    → both ≤ due → both ≤ next → (j : ℕ) → j < i + 1 → Rests from both (task_at sheet j)
quiet_more sheet from i due next both inv rests first second =
    below_more (λ j. Rests from both (task_at sheet j)) i (λ j l k f h. inv j l k f (omega arith)) (λ k f h. rests k f (omega arith))

pub released_not : (t : ℕ) (task : Task) (r : TaskRecord) → releases_at t task ≡ false → released t task r ≡ r
unfolding released
released_not t task r e = rw e refl

-- the job that runs changes no ticks run, which then rise by one
pub advanced_ran : (t : ℕ) (task : Task) (r : TaskRecord) → (advanced t task r).counts.ran ≡ r.counts.ran
advanced_ran t task r = advanced_cases (λ (q : TaskRecord). q.counts.ran ≡ r.counts.ran) t task r (λ l. refl) (λ l h. refl) (λ l h. refl)

pub spent_runner : (t x : ℕ) (task : Task) (r a : TaskRecord) (c : Counts) → a ≡ advanced t task r → c ≡ up TicksRun a.counts
    → record { job = a.job; counts = c } ≡ spent (Rank x) t x task r
unfolding spent
spent_runner t x task r a c ea ec = rw (eq-eqb x x refl, ec, ea) refl

-- the sixteen records are the same where each is
pub same_records : (a b : List TaskRecord) → length a ≡ 16 → length b ≡ 16 → ((i : ℕ) → i < 16 → record_at a i ≡ record_at b i) → a ≡ b
unfolding record_at
same_records a b la lb h = ext_get_or blank a b (la ∙ sym lb) (λ i l. h i (omega arith))

-- a loop that changes the records in turn: those before n are changed, by a function that is told the rank
pub record Changed (f : ℕ → TaskRecord → TaskRecord) (old now : List TaskRecord) (n : ℕ) : Type 0 where
  pub before : (i : ℕ) → i < n → record_at now i ≡ f i (record_at old i)
  pub behind : (i : ℕ) → n ≤ i → record_at now i ≡ record_at old i

pub changed_none : (f : ℕ → TaskRecord → TaskRecord) (old : List TaskRecord) → Changed f old old 0
changed_none f old = record { before = λ i l. absurd (omega arith); behind = λ i l. refl }

-- one record more, written anew or left as it is
module _ (f : ℕ → TaskRecord → TaskRecord) (old now : List TaskRecord) (n : ℕ) (changed : Changed f old now n) where
  pub changed_more : n < length now → (q : TaskRecord) → q ≡ f n (record_at now n) → Changed f old (set now n q) (n + 1)
  unfolding record_at
  changed_more l q e = record {
    before = below_more (λ i. get_or (set now n q) i blank ≡ f i (get_or old i blank)) n
        (λ i u. get_or-set_other now n i q blank (λ z. omega arith) ∙ changed.before i u)
        (get_or-set_same now n q blank l ∙ e ∙ ap (f n) (changed.behind n (omega arith)));
    behind = λ i u. get_or-set_other now n i q blank (λ z. omega arith) ∙ changed.behind i (omega arith);
  }

  pub changed_same : record_at now n ≡ f n (record_at now n) → Changed f old now (n + 1)
  changed_same e = record {
    before = below_more (λ i. record_at now i ≡ f i (record_at old i)) n changed.before (e ∙ ap (f n) (changed.behind n (omega arith)));
    behind = λ i u. changed.behind i (omega arith);
  }

-- a record that is not changed yet has the room that it had
pub roomy : (m : ℕ) (old now : List TaskRecord) (i : ℕ) → AllBelow m old → i < 16 → record_at now i ≡ record_at old i
    → CountsBelow m (record_at now i).counts × ((record_at now i).job.present < m)
roomy m old now i all l e = rw e (all i l)

-- rule 1, task by task
abbrev pub releasing : (sheet : Sheet) (t : ℕ) → ℕ → TaskRecord → TaskRecord
releasing sheet t i r = released t (task_at sheet i) r

pub record Releasing (sheet : Sheet) (st now : State) (n : ℕ) : Type 0 where
  pub others : now ≡ with_tasks st now.tasks
  pub sized : length now.tasks ≡ 16
  pub changed : Changed (releasing sheet st.t) st.tasks now.tasks n

pub releases_none : (sheet : Sheet) (st : State) → length st.tasks ≡ 16 → Releasing sheet st st 0
releases_none sheet st z = record { others = refl; sized = z; changed = changed_none (releasing sheet st.t) st.tasks }

module _ (sheet : Sheet) (st now : State) (n : ℕ) (done : Releasing sheet st now n) where
  pub releases_all : n ≡ length sheet.tasks → now ≡ with_tasks st (after_releases sheet st)
  unfolding after_releases record_at
  releases_all e = done.others ∙ ap (with_tasks st) (same_records now.tasks (after_releases sheet st) done.sized (length_row 16 _) (λ i l. ⊎_elim
      (λ (v : i < n). done.changed.before i v ∙ sym (row_at 16 _ blank i l ∙ rw (lt-ltb i (length sheet.tasks) (omega arith)) refl))
      (λ (v : n ≤ i). done.changed.behind i v ∙ sym (row_at 16 _ blank i l ∙ rw (le-ltb i (length sheet.tasks) (omega arith)) refl))
      (below i n)))

  module _ (l : n < 16) (task : Task) (et : task ≡ task_at sheet n) where
    same_time : now.t ≡ st.t
    same_time = ap (λ (x : State). x.t) done.others

    pub releases_more : (q : TaskRecord) → q ≡ released now.t task (record_at now.tasks n) → Releasing sheet st (with_tasks now (set now.tasks n q)) (n + 1)
    releases_more q e =
        let here : q ≡ releasing sheet st.t n (record_at now.tasks n) = e ∙ rw (same_time, et) refl in
        let room : n < length now.tasks = omega (arith, done.sized) in record {
          others = ap (λ (x : State). with_tasks x (set now.tasks n q)) done.others;
          sized = length-set now.tasks n q ∙ done.sized;
          changed = changed_more (releasing sheet st.t) st.tasks now.tasks n done.changed room q here;
        }

    pub releases_no : releases_at now.t task ≡ false → Releasing sheet st now (n + 1)
    releases_no e =
        let quiet : releases_at st.t (task_at sheet n) ≡ false = rw (← same_time, ← et) e in record {
          others = done.others;
          sized = done.sized;
          changed = changed_same (releasing sheet st.t) st.tasks now.tasks n done.changed (sym (released_not st.t (task_at sheet n) (record_at now.tasks n) quiet));
        }

-- where no task has a release nothing is released
pub releases_quiet : (sheet : Sheet) (st : State) (due : ℕ) → length st.tasks ≡ 16 → Quiet st.t due sheet → st.t < due → st ≡ with_tasks st (after_releases sheet st)
unfolding after_releases record_at
releases_quiet sheet st due z quiet l = ap (with_tasks st) (same_records st.tasks (after_releases sheet st) z (length_row 16 _) (λ i u. sym (row_at 16 _ blank i u ∙ ⊎_elim
    (λ (v : i < length sheet.tasks). rw (lt-ltb i (length sheet.tasks) v) (released_not st.t (task_at sheet i) (record_at st.tasks i) (quiet i v st.t (omega arith) l)))
    (λ (v : length sheet.tasks ≤ i). rw (le-ltb i (length sheet.tasks) v) refl)
    (below i (length sheet.tasks)))))

-- rule 6: each of some records is blocked once where its job is pending
pub blocked_yes : (r : TaskRecord) → r.job.pending ≡ true → was_blocked r ≡ blocked_once r
unfolding blocked_once
blocked_yes r p = rw p refl

pub blocked_not : (r : TaskRecord) → r.job.pending ≡ false → r ≡ blocked_once r
unfolding blocked_once
blocked_not r p = rw p refl

pub blocked_more : (old now : List TaskRecord) (n : ℕ) → n < length old → n < length now → now ≡ each_blocked n old
    → (q : TaskRecord) → q ≡ blocked_once (record_at now n) → set now n q ≡ each_blocked (n + 1) old
unfolding record_at each_blocked
blocked_more old now n l u done q e = rw e (map_over_more blocked_once old now n (get_or now n blank) l done (get_or_default now n blank (get_or now n blank) u))

-- those that are not blocked yet
blocked_back : (old : List TaskRecord) (n i : ℕ) → n ≤ length old → n ≤ i → record_at (each_blocked n old) i ≡ record_at old i
unfolding record_at each_blocked
blocked_back old n i u v =
    let size : length (map blocked_once (take n old)) ≡ n = length-map (take n old) blocked_once ∙ length-take-le n old u in
    let back : n + (i - n) ≡ i = omega arith in
    get_or-append_right (map blocked_once (take n old)) (drop n old) n i blank size v ∙ get_or-drop n old (i - n) blank ∙ ap (λ k. get_or old k blank) back

pub blocked_here : (records now : List TaskRecord) (n k : ℕ) → now ≡ each_blocked k (take n records) → k < length (take n records) → k < n → record_at now k ≡ record_at records k
unfolding record_at
blocked_here records now n k done l u = ap (λ rs. record_at rs k) done ∙ blocked_back (take n records) k k (omega arith) (omega arith) ∙ get_or-take n records k blank u

-- once all in front are blocked, so are those above the rank
blocked_whole : (old : List TaskRecord) (n : ℕ) → length old ≤ n → each_blocked n old ≡ map blocked_once old
unfolding each_blocked
blocked_whole old n l = rw (take_all n old l, drop_past old n l) (append-nil (map blocked_once old))

pub blocked_all : (records now : List TaskRecord) (x n k : ℕ) → length records ≡ 16 → n ≡ min x 16 → now ≡ each_blocked k (take n records) → length (take n records) ≤ k
    → now ++ drop n records ≡ each_blocked x records
unfolding each_blocked
blocked_all records now x n k sized en done l = ap (λ rs. rs ++ drop n records) (done ∙ blocked_whole (take n records) k l) ∙ ⊎_elim
    (λ (v : x < 16). let e : n ≡ x = omega arith in rw e refl)
    (λ (v : 16 ≤ x). blocked_whole records n (omega arith) ∙ sym (blocked_whole records x (omega arith)))
    (below x 16)

module _ (x : ℕ) (records : List TaskRecord) (sized : length records ≡ 16) where
  blocked_size : length (each_blocked x records) ≡ 16
  unfolding each_blocked
  blocked_size =
      length-append (map blocked_once (take x records)) (drop x records) ∙ ap (λ k. k + length (drop x records)) (length-map (take x records) blocked_once)
      ∙ sym (length-append (take x records) (drop x records)) ∙ ap length (take-append-drop x records) ∙ sized

  blocked_in : (i : ℕ) → i < 16 → i < x → record_at (each_blocked x records) i ≡ blocked_once (record_at records i)
  unfolding record_at each_blocked
  blocked_in i l v =
      let inside : i < length (take x records) = omega (arith, length-take x records) in
      let mapped : i < length (map blocked_once (take x records)) = rw length-map inside in
      get_or-append (map blocked_once (take x records)) (drop x records) blank i mapped ∙ get_or-map blocked_once (take x records) i blank blank inside
      ∙ ap blocked_once (get_or-take x records i blank v)

  pub blocked_out : (i : ℕ) → i < 16 → x ≤ i → record_at (each_blocked x records) i ≡ record_at records i
  blocked_out i l v = blocked_back records x i (omega arith) v

-- where nobody runs every record stays
spent_nobody : (x : Runner) → ((k : ℕ) → x ≡ Rank k → ⊥) → (t i : ℕ) (task : Task) (r : TaskRecord) → spent x t i task r ≡ r
unfolding spent
spent_nobody (Rank k) none t i task r = absurd (none k refl)
spent_nobody Stuck none t i task r = refl
spent_nobody Idle none t i task r = refl

-- what a tick makes of a record that is not the runner's
spent_other : (t x i : ℕ) (task : Task) (r : TaskRecord) → (i ≡ x → ⊥) → spent (Rank x) t i task r ≡ (if i <? x then blocked_once r else r)
unfolding spent blocked_once
spent_other t x i task r n = rw (ne_eqb i x n) (go (i <? x) r.job.pending)
  where
    go : (a b : Bool) → (if a && b then was_blocked r else r) ≡ (if a then (if b then was_blocked r else r) else r)
    go true b = refl
    go false b = refl

ran_length : (sheet : Sheet) (t : ℕ) (records : List TaskRecord) (x : Runner) → length (after_runner x sheet t records) ≡ 16
unfolding after_runner
ran_length sheet t records x = length_row 16 _

pub ran_nobody : (sheet : Sheet) (t : ℕ) (records : List TaskRecord) (x : Runner) → ((k : ℕ) → x ≡ Rank k → ⊥) → length records ≡ 16
    → records ≡ after_runner x sheet t records
ran_nobody sheet t records x none z = same_records records (after_runner x sheet t records) z (ran_length sheet t records x) (λ i l.
    sym (spent_at x sheet t records i l ∙ spent_nobody x none t i (task_at sheet i) (record_at records i)))

-- a rank runs, once the records in front of it are blocked
module _ (sheet : Sheet) (st : State) (x : ℕ) (now : List TaskRecord) (sized : length st.tasks ≡ 16) (done : now ≡ each_blocked x st.tasks) where
  pub runner_stays : x < 16 → record_at now x ≡ record_at st.tasks x
  runner_stays l = ap (λ rs. record_at rs x) done ∙ blocked_out x st.tasks sized x l (omega arith)

  now_sized : length now ≡ 16
  now_sized = ap length done ∙ blocked_size x st.tasks sized

  ran_others : (i : ℕ) → i < 16 → (i ≡ x → ⊥) → record_at now i ≡ record_at (after_runner (Rank x) sheet st.t st.tasks) i
  ran_others i l n =
      let other = spent_at (Rank x) sheet st.t st.tasks i l ∙ spent_other st.t x i (task_at sheet i) (record_at st.tasks i) n in
      ap (λ rs. record_at rs i) done ∙ ⊎_elim
      (λ (v : i < x). blocked_in x st.tasks sized i l v ∙ sym (other ∙ rw (lt-ltb i x v) refl))
      (λ (v : x ≤ i). blocked_out x st.tasks sized i l v ∙ sym (other ∙ rw (le-ltb i x v) refl))
      (below i x)

  module _ (ρ : Runner) (eρ : ρ ≡ Rank x) where
    of_rank : (records : List TaskRecord) → length records ≡ 16 → ((i : ℕ) → i < 16 → record_at records i ≡ record_at (after_runner (Rank x) sheet st.t st.tasks) i)
        → with_tasks st records ≡ with_tasks st (after_runner ρ sheet st.t st.tasks)
    of_rank records z h =
        ap (with_tasks st) (same_records records (after_runner (Rank x) sheet st.t st.tasks) z (ran_length sheet st.t st.tasks (Rank x)) h)
        ∙ ap (λ (y : Runner). with_tasks st (after_runner y sheet st.t st.tasks)) (sym eρ)

    pub runner_ran : x < 16 → (q : TaskRecord) → q ≡ spent (Rank x) st.t x (task_at sheet x) (record_at now x)
        → with_tasks st (set now x q) ≡ with_tasks st (after_runner ρ sheet st.t st.tasks)
    unfolding record_at
    runner_ran h q e = of_rank (set now x q) (length-set now x q ∙ now_sized) (λ i l. ⊎_elim
        (λ (v : (i =? x) ≡ true). let w = eqb-true i x v in
        rw w (get_or-set_same now x q blank (rw now_sized h) ∙ e ∙ rw (runner_stays h) refl ∙ sym (spent_at (Rank x) sheet st.t st.tasks x h)))
        (λ (v : (i =? x) ≡ false). let w = eqb-false i x v in get_or-set_other now x i q blank w ∙ ran_others i l w)
        (sure (i =? x)))

    -- a rank past the sixteen blocks them all
    pub runner_past : 16 ≤ x → with_tasks st now ≡ with_tasks st (after_runner ρ sheet st.t st.tasks)
    runner_past h = of_rank now now_sized (λ i l. ran_others i l (λ e. omega arith))

-- a task without steps is the one past the last
pub without_steps : (t x : ℕ) (r : TaskRecord) (task : Task) → task ≡ record { period = 1; offset = 0; steps = [] } → spent (Rank x) t x task r ≡ spent (Rank x) t x no_task r
unfolding spent advanced behind_unlocks next_run left_of_run ahead
without_steps t x r task e = rw e refl
