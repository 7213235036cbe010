-- Laws of the sixteen entries: taking each rank's steps in turn finds the holders, and by its locks alone the ceilings.
use Rattle.std.proofs.Common.{ℕ, zero, suc, ◌+◌, ◌-◌, ◌≤◌, ◌<◌, ◌≡◌, refl, sym, ap, ap₂, ◌∙◌, ◌⊎◌, inl, inr, ⊎_elim, List, [], ◌∷◌, Bool, true, false, ◌||◌, length, get_or, set, drop, take, map, replicate, arith, add-one, if◌then◌else◌}
use Rattle.std.proofs.lemmas.List.{get_or-set_same, get_or-set_other, length-set}
use Rattle.std.proofs.Math.Bool.{or-false}
use Rattle.std.proofs.Math.ListN.{get_or-eq_default}
use Rattle.std.proofs.Math.Seq.{take-nil, drop-cons, ext_get_or}
use borrow.Author.Tests.{eq-eqb, ne_eqb, eqb-true, eqb-false}
use Rattle.rules.specs.Words.{◌=?◌, smallest, row, any, among}
use Rattle.rules.specs.Sheet.{Step, run, lock, unlock, Task, Sheet, no_task, task_at, is_lock_of, is_lock, without, held_on_top, held}
use Rattle.rules.specs.Fields.{blank}
use Rattle.rules.specs.Record.{record_at, behind, carries, holds}
use Rattle.rules.specs.Choice.{locks, ceiling}
use Rattle.rules.specs.declared.TaskRecord.{TaskRecord}
use Rattle.rules.proofs.Laws.{sure, below, and_no, length_row, row_at, smallest_found, smallest_there, smallest_le, smallest_none, row_same}
use Rattle.table.specs.Steps.{meant, said}
use Rattle.table.specs.Tasks.{task_of}
use Rattle.table.specs.declared.Step.{Step as Table·Step}
use Rattle.table.specs.declared.task.Task.{Task as Table·Task}
use Rattle.table.proofs.Laws.{drop_past, task_read, many_tasks}
use Rattle.holders.specs.Holders.{holder, holders, first_with, entry_after, after_step, after_steps, after_job, only_locks}

-- sixteen entries f, of which entry s becomes another
set_row : (s h : ℕ) (f g : ℕ → ℕ) → (s < 16 → h ≡ g s) → ((k : ℕ) → (s ≡ k → ⊥) → f k ≡ g k) → set (row 16 f) s h ≡ row 16 g
set_row s h f g here other = ext_get_or 0 (set (row 16 f) s h) (row 16 g) (length-set (row 16 f) s h ∙ length_row 16 f ∙ sym (length_row 16 g))
    (λ k m. let n = length-set (row 16 f) s h in let o = length_row 16 f in let in_row : k < 16 = omega arith in ⊎_elim
    (λ w. let z = eqb-true s k w in rw (← z) (get_or-set_same (row 16 f) s h 0 (omega arith) ∙ here (omega arith) ∙ sym (row_at 16 g 0 s (omega arith))))
    (λ w. get_or-set_other (row 16 f) s k h 0 (λ z. eqb-false s k w (sym z)) ∙ row_at 16 f 0 k in_row
    ∙ other k (eqb-false s k w) ∙ sym (row_at 16 g 0 k in_row))
    (sure (s =? k)))

-- by a lock or an unlock of s
pub turn_row : (s : ℕ) (turn : ℕ → ℕ) (f g : ℕ → ℕ) → (s < 16 → turn (f s) ≡ g s) → ((k : ℕ) → (s ≡ k → ⊥) → f k ≡ g k)
    → set (row 16 f) s (turn (get_or (row 16 f) s 0)) ≡ row 16 g
turn_row s turn f g here other = set_row s (turn (get_or (row 16 f) s 0)) f g (λ l. ap turn (row_at 16 f 0 s l) ∙ here l) other

-- where one passes, what stands for none does not count
smallest_either : (n d d' : ℕ) (p : ℕ → Bool) → ((i : ℕ) → i < n → p i ≡ false) ⊎ ((smallest n d p < n) × (smallest n d p ≡ smallest n d' p))
smallest_either n d d' p = ⊎_elim
    (λ w.
    let a = smallest n d p in
    let b = smallest n d' p in
    let x : b ≤ a = smallest_le n d' p a w.0 w.1 in
    let y : a ≤ b = smallest_le n d p b (omega (arith, w.0)) (smallest_there n d' p a w.0 w.1) in
    inr (w.0, omega arith))
    (λ w. inl w.1)
    (smallest_found n d p)

-- past n none passes
pub smallest_past : (m n d : ℕ) (p : ℕ → Bool) → n ≤ m → ((j : ℕ) → n ≤ j → p j ≡ false) → smallest n d p ≡ smallest m d p
unfolding smallest
smallest_past zero n d p l h = let z : n ≡ 0 = omega arith in rw z refl
smallest_past (suc m) n d p l h = ⊎_elim
    (λ u. smallest_past m n d p (omega arith) h ∙ ap (λ (b : Bool). smallest m (if b then m else d) p) (sym (h m (omega arith))))
    (λ u. let z : n ≡ suc m = omega arith in rw z refl)
    (below n (suc m))

-- a lock takes, an unlock gives back
take_own : (i : ℕ) (own : Bool) (p : ℕ → Bool) → i < 255
    → (if smallest i (if own then i else 255) p =? 255 then i else smallest i (if own then i else 255) p) ≡ smallest i i p
take_own i own p l = ⊎_elim
    (λ h. go own h)
    (λ w. rw (ne_eqb (smallest i (if own then i else 255) p) 255 (λ e. omega (arith, w.0))) w.1)
    (smallest_either i (if own then i else 255) i p)
  where
    go : (b : Bool) → ((k : ℕ) → k < i → p k ≡ false) → (if smallest i (if b then i else 255) p =? 255 then i else smallest i (if b then i else 255) p) ≡ smallest i i p
    go true h = rw (smallest_none i i p h, ne_eqb i 255 (λ e. omega arith)) refl
    go false h = rw (smallest_none i 255 p h, smallest_none i i p h) refl

give_own : (i : ℕ) (own : Bool) (p : ℕ → Bool) → i < 255
    → (if smallest i (if own then i else 255) p =? i then 255 else smallest i (if own then i else 255) p) ≡ smallest i 255 p
give_own i own p l = ⊎_elim
    (λ h. go own h)
    (λ w. rw (ne_eqb (smallest i (if own then i else 255) p) i (λ e. omega (arith, w.0))) w.1)
    (smallest_either i (if own then i else 255) 255 p)
  where
    go : (b : Bool) → ((k : ℕ) → k < i → p k ≡ false) → (if smallest i (if b then i else 255) p =? i then 255 else smallest i (if b then i else 255) p) ≡ smallest i 255 p
    go true h = rw (smallest_none i i p h, smallest_none i 255 p h, eq-eqb i i refl) refl
    go false h = rw (smallest_none i 255 p h, ne_eqb 255 i (λ e. omega arith)) refl

-- what is held without one that is given back
pub without_same : (s : ℕ) (own : List ℕ) → among s (without s own) ≡ false
unfolding among any without
without_same s [] = refl
without_same s (u ∷ own) = go (u =? s) refl (without_same s own)
  where
    go : (b : Bool) → (u =? s) ≡ b → among s (without s own) ≡ false → among s (if b then without s own else u ∷ without s own) ≡ false
    go true e h = h
    go false e h = rw e h

pub without_other : (s k : ℕ) (own : List ℕ) → (s ≡ k → ⊥) → among k (without s own) ≡ among k own
unfolding among any without
without_other s k [] n = refl
without_other s k (u ∷ own) n = go (u =? s) refl (without_other s k own n)
  where
    go : (b : Bool) → (u =? s) ≡ b → among k (without s own) ≡ among k own → among k (if b then without s own else u ∷ without s own) ≡ among k (u ∷ own)
    go true e h = let z = eqb-true u s e in rw (ne_eqb u k (λ w. n (sym z ∙ w))) h
    go false e h = ap (λ (b : Bool). u =? k || b) h

-- of any relation of ranks to semaphores: rank by rank
module _ (has : ℕ → ℕ → Bool) where
  module _ (i : ℕ) (l : i < 255) where
    took : (s : ℕ) (own : List ℕ) → after_step i (lock s) (row 16 (first_with has i own)) ≡ row 16 (first_with has i (s ∷ own))
    unfolding first_with among any entry_after after_step
    took s own = turn_row s (entry_after i (lock s)) (first_with has i own) (first_with has i (s ∷ own))
        (λ u. take_own i (among s own) (λ j. has j s) l ∙ ap (λ (b : Bool). smallest i (if b || among s own then i else 255) (λ j. has j s)) (sym (eq-eqb s s refl)))
        (λ k n. ap (λ (b : Bool). smallest i (if b || among k own then i else 255) (λ j. has j k)) (sym (ne_eqb s k n)))

    gave : (s : ℕ) (own : List ℕ) → after_step i (unlock s) (row 16 (first_with has i own)) ≡ row 16 (first_with has i (without s own))
    unfolding first_with entry_after after_step
    gave s own = turn_row s (entry_after i (unlock s)) (first_with has i own) (first_with has i (without s own))
        (λ u. give_own i (among s own) (λ j. has j s) l ∙ ap (λ (b : Bool). smallest i (if b then i else 255) (λ j. has j s)) (sym (without_same s own)))
        (λ k n. ap (λ (b : Bool). smallest i (if b then i else 255) (λ j. has j k)) (sym (without_other s k own n)))

    -- after its steps, rank i has what they hold
    pub stepped : (own : List ℕ) (steps : List Step) → after_steps i steps (row 16 (first_with has i own)) ≡ row 16 (first_with has i (held_on_top own steps))
    unfolding after_steps after_step held_on_top
    stepped own [] = refl
    stepped own (run n ∷ steps) = stepped own steps
    stepped own (lock s ∷ steps) = ap (after_steps i steps) (took s own) ∙ stepped (s ∷ own) steps
    stepped own (unlock s ∷ steps) = ap (after_steps i steps) (gave s own) ∙ stepped (without s own) steps

  -- no rank
  pub ranks_none : replicate 16 255 ≡ row 16 (first_with has 0 [])
  unfolding row first_with smallest among any
  ranks_none = refl

  -- one rank more: it has what is its own
  pub rank_more : (i : ℕ) (own : List ℕ) → ((k : ℕ) → has i k ≡ among k own) → row 16 (first_with has i own) ≡ row 16 (first_with has (i + 1) [])
  unfolding first_with smallest among any
  rank_more i own e = row_same 16 _ _ (λ k m. rw (add-one i) (ap (λ (b : Bool). smallest i (if b then i else 255) (λ j. has j k)) (sym (e k))))

  -- all of them: past the last none has anything
  pub ranks_all : (n : ℕ) → n ≤ 16 → ((j k : ℕ) → n ≤ j → has j k ≡ false) → row 16 (first_with has n []) ≡ row 16 (λ s. smallest 16 255 (λ j. has j s))
  unfolding first_with among any
  ranks_all n l past = row_same 16 _ _ (λ k m. smallest_past 16 n 255 (λ j. has j k) l (λ j u. past j k u))

-- the holders
module _ (sheet : Sheet) (records : List TaskRecord) where
  job_held : (i : ℕ) → i < 255 → after_job i (task_at sheet i) (record_at records i).job (row 16 (first_with (holds sheet records) i [])) ≡ row 16 (first_with (holds sheet records) (i + 1) [])
  unfolding after_job holds carries held among any
  job_held i l = go (record_at records i).job.pending refl
    where
      go : (b : Bool) → (record_at records i).job.pending ≡ b
          → (if b then after_steps i (behind (task_at sheet i) (record_at records i).job) (row 16 (first_with (holds sheet records) i [])) else row 16 (first_with (holds sheet records) i []))
          ≡ row 16 (first_with (holds sheet records) (i + 1) [])
      go true e = stepped (holds sheet records) i l [] (behind (task_at sheet i) (record_at records i).job)
          ∙ rank_more (holds sheet records) i (held (behind (task_at sheet i) (record_at records i).job)) (λ k. rw e refl)
      go false e = rank_more (holds sheet records) i [] (λ k. rw e refl)

  -- a rank past the last holds nothing
  pub holds_past : (j k : ℕ) → length sheet.tasks ≤ j → holds sheet records j k ≡ false
  unfolding holds carries task_at behind held held_on_top among any
  holds_past j k l = rw (get_or-eq_default sheet.tasks no_task {n = j} l, take-nil (record_at records j).job.position) (and_no (record_at records j).job.pending false refl)

-- the loop over the ranks
module _ (sheet : Sheet) (tasks : List Table·Task) (same : map task_of tasks ≡ sheet.tasks) (few : length tasks ≤ 16) (i : ℕ) where
  count : length tasks ≡ length sheet.tasks
  count = many_tasks sheet tasks same

  module _ (records : List TaskRecord) (hs : List ℕ) (inv : hs ≡ row 16 (first_with (holds sheet records) i [])) where
    module _ (l : i < length tasks) (task : Table·Task) (is : task ≡ get_or tasks i task) (more : List ℕ) where
      ranked : more ≡ after_job i (task_of task) (get_or records i blank).job hs → more ≡ row 16 (first_with (holds sheet records) (i + 1) [])
      unfolding record_at
      ranked h =
          h ∙ ap₂ (λ (task : Task) (hs : List ℕ). after_job i task (get_or records i blank).job hs) (task_read sheet tasks same i l task is) inv ∙ job_held sheet records i (omega arith)

      -- a pending job has passed the steps before its position
      pub job_holds : (get_or records i blank).job.pending ≡ true → (steps : List (List ℕ)) → map said steps ≡ (task_of task).steps → (passed : List ℕ)
          → passed ≡ after_steps i (take ((get_or records i blank).job.position - 0) (map said steps)) hs → more ≡ passed
          → more ≡ row 16 (first_with (holds sheet records) (i + 1) [])
      unfolding after_job behind
      job_holds p steps es passed h e =
          let j = (get_or records i blank).job in
          let z : j.position - 0 ≡ j.position = omega arith in
          ranked (rw p (e ∙ h ∙ ap₂ (λ (n : ℕ) (steps : List Step). after_steps i (take n steps) hs) z es))

      pub job_rests : (get_or records i blank).job.pending ≡ false → more ≡ hs → more ≡ row 16 (first_with (holds sheet records) (i + 1) [])
      unfolding after_job
      job_rests p h = ranked (rw p h)

    pub holders_all : length tasks ≤ i → i ≤ length tasks → hs ≡ holders sheet records
    unfolding holders holder
    holders_all u v = inv ∙ ranks_all (holds sheet records) i (omega arith) (λ j k m. holds_past sheet records j k (omega (arith, count)))

-- the holder of a semaphore, in the row of holders
pub holder_at : (sheet : Sheet) (records : List TaskRecord) (hs : List ℕ) → hs ≡ holders sheet records → (s : ℕ) → s < 16 → get_or hs s 0 ≡ holder sheet records s
unfolding holders
holder_at sheet records hs eh s l = ap (λ (xs : List ℕ). get_or xs s 0) eh ∙ row_at 16 (holder sheet records) 0 s l

-- the ceilings: what the locks alone hold is what the steps have a lock of
locked : (k : ℕ) (own : List ℕ) (steps : List Step) → (any (is_lock_of k) steps || among k own) ≡ among k (held_on_top own (only_locks steps))
unfolding any is_lock_of among held_on_top only_locks
locked k own [] = refl
locked k own (run n ∷ steps) = locked k own steps
locked k own (lock s ∷ steps) = swap (s =? k) (any (is_lock_of k) steps) (among k own) ∙ locked k (s ∷ own) steps
  where
    swap : (a b c : Bool) → ((a || b) || c) ≡ (b || (a || c))
    swap true true c = refl
    swap true false c = refl
    swap false true c = refl
    swap false false c = refl
locked k own (unlock s ∷ steps) = locked k own steps

locks_first : (i : ℕ) (x : Step) (steps : List Step) (hs : List ℕ)
    → after_steps i (only_locks (x ∷ steps)) hs ≡ after_steps i (only_locks steps) (if is_lock x then after_step i x hs else hs)
unfolding after_steps only_locks is_lock
locks_first i (run n) steps hs = refl
locks_first i (lock s) steps hs = refl
locks_first i (unlock s) steps hs = refl

-- rank j has a lock of s
abbrev pub has_lock : Sheet → (j s : ℕ) → Bool
has_lock sheet j s = locks (task_at sheet j) s

-- the loops over the ranks and their steps
module _ (sheet : Sheet) (tasks : List Table·Task) (same : map task_of tasks ≡ sheet.tasks) (few : length tasks ≤ 16) (i : ℕ) where
  module _ (cs : List ℕ) (inv : cs ≡ row 16 (first_with (has_lock sheet) i [])) where
    pub ceilings_more : i < length tasks → (task : Table·Task) → task ≡ get_or tasks i task → (steps : List (List ℕ)) → map said steps ≡ (task_of task).steps
        → after_steps i (only_locks (map said steps)) cs ≡ row 16 (first_with (has_lock sheet) (i + 1) [])
    unfolding locks held among any
    ceilings_more l task is steps e =
        let own = (task_at sheet i).steps in
        ap₂ (λ (steps : List Step) (cs : List ℕ). after_steps i (only_locks steps) cs) (e ∙ ap (λ (t : Task). t.steps) (task_read sheet tasks same i l task is)) inv
        ∙ stepped (has_lock sheet) i (omega arith) [] (only_locks own)
        ∙ rank_more (has_lock sheet) i (held (only_locks own)) (λ k. sym (or-false (any (is_lock_of k) own)) ∙ locked k [] own)

    pub ceilings_all : length tasks ≤ i → i ≤ length tasks → cs ≡ row 16 (ceiling sheet)
    unfolding ceiling locks task_at any
    ceilings_all u v =
        let n = many_tasks sheet tasks same in
        inv ∙ ranks_all (has_lock sheet) i (omega arith) (λ j k m. ap (λ (t : Task). locks t k) (get_or-eq_default sheet.tasks no_task (omega arith)))

-- within a rank
module _ (i : ℕ) (steps : List (List ℕ)) (p : ℕ) (cs found : List ℕ) (inv : after_steps i (only_locks (map said (drop p steps))) cs ≡ found) where
  module _ (l : p < length steps) (x : Table·Step) (d : List ℕ) (is : meant x ≡ said (get_or steps p d)) (b : Bool) (e : b ≡ is_lock (meant x)) where
    goes_on : after_steps i (only_locks (map said (drop (p + 1) steps))) (if b then after_step i (meant x) cs else cs) ≡ found
    goes_on = rw (e, is, add-one p) (sym (locks_first i (said (get_or steps p d)) (map said (drop (suc p) steps)) cs) ∙ rw (drop-cons steps p d l) at inv)

    pub locks_more : b ≡ true → (next : List ℕ) → next ≡ after_step i (meant x) cs → (new : List ℕ) → new ≡ next
        → after_steps i (only_locks (map said (drop (p + 1) steps))) new ≡ found
    locks_more u next en new e = rw (e, en) (rw u at goes_on)

    pub locks_same : b ≡ false → (new : List ℕ) → new ≡ cs → after_steps i (only_locks (map said (drop (p + 1) steps))) new ≡ found
    locks_same u new e = rw e (rw u at goes_on)

  pub locks_all : length steps ≤ p → cs ≡ found
  unfolding after_steps only_locks
  locks_all l = rw (drop_past steps p l) at inv
