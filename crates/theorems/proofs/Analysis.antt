-- Bounds and laxities of the first k look at nothing below them: a section of a lower task has a ceiling of at least k.
use Prim.Native.Nat.{ℕ, ◌+◌, ◌*◌, ◌/◌, ◌≤◌, ◌<◌}
use mathlib.Core.Path.{◌≡◌, refl, sym, ap, ap₂, ◌∙◌}
use mathlib.Core.Logic.{⊎_elim}
use mathlib.Core.List.{List, [], ◌∷◌}
use mathlib.Core.Bool.{Bool, true, false, ◌&&◌}
use native.Mathlib.Omega.{arith}
use lib.ListN.{drop}
use lib.IntN.{pos, ◌-ℤ◌}
use borrow.Author.Tests.{eq-eqb, lt-leb}
use Rattle.std.specs.Prelude.{Some, None, if◌then◌else◌}
use Rattle.rules.specs.Words.{◌<?◌, ◌≤?◌, ◌=?◌, some, smallest, any}
use Rattle.rules.specs.Sheet.{Step, run, lock, unlock, Task, Sheet, task_at, is_lock_of}
use Rattle.rules.specs.Choice.{locks, ceiling}
use Rattle.rules.specs.Bounds.{section_length, begins, steps_from, is_counted, counted_length, bound, gives, bound_by, section, cost, rounded_up, demand, slack, largest_of, laxity}
use Rattle.rules.proofs.Laws.{below, true_false, and_no, some_same, smallest_same, any_drop, largest_same, total_same}
use Rattle.theorems.specs.Demand3.{OfAnalysis}
use Rattle.theorems.proofs.Demand3.{Twin, flip, ceiling_same, ceiling_high, ceiling_locks, twin}
use Rattle.rules.proofs.Points.{largest_of_same}

-- whether a section begins, by its semaphore's test alone, and not where no lock of the steps passes it
begins_same : (p q : ℕ → Bool) → ((s : ℕ) → p s ≡ q s) → (steps : List Step) → begins p steps ≡ begins q steps
unfolding begins
begins_same p q h [] = refl
begins_same p q h (run n ∷ steps) = refl
begins_same p q h (lock s ∷ steps) = h s
begins_same p q h (unlock s ∷ steps) = refl

begins_none : (p : ℕ → Bool) (steps : List Step) → ((s : ℕ) → any (is_lock_of s) steps ≡ true → p s ≡ false) → begins p steps ≡ false
unfolding begins any is_lock_of
begins_none p [] h = refl
begins_none p (run n ∷ steps) h = refl
begins_none p (lock s ∷ steps) h = h s (rw (eq-eqb s s refl) refl)
begins_none p (unlock s ∷ steps) h = refl

-- no section of a lower task counts for one of the first k
counted_low : {k : ℕ} {a b : Sheet} → Twin k a b → (i j n : ℕ) → i < k → k ≤ j → is_counted a i j n ≡ false
unfolding locks is_counted steps_from
counted_low {k} {a} {b} τ i j n l m = and_no (i <? j) _ (begins_none (λ s. ceiling a s ≤? i) (drop n (task_at a j).steps) (λ s e. ⊎_elim
    (λ u. true_false (locks (task_at a j) s) (any_drop (is_lock_of s) n (task_at a j).steps e) (τ.apart (ceiling a s) j s u m (ceiling_locks τ s u)))
    (λ u. lt-leb (ceiling a s) i (omega arith))
    (below (ceiling a s) k)))

module _ {k : ℕ} {a b : Sheet} (τ : Twin k a b) (i : ℕ) (l : i < k) where
  ceiling_test : (s : ℕ) → (ceiling a s ≤? i) ≡ (ceiling b s ≤? i)
  ceiling_test s = ⊎_elim
      (λ u. ap (λ (c : ℕ). c ≤? i) (ceiling_same τ s u))
      (λ u. lt-leb (ceiling a s) i (omega arith) ∙ sym (lt-leb (ceiling b s) i (omega (arith, ceiling_high τ s u))))
      (below (ceiling a s) k)

  steps_same : (j n : ℕ) → j < k → steps_from a j n ≡ steps_from b j n
  unfolding steps_from
  steps_same j n u = ap (λ (x : Task). drop n x.steps) (τ.task j u)

  counted_same : (j n : ℕ) → j < k → is_counted a i j n ≡ is_counted b i j n
  unfolding is_counted
  counted_same j n u = ap (λ (c : Bool). i <? j && c)
      (begins_same _ _ ceiling_test (steps_from a j n) ∙ ap (begins (λ s. ceiling b s ≤? i)) (steps_same j n u))

  -- so whatever is made of the counted sections is the same
  module _ {A : Type 0} (f : Bool → List Step → A) (other : A) (h : (steps : List Step) → f false steps ≡ other) where
    section_same : (j n : ℕ) → f (is_counted a i j n) (steps_from a j n) ≡ f (is_counted b i j n) (steps_from b j n)
    section_same j n = ⊎_elim
        (λ u. ap₂ f (counted_same j n u) (steps_same j n u))
        (λ u. rw (counted_low τ i j n l u, counted_low (flip τ) i j n l u) (h (steps_from a j n) ∙ sym (h (steps_from b j n))))
        (below j k)

  bound_same : bound a i ≡ bound b i
  unfolding bound counted_length
  bound_same = largest_same 16 _ _ (λ j. largest_same 64 _ _ (section_same (λ c steps. if c then section_length steps else 0) 0 (λ steps. refl) j))

  gives_same : (j n : ℕ) → gives a i (bound a i) j n ≡ gives b i (bound b i) j n
  unfolding gives
  gives_same j n =
      section_same (λ c steps. c && section_length steps =? bound a i) false (λ steps. refl) j n
      ∙ ap (λ (x : ℕ). is_counted b i j n && section_length (steps_from b j n) =? x) bound_same

  by_same : bound_by a i ≡ bound_by b i
  unfolding bound_by
  by_same =
      let rank = smallest_same 16 255 _ _ (λ j u. some_same 64 _ _ (λ n v. gives_same j n)) in
      ap (λ (r : ℕ). if r =? 255 then None else Some (section r (smallest 64 255 (gives a i (bound a i) r)))) rank
      ∙ ap (λ (x : ℕ). if the_rank =? 255 then None else Some (section the_rank x)) (smallest_same 64 255 _ _ (λ n u. gives_same the_rank n))
    where
      the_rank : ℕ
      the_rank = smallest 16 255 λ j. some 64 (gives b i (bound b i) j)

  slack_same : (t : ℕ) → slack a i t ≡ slack b i t
  unfolding slack demand
  slack_same t = ap (λ (d : ℕ). pos t -ℤ pos d) (ap₂ ◌+◌ bound_same
      (total_same (i + 1) _ _ (λ r m. ap (λ (x : Task). cost x * rounded_up t x.period) (τ.task r (omega arith)))))

  laxity_same : laxity a i ≡ laxity b i
  unfolding laxity
  laxity_same =
      let last : (task_at a i).period ≡ (task_at b i).period = ap (λ (x : Task). x.period) (τ.task i l) in
      let atLast = ap (slack a i) last ∙ slack_same (task_at b i).period in
      largest_of_same (i + 1) _ _ _ _ atLast (λ r m.
      let period : (task_at a r).period ≡ (task_at b r).period = ap (λ (x : Task). x.period) (τ.task r (omega arith)) in
      ap₂ (λ (n p : ℕ). largest_of (n / p) (slack a i (task_at a i).period) λ l. slack a i ((l + 1) * p)) last period
      ∙ largest_of_same ((task_at b i).period / (task_at b r).period) _ _ _ _ atLast (λ l m. slack_same ((l + 1) * (task_at b r).period)))

pub of_analysis : OfAnalysis
of_analysis k bytes bytes' a b π i l = let τ = twin k bytes bytes' a b π in (bound_same τ i l, by_same τ i l, laxity_same τ i l)
