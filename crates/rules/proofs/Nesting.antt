-- Steps that pass 12 form a body, and those of a body pass.
use Prim.Native.Nat.{ℕ, zero, suc, ◌≤◌, ◌<◌}
use mathlib.Core.Path.{◌≡◌, refl, sym, ap, ap₂, ◌∙◌, subst}
use mathlib.Core.Logic.{⊎_elim}
use mathlib.Core.List.{List, [], ◌∷◌, ◌++◌, reverse-append, append_assoc, append-nil}
use mathlib.Core.Bool.{Bool, true, false, not, ◌&&◌, ◌||◌, or-false}
use native.Mathlib.Omega.{arith}
use lib.ListN.{length, take, drop}
use borrow.Author.Tests.{eqb-true, eq-eqb, leb-false, le-leb, lt-leb, not-true, not-false}
use Rattle.std.specs.Prelude.{if◌then◌else◌}
use Rattle.rules.specs.Words.{◌≤?◌, ◌=?◌, any, among}
use Rattle.rules.specs.Sheet.{Step, run, lock, unlock, Task, Body, end, a_run, a_section, is_lock, without, held_on_top, held}
use Rattle.rules.specs.Reading.{read, head_length, misplaced_in, after_lock, misplaced, read_step, read_steps, read_task}
use Rattle.rules.specs.declared.Head.{Head}
use Rattle.rules.proofs.Reading.{both_read, passed, got, step_passed, task_read}
use Rattle.rules.proofs.Laws.{true_false, and_left, and_right, or_cases, or_no}
use Rattle.rules.specs.Laws.{placed, Nesting}
pub use Rattle.rules.specs.Laws.{Distinct}

-- the same test by what is held and whether the last step was a lock: it holds from any place of the steps on
unfoldable pub nests : List ℕ → Bool → List Step → Bool
nests h b [] = not (1 ≤? length h)
nests h b (run n ∷ steps) = nests h false steps
nests h b (lock s ∷ steps) = not (among s h || 4 ≤? length h) && nests (s ∷ h) true steps
nests h b (unlock s ∷ steps) = not (not (among s (take 1 h)) || b) && nests (without s h) false steps

-- what is held behind more steps: these on top of what the first have held
pub held_snoc : (before : List ℕ) (steps more : List Step) → held_on_top before (steps ++ more) ≡ held_on_top (held_on_top before steps) more
unfolding held_on_top
held_snoc before [] more = refl
held_snoc before (run n ∷ steps) more = held_snoc before steps more
held_snoc before (lock s ∷ steps) more = held_snoc (s ∷ before) steps more
held_snoc before (unlock s ∷ steps) more = held_snoc (without s before) steps more

-- behind one more step, whether that is a lock
pub after_snoc : (before : List Step) (x : Step) → after_lock (before ++ (x ∷ [])) ≡ is_lock x
unfolding after_lock any
after_snoc before x = rw (reverse-append before (x ∷ [])) (or-false (is_lock x))

-- the two tests agree
placed_nests : (before steps : List Step) → placed before steps ≡ nests (held before) (after_lock before) steps
unfolding placed nests misplaced misplaced_in held held_on_top is_lock after_lock
placed_nests before [] = refl
placed_nests before (run n ∷ steps) = placed_nests (before ++ (run n ∷ [])) steps ∙ ap₂ (λ (h : List ℕ) (b : Bool). nests h b steps) (held_snoc [] before (run n ∷ [])) (after_snoc before (run n))
placed_nests before (lock s ∷ steps) = ap (λ (x : Bool). not (misplaced before (lock s)) && x)
    (placed_nests (before ++ (lock s ∷ [])) steps ∙ ap₂ (λ (h : List ℕ) (b : Bool). nests h b steps) (held_snoc [] before (lock s ∷ [])) (after_snoc before (lock s)))
placed_nests before (unlock s ∷ steps) = ap (λ (x : Bool). not (misplaced before (unlock s)) && x)
    (placed_nests (before ++ (unlock s ∷ [])) steps ∙ ap₂ (λ (h : List ℕ) (b : Bool). nests h b steps) (held_snoc [] before (unlock s ∷ [])) (after_snoc before (unlock s)))

-- what is not held cannot be taken away
without_absent : (s : ℕ) (h : List ℕ) → among s h ≡ false → without s h ≡ h
unfolding without among any
without_absent s [] e = refl
without_absent s (u ∷ h) e = go (u =? s) refl (without_absent s h)
  where
    go : (b : Bool) → (u =? s) ≡ b → (among s h ≡ false → without s h ≡ h) → (if b then without s h else u ∷ without s h) ≡ u ∷ h
    go true v k = true_false (among s (u ∷ h)) (rw v refl) e
    go false v k = ap (λ (x : List ℕ). u ∷ x) (k (let z : (false || among s h) ≡ false = sym (ap (λ (b : Bool). b || among s h) v) ∙ e in z))

pub without_newest : (s : ℕ) (h : List ℕ) → among s h ≡ false → without s (s ∷ h) ≡ h
unfolding without
without_newest s h e = rw (eq-eqb s s refl) (without_absent s h e)

-- a body leaves what is held as it was, and ends in no lock unless it is empty
flag : Bool → List Step → Bool
flag b [] = b
flag b (x ∷ steps) = false

flag_false : (steps : List Step) → flag false steps ≡ false
unfolding flag
flag_false [] = refl
flag_false (x ∷ steps) = refl

flag_some : (b : Bool) (steps : List Step) → 1 ≤ length steps → flag b steps ≡ false
unfolding flag
flag_some b [] l = absurd (omega arith)
flag_some b (x ∷ steps) l = refl

-- an unlock of the newest
unlock_nests : (s : ℕ) (h : List ℕ) (more : List Step) → among s h ≡ false → nests (s ∷ h) false (unlock s ∷ more) ≡ nests h false more
unfolding nests among any
unlock_nests s h more e =
    let same : (s =? s) ≡ true = eq-eqb s s refl in
    let left : without s (s ∷ h) ≡ h = without_newest s h e in
    rw (same, left) refl

-- a body passes with anything behind it
body_nests : {h : List ℕ} {steps : List Step} → Body h steps → Distinct h → (b : Bool) (more : List Step) → nests h b (steps ++ more) ≡ nests h (flag b steps) more
unfolding flag nests
body_nests end d b more = refl
body_nests {h} (a_run {rest = rest} β) d b more = body_nests β d false more ∙ ap (λ (c : Bool). nests h c more) (flag_false rest)
body_nests {h} (a_section {s = s} {inside = inside} {rest = rest} new few some β γ) d b more =
    rw (new, lt-leb 4 (length h) few)
    (ap (nests (s ∷ h) true) (append_assoc inside (unlock s ∷ rest) more)
    ∙ body_nests β (new, d) true (unlock s ∷ (rest ++ more))
    ∙ ap (λ (c : Bool). nests (s ∷ h) c (unlock s ∷ (rest ++ more))) (flag_some true inside some)
    ∙ unlock_nests s h (rest ++ more) new
    ∙ body_nests γ d false more
    ∙ ap (λ (c : Bool). nests h c more) (flag_false rest))

-- a body passes
nests_body : (steps : List Step) → Body [] steps → nests [] false steps ≡ true
unfolding nests
nests_body steps β = ap (nests [] false) (sym (append-nil steps)) ∙ body_nests β tt false []

-- what passes is a body for each that is held, with its unlock behind it, and a body at last
Rest : List ℕ → Bool → List Step → Type 0
Rest [] b steps = Body [] steps
Rest (s ∷ h) b steps =
    (inside : List Step) × (rest : List Step) × (steps ≡ inside ++ (unlock s ∷ rest)) × (b ≡ true → 1 ≤ length inside) × Body (s ∷ h) inside × Rest h false rest

-- a run before the rest,
rest_run : (n : ℕ) (h : List ℕ) (b : Bool) (steps : List Step) → Rest h false steps → Rest h b (run n ∷ steps)
unfolding Rest
rest_run n [] b steps β = a_run β
rest_run n (s ∷ h) b steps r = (run n ∷ r.0, r.1, ap (λ (x : List Step). run n ∷ x) r.2, (λ e. omega arith), a_run r.4, r.5)

-- and a section before it
rest_section : (s : ℕ) (h : List ℕ) (b : Bool) (inside rest : List Step) → among s h ≡ false → length h < 4 → 1 ≤ length inside → Body (s ∷ h) inside
    → Rest h false rest → Rest h b (lock s ∷ inside ++ (unlock s ∷ rest))
unfolding Rest
rest_section s [] b inside rest new few some β γ = a_section new few some β γ
rest_section s (u ∷ h) b inside rest new few some β r = (
  lock s ∷ inside ++ (unlock s ∷ r.0),
  r.1,
  ap (λ (x : List Step). lock s ∷ (inside ++ (unlock s ∷ x))) r.2 ∙ ap (λ (x : List Step). lock s ∷ x) (sym (append_assoc inside (unlock s ∷ r.0) (unlock u ∷ r.1))),
  (λ e. omega arith),
  a_section new few some β r.4,
  r.5,
)

pub or_too : (a b : Bool) → (a || b) ≡ false → b ≡ false
or_too true b e = true_false true refl e
or_too false b e = e

-- the newest is the first
pub newest : (s u : ℕ) → among s (u ∷ []) ≡ true → u ≡ s
unfolding among any
newest s u e = ⊎_elim (λ v. eqb-true u s v) (λ v. true_false false v refl) (or_cases (u =? s) false e)

-- what passes has such a rest
nests_rest : (steps : List Step) (h : List ℕ) (b : Bool) → Distinct h → nests h b steps ≡ true → Rest h b steps
unfolding nests Rest among any
nests_rest [] [] b d e = end
nests_rest [] (s ∷ h) b d e = true_false (1 ≤? suc (length h)) (le-leb 1 (suc (length h)) (omega arith)) (not-true (1 ≤? suc (length h)) e)
nests_rest (run n ∷ steps) h b d e = rest_run n h b steps (nests_rest steps h false d e)
nests_rest (lock s ∷ steps) h b d e =
    let ok = not-true (among s h || 4 ≤? length h) (and_left _ _ e) in
    let new = or_no (among s h) (4 ≤? length h) ok in
    let r = nests_rest steps (s ∷ h) true (new, d) (and_right (not (among s h || 4 ≤? length h)) _ e) in
    subst (λ (xs : List Step). Rest h b (lock s ∷ xs)) (sym r.2)
    (rest_section s h b r.0 r.1 new (leb-false 4 (length h) (or_too (among s h) (4 ≤? length h) ok)) (r.3 refl) r.4 r.5)
nests_rest (unlock s ∷ steps) [] b d e = true_false false e refl
nests_rest (unlock s ∷ steps) (u ∷ h) b d e =
    let ok = not-true (not (among s (u ∷ [])) || b) (and_left _ _ e) in
    let same = newest s u (not-false (among s (u ∷ [])) (or_no (not (among s (u ∷ []))) b ok)) in
    let left : without s (u ∷ h) ≡ h = ap (λ (v : ℕ). without v (u ∷ h)) (sym same) ∙ without_newest u h d.0 in (
      [],
      steps,
      ap (λ (v : ℕ). unlock v ∷ steps) (sym same),
      (λ t. true_false b t (or_too (not (among s (u ∷ []))) b ok)),
      end,
      nests_rest steps h false d.1 (ap (λ (g : List ℕ). nests g false steps) (sym left) ∙ and_right (not (not (among s (u ∷ [])) || b)) _ e),
    )

-- THE LAW: 12 is given exactly for steps that form no body
pub nesting : Nesting
unfolding held after_lock held_on_top any Rest
nesting steps = (
  (λ e. nests_rest steps [] false tt (sym (placed_nests [] steps) ∙ e)),
  (λ β. placed_nests [] steps ∙ nests_body steps β),
)

not_and : (a b : Bool) → a ≡ false → b ≡ true → (not a && b) ≡ true
not_and a b p q = rw (p, q) refl

-- steps that pass 12 pass it from any place on,
placed_on : (k : ℕ) (before steps : List Step) → placed before steps ≡ true → placed (before ++ take k steps) (drop k steps) ≡ true
unfolding placed
placed_on zero before steps e = rw (append-nil before) e
placed_on (suc k) before [] e = rw (append-nil before) e
placed_on (suc k) before (x ∷ steps) e =
    ap (λ (xs : List Step). placed xs (drop k steps)) (sym (append_assoc before (x ∷ []) (take k steps)))
    ∙ placed_on k (before ++ (x ∷ [])) steps (and_right (not (misplaced before x)) _ e)

-- with what is held there
pub nests_on : (k : ℕ) (steps : List Step) → Body [] steps → nests (held (take k steps)) (after_lock (take k steps)) (drop k steps) ≡ true
nests_on k steps β = sym (placed_nests (take k steps) (drop k steps)) ∙ placed_on k [] steps ((nesting steps).1 β)

-- the steps that were read passed 12
steps_placed : (m i n : ℕ) (before : List Step) (bytes : List ℕ) (steps : List Step) → read_steps m i n before bytes ≡ read steps
    → (more : List Step) × (steps ≡ before ++ more) × (placed before more ≡ true)
unfolding read_steps placed
steps_placed m i zero before bytes steps e =
    let end = passed 12 i (length before) (1 ≤? length (held before)) _ steps e in
    ([], sym (append-nil before ∙ got before steps end.1), rw end.0 refl)
steps_placed m i (suc n) before bytes steps e =
    let one = both_read (read_step m i before bytes) _ steps e in
    let x = one.0 in
    let r = steps_placed m i n (before ++ (x ∷ [])) (drop 3 bytes) steps one.2 in
    let placed = (step_passed m i before bytes x one.1).placed in
    (x ∷ r.0, r.1 ∙ append_assoc before (x ∷ []) r.0, not_and (misplaced before x) _ placed r.2)

-- so the steps of every task that was read pass
pub task_placed : (head : Head) (i : ℕ) (bytes : List ℕ) (x : Task × List ℕ) → read_task head i bytes ≡ read x
    → placed [] x.0.steps ≡ true
task_placed head i bytes x e =
    let τ = task_read head i bytes x e in
    let r = steps_placed head.semaphores i τ.own.count [] (drop (head_length head) bytes) x.0.steps τ.steps in
    ap (placed []) r.1 ∙ r.2
