-- Laws of rule 3 for a job that is not free of ceilings: what stands at the job's position, and a scan for a kind of step.
use Rattle.std.proofs.Common.{ℕ, ◌≡◌, refl, sym, ap, ◌∙◌, ⊎_elim, List, [], ◌∷◌, Bool, true, false, not, ◌&&◌, ◌||◌, drop, take, map, Option, Some, None, if◌then◌else◌}
use Rattle.std.specs.List.{list_any}
use mathlib.Core.Bool.{or-false}
use Rattle.rules.specs.Words.{◌=?◌, ◌⇒◌, any}
use Rattle.rules.specs.Sheet.{Step as Rules·Step, Task, is_run, is_lock}
use Rattle.rules.specs.Record.{behind, ahead}
use Rattle.rules.specs.Choice.{full, at_run, fresh, goes}
use Rattle.rules.specs.declared.Job.{Job}
use Rattle.rules.proofs.Laws.{sure, and_no}
use Rattle.table.specs.Steps.{meant, said, here, here_is}
use Rattle.table.specs.declared.Step.{Step}
use Rattle.table.proofs.Steps.{any_first, full_here}

-- steps of the table that pass a test are steps that pass it
pub any_said : (test : Rules·Step → Bool) (steps : List (List ℕ)) → list_any (λ x. test (said x)) steps ≡ any test (map said steps)
unfolding any
any_said test [] = refl
any_said test (x ∷ steps) = ap (λ (b : Bool). test (said x) || b) (any_said test steps)

module _ (mode : ℕ) (task : Task) (j : Job) where
  barred_goes : goes mode task j false ≡ (not (mode =? 1 && fresh task j && any is_lock task.steps) && at_run task j)
  unfolding goes
  barred_goes = go (mode =? 1 && fresh task j && any is_lock task.steps) (at_run task j)
    where
      go : (a b : Bool) → (if a then false else (false || b)) ≡ (not a && b)
      go true b = refl
      go false b = refl

  stands : (x : Option Step) → x ≡ here (drop j.position task.steps) → at_run task j ≡ here_is is_run x
  unfolding at_run ahead any
  stands x e = any_first is_run 0 (drop j.position task.steps) ∙ or-false _ ∙ ap (here_is is_run) (sym e)

  -- behind its last step it does not go
  pub goes_behind : (p : ℕ) → p ≡ j.position → None ≡ here (drop p task.steps) → goes mode task j false ≡ false
  unfolding here_is
  goes_behind p ep e =
      barred_goes ∙ and_no (not (mode =? 1 && fresh task j && any is_lock task.steps)) (at_run task j) (stands None (e ∙ ap (λ (k : ℕ). here (drop k task.steps)) ep))

  -- at a step it goes if that is a run, unless mode 1 holds it back
  module _ (x : Step) (p : ℕ) (ep : p ≡ j.position) (e : Some x ≡ here (drop p task.steps)) where
    ahead_lem : Some x ≡ here (drop j.position task.steps)
    ahead_lem = e ∙ ap (λ (k : ℕ). here (drop k task.steps)) ep

    at_run_lem : at_run task j ≡ is_run (meant x)
    unfolding here_is
    at_run_lem = stands (Some x) ahead_lem

    full_ahead : full (drop j.position task.steps) ≡ full (meant x ∷ [])
    full_ahead = rw (full_here (drop j.position task.steps), ← ahead_lem) refl

    fresh_is : fresh task j ≡ (not (any is_run (take j.position task.steps)) && (is_run (meant x) ⇒ j.left =? full (meant x ∷ [])))
    unfolding fresh behind ahead
    fresh_is = rw (at_run_lem, full_ahead) refl

    pub goes_at : goes mode task j false
        ≡ (is_run (meant x) && (not (mode =? 1) || not (j.left =? full (meant x ∷ [])) || any is_run (take p task.steps) || not (any is_lock task.steps)))
    goes_at = barred_goes
        ∙ rw (at_run_lem, fresh_is, ← ep) (go (is_run (meant x)) (mode =? 1) (j.left =? full (meant x ∷ [])) (any is_run (take p task.steps)) (any is_lock task.steps))
      where
        go : (r a b c d : Bool) → (not (a && (not c && (r ⇒ b)) && d) && r) ≡ (r && (not a || not b || c || not d))
        go false a b c d = and_no (not (a && (not c && true) && d)) false refl
        go true false b c d = refl
        go true true false true d = refl
        go true true false false d = refl
        go true true true true d = refl
        go true true true false true = refl
        go true true true false false = refl

  -- free of ceilings, any job goes; and who goes though not free goes in any case
  pub goes_free : goes mode task j true ≡ true
  unfolding goes
  goes_free = go (mode =? 1 && fresh task j && any is_lock task.steps) (at_run task j)
    where
      go : (a b : Bool) → (if a then true else (true || b)) ≡ true
      go true b = refl
      go false b = refl

  pub goes_anyway : (free : Bool) → goes mode task j false ≡ true → goes mode task j free ≡ true
  goes_anyway free e = ⊎_elim (λ h. ap (goes mode task j) h ∙ goes_free) (λ h. ap (goes mode task j) h ∙ e) (sure free)
