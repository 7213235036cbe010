-- A run is its ticks.
use Prim.Native.Nat.{ℕ, zero, suc, ◌≤◌, ◌<◌}
use mathlib.Core.Path.{◌≡◌, refl, sym, ap, ◌∙◌}
use mathlib.Core.List.{List, ◌++◌}
use native.Mathlib.Omega.{arith}
use native.Mathlib.Nat.{suc-add, zero-add}
use lib.ListN.{drop}
use Rattle.rules.specs.Words.{row}
use Rattle.rules.specs.Sheet.{Sheet}
use Rattle.rules.specs.Fields.{start}
use Rattle.rules.specs.Tick.{closed, tick}
use Rattle.rules.specs.Run.{after, trace, written}
use Rattle.rules.specs.Answers.{ticked, told, record_after}
use Rattle.rules.proofs.Kept.{start_possible, after_possible}
use Rattle.rules.specs.declared.State.{State}
use Rattle.theorems.specs.Refusals.{NotRefused}
use Rattle.theorems.specs.Demand3.{Accepted}
use Rattle.theorems.specs.Runs.{OneMore, InTwoParts, BothAgree, called, TicksAreRuns}
use Rattle.theorems.proofs.Answers.{TickGoes, tick_goes_where, run_goes}
use Rattle.rules.proofs.Laws.{row_same}

pub one_more : OneMore
unfolding after trace row
one_more h sheet st = (refl, refl)

pub in_two_parts : InTwoParts
unfolding after
in_two_parts zero h sheet st = rw zero-add refl
in_two_parts (suc n) h sheet st = rw suc-add (ap (tick sheet) (in_two_parts n h sheet st))

pub both_agree : BothAgree
unfolding told record_after ticked
both_agree bytes st = record { refusal = refl; runner = refl; state = refl }

-- the tick is the number of ticks
pub after_t : (h : ℕ) (sheet : Sheet) → (after h sheet start).t ≡ h
unfolding after tick closed
after_t zero sheet = refl
after_t (suc h) sheet = let e = after_t h sheet in omega arith

module _ (bytes : List ℕ) (sheet : Sheet) (e : Accepted bytes sheet) where
  -- the record of a run stays possible, so no tick of it is refused
  goes : (h : ℕ) → h < 60000 → NotRefused (ticked bytes (after h sheet start)).told.refusal × TickGoes bytes (after h sheet start) sheet
  goes h l = let t = after_t h sheet in tick_goes_where bytes (after h sheet start) sheet e (after_possible bytes sheet e h start (start_possible bytes sheet e) (omega arith)) (omega arith)

  called_after : (h : ℕ) → h ≤ 60000 → called h (ticked bytes) ≡ after h sheet start
  unfolding after called
  called_after zero l = refl
  called_after (suc h) l = ap (λ (st : State). (ticked bytes st).state) (called_after h (omega arith)) ∙ (goes h (omega arith)).1.state

pub ticks_are_runs : TicksAreRuns
unfolding written trace after
ticks_are_runs bytes horizon buffer z =
    let r = run_goes bytes horizon buffer z in
    let sheet = r.0 in
    let e = r.1.accepted in
    let m = r.1.permitted in
    record {
      through = λ h l. rw (called_after bytes sheet e h (omega arith)) (goes bytes sheet e h (omega arith)).0;
      state = called_after bytes sheet e horizon m ∙ sym r.1.state;
      runners = r.1.trace ∙ ap (λ (xs : List ℕ). xs ++ drop horizon buffer) (row_same horizon _ _ (λ h l.
          rw (called_after bytes sheet e h (omega arith)) (sym (goes bytes sheet e h (omega arith)).1.runner)));
    }
