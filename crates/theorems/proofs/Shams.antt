-- No sham meets the contracts.
use Prim.Native.Nat.{ℕ, zero, suc, ◌+◌, ◌<◌}
use mathlib.Core.Path.{◌≡◌, refl, sym, ap, ◌∙◌, subst, subst₂}
use mathlib.Core.List.{List, [], ◌∷◌}
use mathlib.Core.Bool.{true}
use native.Mathlib.Omega.{arith}
use lib.ListN.{get_or}
use lib.IntN.{nat_abs}
use borrow.Author.Tests.{ltb-true}
use Rattle.rules.specs.Words.{◌<?◌}
use Rattle.rules.specs.Sheet.{Sheet}
use Rattle.rules.specs.Fields.{start}
use Rattle.rules.specs.Record.{record_at}
use Rattle.rules.specs.Tick.{closed, tick}
use Rattle.rules.specs.Run.{after}
use Rattle.rules.specs.Answers.{no_bound, no_laxity, check, ceilings, bounds, laxities, ticked, told, record_after, ran, buffer_after, Ticked, Told, Ran}
use Rattle.rules.specs.Cases.{A, A3, D}
use Rattle.rules.specs.declared.TaskRecord.{TaskRecord}
use Rattle.rules.specs.declared.State.{State}
use Rattle.rules.proofs.Open.{rules}
use Rattle.theorems.specs.Refusals.{NotRefused}
use Rattle.theorems.specs.Demand3.{Accepted}
use Rattle.theorems.specs.NoFreedom.{Call, check_call, ceilings_call, bounds_call, laxities_call, tick_call, tick_in_place_call, run_call, Settled}
use Rattle.theorems.specs.Runs.{called}
use Rattle.theorems.specs.Shams.{Function, Meets, Caught, RefusingAndFixed, Touched, FixedAfterEach, NotAllAtOnce, SwitchesFixed, BlockedFixed, one, switch_now, blocked_now, blocked_of}
use Rattle.theorems.proofs.Answers.{one_sheet, tick_goes, run_goes}
use Rattle.theorems.proofs.NoFreedom.{◌and◌, settled, checked, ceiled, bounded, laxed, ticks, ticks_in_place, runs}
use Rattle.theorems.proofs.Runs.{after_t, ticks_are_runs}
use Rattle.theorems.proofs.Totals.{tick_switches, tick_blocked}
use Rattle.theorems.proofs.Needed.{sheetA, readsA}

-- a call that goes through
record Through (c : Call) : Type 0 where
  input : c.Input
  outcome : c.Outcome
  permitted : c.permits input outcome
  accepted : NotRefused (c.refusal outcome)

-- where a function meets the contract it goes through too, with that outcome
module _ (c : Call) (σ : Settled c) (f : Function c) (m : Meets c f) (θ : Through c) where
  answered : f θ.input ≡ θ.outcome
  answered = σ.no_freedom θ.input (f θ.input) θ.outcome (m θ.input) θ.permitted

  accepted_too : NotRefused (c.refusal (f θ.input))
  accepted_too = ap (λ o. (c.refusal o).number) answered ∙ θ.accepted

-- two such calls, told apart by a number in their outcomes, catch refusing always and one fixed answer
caught : (c : Call) → Settled c → (θ θ' : Through c) (number : c.Outcome → ℕ) → (number θ.outcome <? number θ'.outcome) ≡ true → Caught c
caught c σ θ θ' number differ = record {
  alike = λ f g m n input. σ.no_freedom input (f input) (g input) (m input) (n input);
  refusing = λ f m r. omega (arith, r θ.input, accepted_too c σ f m θ);
  fixed = λ f answer m h.
      let e = sym (answered c σ f m θ) ∙ h θ.input (accepted_too c σ f m θ) in
      let e' = sym (answered c σ f m θ') ∙ h θ'.input (accepted_too c σ f m θ') in
      omega (arith, ltb-true (number θ.outcome) (number θ'.outcome) differ, ap number (e ∙ sym e'));
}

abbrev through : (c : Call) (input : c.Input) (outcome : c.Outcome) → c.permits input outcome → NotRefused (c.refusal outcome) → Through c
through c input outcome p a = record { input = input; outcome = outcome; permitted = p; accepted = a }

-- A and A3 have other counts and ceilings, A and D other bounds, laxities and first runners, runs other lengths
pub refusing_and_fixed : RefusingAndFixed
unfolding rules
refusing_and_fixed =
    caught check_call (settled check_call checked)
    (through check_call A.sheet (check A.sheet) refl refl)
    (through check_call A3.sheet (check A3.sheet) refl refl)
    (λ r. r.tasks) refl
    and caught ceilings_call (settled ceilings_call ceiled)
    (through ceilings_call A3.sheet (ceilings A3.sheet) refl refl)
    (through ceilings_call A.sheet (ceilings A.sheet) refl refl)
    (λ r. get_or r.ceilings 1 0) refl
    and caught bounds_call (settled bounds_call bounded)
    (through bounds_call D.sheet (bounds D.sheet) refl refl)
    (through bounds_call A.sheet (bounds A.sheet) refl refl)
    (λ r. (get_or r.bounds 0 no_bound).ticks) refl
    and caught laxities_call (settled laxities_call laxed)
    (through laxities_call D.sheet (laxities D.sheet) refl refl)
    (through laxities_call A.sheet (laxities A.sheet) refl refl)
    (λ r. nat_abs (get_or r.laxities 0 no_laxity).ticks) refl
    and caught tick_call (settled tick_call ticks)
    (through tick_call (D.sheet, start) (ticked D.sheet start) refl refl)
    (through tick_call (A.sheet, start) (ticked A.sheet start) refl refl)
    (λ r. r.told.runner) refl
    and caught tick_in_place_call (settled tick_in_place_call ticks_in_place)
    (through tick_in_place_call (D.sheet, start) (told D.sheet start, record_after D.sheet start) (refl, refl) refl)
    (through tick_in_place_call (A.sheet, start) (told A.sheet start, record_after A.sheet start) (refl, refl) refl)
    (λ o. o.0.runner) refl
    and caught run_call (settled run_call runs)
    (through run_call (A.sheet, 0, []) (ran A.sheet 0 [], buffer_after A.sheet 0 []) (refl, refl) refl)
    (through run_call (A.sheet, 1, 0 ∷ []) (ran A.sheet 1 (0 ∷ []), buffer_after A.sheet 1 (0 ∷ [])) (refl, refl) refl)
    (λ o. o.0.state.t) refl
    and tt

-- what holds of `ticked` holds of every function that meets the contract
as_ticked : (f : Function tick_call) → Meets tick_call f → (bytes : List ℕ) (st : State) (P : Ticked → Type 0) → P (ticked bytes st) → P (f (bytes, st))
as_ticked f m bytes st P p = subst P (sym (m (bytes, st))) p

-- a tick that goes through raises t
touched : (bytes : List ℕ) (st : State) → NotRefused (ticked bytes st).told.refusal → (ticked bytes st).state ≡ st → ⊥
unfolding tick closed
touched bytes st z e =
    let t : st.t + 1 ≡ st.t = ap (λ (x : State). x.t) (sym (tick_goes bytes st z).1.state ∙ e) in
    omega arith

run_touched : (bytes : List ℕ) (h : ℕ) (buffer : List ℕ) → NotRefused (ran bytes (suc h) buffer).refusal → (ran bytes (suc h) buffer).state ≡ start → ⊥
run_touched bytes h buffer z e =
    let r = run_goes bytes (suc h) buffer z in
    let t : (after (suc h) r.0 start).t ≡ 0 = ap (λ (x : State). x.t) (sym r.1.state ∙ e) in
    omega (arith, after_t (suc h) r.0)

first_ofA : NotRefused (ticked A.sheet start).told.refusal
unfolding rules
first_ofA = refl

pub touched_record : Touched
unfolding told record_after ticked
touched_record = record {
  by_value = λ f m bytes st. as_ticked f m bytes st (λ r. NotRefused r.told.refusal → r.state ≡ st → ⊥) (touched bytes st);
  lent = λ f m bytes st.
      let same = m (bytes, st) in
      subst₂ (λ (r : Told) (stAfter : State). NotRefused r.refusal → stAfter ≡ st → ⊥) (sym same.0) (sym same.1) (touched bytes st);
  run = λ f m bytes h buffer.
      subst (λ (r : Ran). NotRefused r.refusal → r.state ≡ start → ⊥) (sym (m (bytes, suc h, buffer)).0) (run_touched bytes h buffer);
  first_ofA = first_ofA;
}

-- calls of a tick that meets the contract give what calls of `tick` give
called_same : (f g : State → Ticked) → ((st : State) → f st ≡ g st) → (h : ℕ) → called h f ≡ called h g
unfolding called
called_same f g same zero = refl
called_same f g same (suc h) = ap (λ (x : Ticked). x.state) (same (called h f)) ∙ ap (λ (st : State). (g st).state) (called_same f g same h)

pub fixed_after_each : FixedAfterEach
fixed_after_each f m bytes h buffer z =
    called_same (λ st. f (bytes, st)) (ticked bytes) (λ st. m (bytes, st)) h ∙ (ticks_are_runs bytes h buffer z).state

-- rank 1 has run once after A's first tick, and five times at the end
first_and_end : (ticked A.sheet start).state.tasks ≡ (after 10 (sheetA 0) start).tasks → ⊥
unfolding rules
first_and_end e = let ran : ◌≡◌ {A = ℕ} 1 5 = ap (λ (rs : List TaskRecord). (record_at rs 1).counts.ran) e in omega arith

pub not_all_at_once : NotAllAtOnce
not_all_at_once f m buffer z e =
    let r = run_goes A.sheet 10 buffer z in
    let end = r.1.state ∙ ap (λ (x : Sheet). after 10 x start) (one_sheet A.sheet r.0 (sheetA 0) r.1.accepted readsA) in
    first_and_end (ap (λ (x : Ticked). x.state.tasks) (sym (m (A.sheet, start))) ∙ e ∙ ap (λ (x : State). x.tasks) end)

-- rules 6 and 7
ticked_switches : (bytes : List ℕ) (sheet : Sheet) (st : State) → Accepted bytes sheet → NotRefused (ticked bytes st).told.refusal
    → (ticked bytes st).state.switches ≡ st.switches + one (switch_now sheet st (ticked bytes st).told.runner)
ticked_switches bytes sheet st e z =
    let g = tick_goes bytes st z in
    let same = one_sheet bytes g.0 sheet g.1.accepted e in
    rw (g.1.state, g.1.runner, same) (tick_switches sheet st)

ticked_blocked : (bytes : List ℕ) (sheet : Sheet) (st : State) → Accepted bytes sheet → NotRefused (ticked bytes st).told.refusal → (i : ℕ) → i < 16
    → blocked_of (ticked bytes st).state i ≡ blocked_of st i + one (blocked_now sheet st (ticked bytes st).told.runner i)
ticked_blocked bytes sheet st e z i l =
    let g = tick_goes bytes st z in
    let same = one_sheet bytes g.0 sheet g.1.accepted e in
    rw (g.1.state, g.1.runner, same) (tick_blocked sheet st i l)

pub switches_fixed : SwitchesFixed
switches_fixed f m bytes sheet st e =
    as_ticked f m bytes st
    (λ r. NotRefused r.told.refusal → r.state.switches ≡ st.switches + one (switch_now sheet st r.told.runner))
    (ticked_switches bytes sheet st e)

pub blocked_fixed : BlockedFixed
blocked_fixed f m bytes sheet st e =
    as_ticked f m bytes st
    (λ r. NotRefused r.told.refusal → (i : ℕ) → i < 16 → blocked_of r.state i ≡ blocked_of st i + one (blocked_now sheet st r.told.runner i))
    (ticked_blocked bytes sheet st e)
