-- What a call that is not refused went through, and what it answers.
use Prim.Native.Nat.{ℕ, ◌≤◌, ◌<◌}
use mathlib.Core.Path.{◌≡◌, refl, sym, ap, ◌∙◌, subst}
use mathlib.Core.List.{List}
use mathlib.Core.Bool.{true, false, not}
use native.Mathlib.Omega.{arith}
use lib.ListN.{length}
use borrow.Author.Tests.{ltb-false, eqb-false, ne_eqb, not-false}
use Rattle.rules.specs.Words.{◌<?◌, ◌=?◌}
use Rattle.rules.specs.Sheet.{Sheet}
use Rattle.rules.specs.Reading.{Reading, read, ◌>>=◌, refuse◌of◌at◌when◌, read_sheet}
use Rattle.rules.specs.Fields.{no_state, start}
use Rattle.rules.specs.Record.{possible}
use Rattle.rules.specs.Choice.{runner_byte}
use Rattle.rules.specs.Tick.{runner_of, tick}
use Rattle.rules.specs.Run.{after, written}
use Rattle.rules.specs.Answers.{why, made, read_tick, ticked, read_run, ran, buffer_after, told, record_after}
use Rattle.rules.specs.declared.State.{State}
use Rattle.rules.proofs.Reading.{both_read, passed, got}
use Rattle.theorems.specs.Refusals.{NotRefused}
use Rattle.theorems.specs.Demand3.{Accepted}
use Rattle.theorems.proofs.Refusals.{number_tells}

-- one sheet at most is read from bytes
pub one_sheet : (bytes : List ℕ) (sheet sheet' : Sheet) → Accepted bytes sheet → Accepted bytes sheet' → sheet ≡ sheet'
one_sheet bytes sheet sheet' e e' = got sheet sheet' (sym e ∙ e')

-- a tick
pub record TickGoes (bytes : List ℕ) (st : State) (sheet : Sheet) : Type 0 where
  pub accepted : Accepted bytes sheet
  pub fits : possible sheet st ≡ true
  pub early : st.t ≡ 60000 → ⊥
  pub runner : (ticked bytes st).told.runner ≡ runner_byte (runner_of sheet st)
  pub state : (ticked bytes st).state ≡ tick sheet st

pub tick_goes : (bytes : List ℕ) (st : State) → NotRefused (ticked bytes st).told.refusal → (sheet : Sheet) × TickGoes bytes st sheet
unfolding ticked made read_tick told record_after
tick_goes bytes st z =
    let r = (number_tells.of_tick bytes st).0 z in
    let sheet = r.0 in
    let one = both_read (read_sheet bytes) _ sheet r.1 in
    let past16 = passed 16 0 0 (not (possible one.0 st)) _ sheet one.2 in
    let past17 = passed 17 0 0 (st.t =? 60000) _ sheet past16.1 in
    let same = got one.0 sheet past17.1 in (
      sheet,
      record {
        accepted = one.1 ∙ ap read same;
        fits = ap (λ (x : Sheet). possible x st) (sym same) ∙ not-false (possible one.0 st) past16.0;
        early = eqb-false st.t 60000 past17.0;
        runner = ap (λ (x : Reading Sheet). made x 0 λ sheet. runner_byte (runner_of sheet st)) r.1;
        state = ap (λ (x : Reading Sheet). made x st λ sheet. tick sheet st) r.1;
      },
    )

-- and the other way
pub tick_goes_where : (bytes : List ℕ) (st : State) (sheet : Sheet) → Accepted bytes sheet → possible sheet st ≡ true → st.t < 60000
    → NotRefused (ticked bytes st).told.refusal × TickGoes bytes st sheet
unfolding ticked read_tick why ◌>>=◌ refuse◌of◌at◌when◌ told record_after
tick_goes_where bytes st sheet e p l =
    let late : (st.t =? 60000) ≡ false = ne_eqb st.t 60000 (λ z. omega arith) in
    let reads : read_tick bytes st ≡ read sheet = rw (e, p, late) refl in
    let z : NotRefused (ticked bytes st).told.refusal = ap (λ (r : Reading Sheet). (why r).number) reads in
    let t = tick_goes bytes st z in
    (z, subst (TickGoes bytes st) (one_sheet bytes t.0 sheet t.1.accepted e) t.1)

-- a run
pub record RunGoes (bytes : List ℕ) (horizon : ℕ) (buffer : List ℕ) (sheet : Sheet) : Type 0 where
  pub accepted : Accepted bytes sheet
  pub permitted : horizon ≤ 60000
  pub room : horizon ≤ length buffer
  pub state : (ran bytes horizon buffer).state ≡ after horizon sheet start
  pub trace : buffer_after bytes horizon buffer ≡ written horizon sheet start buffer

pub run_goes : (bytes : List ℕ) (horizon : ℕ) (buffer : List ℕ) → NotRefused (ran bytes horizon buffer).refusal → (sheet : Sheet) × RunGoes bytes horizon buffer sheet
unfolding ran buffer_after made read_run
run_goes bytes horizon buffer z =
    let r = (number_tells.of_run bytes horizon buffer).0 z in
    let sheet = r.0 in
    let one = both_read (read_sheet bytes) _ sheet r.1 in
    let past14 = passed 14 0 0 (60000 <? horizon) _ sheet one.2 in
    let past15 = passed 15 0 0 (length buffer <? horizon) _ sheet past14.1 in
    let same = got one.0 sheet past15.1 in (
      sheet,
      record {
        accepted = one.1 ∙ ap read same;
        permitted = ltb-false 60000 horizon past14.0;
        room = ltb-false (length buffer) horizon past15.0;
        state = ap (λ (x : Reading Sheet). made x no_state λ sheet. after horizon sheet start) r.1;
        trace = ap (λ (x : Reading Sheet). made x buffer λ sheet. written horizon sheet start buffer) r.1;
      },
    )
