-- A contract that is an equality with a definition leaves no freedom.
use Prim.Native.Nat.{ℕ}
use mathlib.Core.Path.{◌≡◌, refl, sym, ap, ap₂, ◌∙◌, subst}
use mathlib.Core.Logic.{inl}
use mathlib.Core.List.{List}
use native.Mathlib.Omega.{arith}
use Rattle.rules.specs.Reading.{Reading, read, refused, read_sheet}
use Rattle.rules.specs.Answers.{why, made, check, ceilings, bounds, laxities, read_tick, ticked, told, record_after, read_run, ran, buffer_after, Ran, Told}
use Rattle.rules.specs.Coded.{checked as checked_in, ceilings_in, bounds_in, laxities_in, told_in, ticked_in, ran_in}
use Rattle.rules.specs.Laws.{LosesNothing}
use Rattle.rules.specs.Fields.{start}
use Rattle.rules.specs.declared.State.{State}
use Rattle.rules.proofs.Coded.{tie_loses_nothing}
use Rattle.theorems.specs.Refusals.{Refused, Numbered}
use Rattle.theorems.specs.NoFreedom.{Call, start_call, check_call, ceilings_call, bounds_call, laxities_call, tick_call, tick_in_place_call, run_call, Settled, NoFreedom, InCode, lent, NoFreedomInCode}
use Rattle.theorems.proofs.Refusals.{sheet_numbered, tick_numbered, run_numbered}

-- the definition, that the contract permits it and nothing else, and what it says where it refuses
pub record Defined (c : Call) : Type 0 where
  value : c.Input → c.Outcome
  permitted : (input : c.Input) → c.permits input (value input)
  only : (input : c.Input) (outcome : c.Outcome) → c.permits input outcome → outcome ≡ value input
  numbered : (input : c.Input) → Numbered (c.refusal (value input))
  nothing_else : (input : c.Input) → Refused (c.refusal (value input)) → value input ≡ c.nothing_but input (c.refusal (value input))

pub settled : (c : Call) → Defined c → Settled c
settled c δ = record {
  permitted = λ input. (δ.value input, δ.permitted input);
  no_freedom = λ input one other p q. δ.only input one p ∙ sym (δ.only input other q);
  numbered = λ input outcome p. subst (λ o. Numbered (c.refusal o)) (sym (δ.only input outcome p)) (δ.numbered input);
  nothing_else = λ input outcome p.
      let e = sym (δ.only input outcome p) in
      subst (λ o. Refused (c.refusal o) → o ≡ c.nothing_but input (c.refusal o)) e (δ.nothing_else input);
}

-- a reading with a number is refused
refused_so : {A : Type 0} (r : Reading A) → Refused (why r) → r ≡ refused (why r)
unfolding why
refused_so (read a) l = absurd (omega arith)
refused_so (refused x) l = refl

starts : Defined start_call
starts = record {
  value = λ u. start;
  permitted = λ u. refl;
  only = λ u r e. e;
  numbered = λ u. inl refl;
  nothing_else = λ u l. absurd (omega arith);
}

pub checked : Defined check_call
unfolding check why made
checked = record {
  value = check;
  permitted = λ bytes. refl;
  only = λ bytes r e. e;
  numbered = sheet_numbered;
  nothing_else = λ bytes l. rw (refused_so (read_sheet bytes) l) refl;
}

pub ceiled : Defined ceilings_call
unfolding ceilings why made
ceiled = record {
  value = ceilings;
  permitted = λ bytes. refl;
  only = λ bytes r e. e;
  numbered = sheet_numbered;
  nothing_else = λ bytes l. rw (refused_so (read_sheet bytes) l) refl;
}

pub bounded : Defined bounds_call
unfolding bounds why made
bounded = record {
  value = bounds;
  permitted = λ bytes. refl;
  only = λ bytes r e. e;
  numbered = sheet_numbered;
  nothing_else = λ bytes l. rw (refused_so (read_sheet bytes) l) refl;
}

pub laxed : Defined laxities_call
unfolding laxities why made
laxed = record {
  value = laxities;
  permitted = λ bytes. refl;
  only = λ bytes r e. e;
  numbered = sheet_numbered;
  nothing_else = λ bytes l. rw (refused_so (read_sheet bytes) l) refl;
}

pub ticks : Defined tick_call
unfolding ticked why made told record_after
ticks = record {
  value = λ (bytes, st). ticked bytes st;
  permitted = λ (bytes, st). refl;
  only = λ (bytes, st) r e. e;
  numbered = λ (bytes, st). tick_numbered bytes st;
  nothing_else = λ (bytes, st) l. rw (refused_so (read_tick bytes st) l) refl;
}

pub ticks_in_place : Defined tick_in_place_call
unfolding told record_after ticked why made
ticks_in_place = record {
  value = λ (bytes, st). (told bytes st, record_after bytes st);
  permitted = λ (bytes, st). (refl, refl);
  only = λ (bytes, st) (r, stAfter) (e, f). ap₂ (λ (x : Told) (y : State). (x, y)) e f;
  numbered = λ (bytes, st). tick_numbered bytes st;
  nothing_else = λ (bytes, st) l. rw (refused_so (read_tick bytes st) l) refl;
}

pub runs : Defined run_call
unfolding ran buffer_after why made
runs = record {
  value = λ (bytes, horizon, buffer). (ran bytes horizon buffer, buffer_after bytes horizon buffer);
  permitted = λ (bytes, horizon, buffer). (refl, refl);
  only = λ (bytes, horizon, buffer) (r, bufAfter) (e, f). ap₂ (λ (x : Ran) (y : List ℕ). (x, y)) e f;
  numbered = λ (bytes, horizon, buffer). run_numbered bytes horizon buffer;
  nothing_else = λ (bytes, horizon, buffer) l. rw (refused_so (read_run bytes horizon buffer) l) refl;
}

infixr 3 ◌and◌
pub ◌and◌ : {A B : Type 0} → A → B → A × B
a and b = (a, b)

pub no_freedom : NoFreedom
no_freedom =
    settled start_call starts
    and settled check_call checked
    and settled ceilings_call ceiled
    and settled bounds_call bounded
    and settled laxities_call laxed
    and settled tick_call ticks
    and settled tick_in_place_call ticks_in_place
    and settled run_call runs
    and tt

-- and none in code, since the tie loses nothing
in_code : {Answer : Type 0} (c : Call) (tie : Answer → c.Outcome) → Defined c → LosesNothing tie → InCode c tie
in_code c tie δ kept input one other p q = kept one other ((settled c δ).no_freedom input (tie one) (tie other) p q)

lent_kept : {A B Memory : Type 0} (tie : A → B) → LosesNothing tie → LosesNothing (lent {Memory = Memory} tie)
lent_kept tie kept (one, after) (other, after') e = ap₂ (λ answer memory. (answer, memory)) (kept one other (ap (λ x. x.0) e)) (ap (λ x. x.1) e)

pub no_freedom_in_code : NoFreedomInCode
no_freedom_in_code = record {
  of_start = in_code start_call _ starts (λ one other e. e);
  of_check = in_code check_call checked_in checked tie_loses_nothing.of_check;
  of_ceilings = in_code ceilings_call ceilings_in ceiled tie_loses_nothing.of_ceilings;
  of_bounds = in_code bounds_call bounds_in bounded tie_loses_nothing.of_bounds;
  of_laxities = in_code laxities_call laxities_in laxed tie_loses_nothing.of_laxities;
  of_tick = in_code tick_call ticked_in ticks tie_loses_nothing.of_tick;
  of_tick_in_place = in_code tick_in_place_call (lent told_in) ticks_in_place (lent_kept told_in tie_loses_nothing.of_told);
  of_run = in_code run_call (lent ran_in) runs (lent_kept ran_in tie_loses_nothing.of_run);
}
