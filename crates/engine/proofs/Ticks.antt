-- Laws of a tick: what each part of it asks, and that the parts are the tick.
use Prim.Native.Nat.{ℕ, ◌+◌, ◌<◌}
use mathlib.Core.Path.{◌≡◌, refl, sym, ap, ap₂, ◌∙◌, subst}
use mathlib.Core.List.{List}
use mathlib.Core.Bool.{true}
use native.Mathlib.Omega.{arith}
use lib.ListN.{length, get_or}
use Rattle.rules.specs.Sheet.{Task, Sheet, task_at}
use Rattle.rules.specs.Fields.{blank, with_tasks}
use Rattle.rules.specs.Record.{record_at, possible}
use Rattle.rules.specs.Choice.{runner}
use Rattle.rules.specs.Tick.{after_releases, after_runner, ran_last, closed, runner_of, tick}
use Rattle.rules.specs.Laws.{MayRun}
use Rattle.rules.specs.declared.TaskRecord.{TaskRecord}
use Rattle.rules.specs.declared.LastJob.{LastJob}
use Rattle.rules.specs.declared.State.{State}
use Rattle.rules.specs.declared.Runner.{Runner}
use Rattle.rules.specs.declared.Runner.TheVariants.{Rank, Stuck, Idle}
use Rattle.rules.proofs.Laws.{length_row}
use Rattle.rules.proofs.Possible.{Possible, possible_parts}
use Rattle.rules.proofs.Kept.{risen, released_rising, released_present, may_run}
use Rattle.table.specs.Table.{Accepted}
use Rattle.holders.specs.Holders.{holders, after_tick}
use Rattle.holders.proofs.Moves.{holders_released, holders_still, holders_ticked}
use Rattle.record.specs.Room.{AllBelow}
use Rattle.choice.specs.Choosable.{Choosable}
use Rattle.choice.proofs.Choosable.{choosable as choosable-released}
use Rattle.effect.specs.Effect.{Quiet}
use Rattle.engine.specs.AtHand.{AtHand, Ready, after_runner_tick}

pub ready : {sheet : Sheet} {st : State} → Accepted sheet → possible sheet st ≡ true → st.t < 60000 → Ready sheet st
ready a p e = record { accepted = a; possible_value = p; early = e }

-- a state that is ready has room to count on
module _ {sheet : Sheet} {st : State} (ρ : Ready sheet st) where
  parts : Possible sheet st
  parts = possible_parts sheet st ρ.possible_value

  pub room : AllBelow 65535 st.tasks
  room i l = let p = parts in let e = ρ.early in (λ k. omega (arith, p.counts i l k), omega (arith, (p.present i l).0))

-- after its releases, the table being the sheet's,
pub record Released (sheet : Sheet) (st a : State) : Type 0 where
  pub ready : Ready sheet st
  pub value : a ≡ with_tasks st (after_releases sheet st)

pub released : {sheet table : Sheet} {st a : State} → table ≡ sheet → Ready sheet st → a ≡ with_tasks st (after_releases table st) → Released sheet st a
released {st = st} te ρ ea = record { ready = ρ; value = ea ∙ ap (λ (s : Sheet). with_tasks st (after_releases s st)) te }

module _ {sheet : Sheet} {st a : State} (α : Released sheet st a) where
  records : a.tasks ≡ after_releases sheet st
  records = ap (λ (x : State). x.tasks) α.value

  -- it has room still, and leaves the choice nothing open
  pub room_after : AllBelow 65535 a.tasks
  room_after i l =
      let p = parts α.ready in
      let e = α.ready.early in
      rw records (
        λ k. omega (arith, risen st.t (record_at (after_releases sheet st) i).counts (released_rising α.ready.accepted.0 sheet α.ready.accepted.1 st p i l) k),
        omega (arith, (released_present α.ready.accepted.0 sheet α.ready.accepted.1 st p i l).0),
      )

  pub sized_after : length a.tasks ≡ 16
  unfolding after_releases
  sized_after = ap length records ∙ length_row 16 _

  pub time_after : a.t < 65535
  time_after = omega (arith, α.ready.early, ap (λ (x : State). x.t) α.value)

  pub choosable : Choosable sheet a.tasks
  choosable = subst (Choosable sheet) (sym records) (choosable-released α.ready.accepted.0 sheet α.ready.accepted.1 st (parts α.ready))

  pub holders_kept : {hs : List ℕ} → hs ≡ holders sheet st.tasks → hs ≡ holders sheet a.tasks
  holders_kept eh = eh ∙ sym (holders_released α.ready.accepted.0 sheet α.ready.accepted.1 st (parts α.ready)) ∙ ap (holders sheet) (sym records)

  module _ {x : Runner} (ex : x ≡ runner sheet a.tasks) where
    chosen : runner sheet (after_releases sheet st) ≡ x
    chosen = ap (runner sheet) (sym records) ∙ sym ex

    pub runner_value : x ≡ runner_of sheet st
    unfolding runner_of
    runner_value = sym chosen

    pub runner_inside : (i : ℕ) → x ≡ Rank i → i < length sheet.tasks
    runner_inside i z = (may_run α.ready.accepted.0 sheet α.ready.accepted.1 st (parts α.ready) i (chosen ∙ z)).rank

-- the parts of a tick are the tick
pub tick_parts : (sheet : Sheet) (st a b r : State) (x : Runner) (last : LastJob) → a ≡ with_tasks st (after_releases sheet st) → x ≡ runner sheet a.tasks → last ≡ ran_last x a.tasks a.last
    → b ≡ with_tasks a (after_runner x sheet a.t a.tasks) → r ≡ closed b last b.tasks → r ≡ tick sheet st
unfolding tick runner_of closed
tick_parts sheet st a b r x last ea ex el eb er =
    let rs = after_releases sheet st in
    er ∙ ap (λ (y : State). closed y last y.tasks) (eb ∙ ap (λ (y : State). with_tasks y (after_runner x sheet y.t y.tasks)) ea)
    ∙ ap (λ (j : LastJob). closed st j (after_runner x sheet st.t rs)) (el ∙ ap (λ (y : State). ran_last x y.tasks y.last) ea)
    ∙ ap (λ (y : Runner). closed st (ran_last y rs st.last) (after_runner y sheet st.t rs)) (ex ∙ ap (λ (y : State). runner sheet y.tasks) ea)

-- and after the runner
pub record Spent (sheet : Sheet) (st a : State) (x : Runner) (b : State) : Type 0 where
  pub released : Released sheet st a
  pub chosen : x ≡ runner sheet a.tasks
  pub value : b ≡ with_tasks a (after_runner x sheet a.t a.tasks)

pub spent : {sheet table : Sheet} {st a b : State} {x : Runner} → table ≡ sheet → Released sheet st a → x ≡ runner sheet a.tasks
    → b ≡ with_tasks a (after_runner x table a.t a.tasks) → Spent sheet st a x b
spent {a = a} {x = x} te α ex eb = record { released = α; chosen = ex; value = eb ∙ ap (λ (s : Sheet). with_tasks a (after_runner x s a.t a.tasks)) te }

module _ {sheet : Sheet} {st a b : State} {x : Runner} (β : Spent sheet st a x b) where
  abbrev bytes : List ℕ
  bytes = β.released.ready.accepted.0

  abbrev rs : List TaskRecord
  rs = after_releases sheet st

  abbrev next : List TaskRecord
  next = after_runner x sheet st.t rs

  may : (i : ℕ) → x ≡ Rank i → MayRun sheet rs i
  may i z = may_run bytes sheet β.released.ready.accepted.1 st (parts β.released.ready) i (chosen β.released β.chosen ∙ z)

  -- of the state before the tick
  whole : b ≡ with_tasks st (after_runner x sheet st.t (after_releases sheet st))
  whole = β.value ∙ ap (λ (y : State). with_tasks y (after_runner x sheet y.t y.tasks)) β.released.value

  pub switches_spent : b.switches < 65535
  switches_spent = omega (arith, (parts β.released.ready).switches, β.released.ready.early, ap (λ (y : State). y.switches) whole)

  -- the holders at hand
  pub holders_spent : {hs held : List ℕ} → hs ≡ holders sheet a.tasks → held ≡ after_runner_tick x sheet a.tasks b.tasks hs → held ≡ holders sheet b.tasks
  holders_spent {hs = hs} eh ed =
      ed ∙ ap₂ (λ (ys : List TaskRecord) (us : List ℕ). after_runner_tick x sheet ys b.tasks us) (records β.released) (eh ∙ ap (holders sheet) (records β.released))
      ∙ ap (λ (ys : List TaskRecord). after_runner_tick x sheet rs ys (holders sheet rs)) (ap (λ (y : State). y.tasks) whole)
      ∙ go x refl ∙ ap (holders sheet) (sym (ap (λ (y : State). y.tasks) whole))
    where
      go : (y : Runner) → x ≡ y → after_runner_tick y sheet rs next (holders sheet rs) ≡ holders sheet next
      go (Rank i) z = sym (holders_ticked bytes sheet β.released.ready.accepted.1 st (parts β.released.ready) x may i z)
      go Stuck z = sym (holders_still bytes sheet β.released.ready.accepted.1 st (parts β.released.ready) x may (λ i u. let c = sym z ∙ u in cc))
      go Idle z = sym (holders_still bytes sheet β.released.ready.accepted.1 st (parts β.released.ready) x may (λ i u. let c = sym z ∙ u in cc))

  sized_spent : length b.tasks ≡ 16
  unfolding after_runner
  sized_spent = ap (λ (y : State). length y.tasks) whole ∙ length_row 16 _

  module _ {last : LastJob} {next : State} (el : last ≡ ran_last x a.tasks a.last) (er : next ≡ closed b last b.tasks) where
    pub tick_value : next ≡ tick sheet st
    tick_value = tick_parts sheet st a b next x last β.released.value β.chosen el β.value er

    records_stay : next.tasks ≡ b.tasks
    unfolding closed
    records_stay = ap (λ (y : State). y.tasks) er

    time_on : next.t ≡ st.t + 1
    unfolding closed
    time_on = ap (λ (y : State). y.t) er ∙ ap (λ (y : State). y.t + 1) whole

    -- and the next one has at hand what this one had
    pub hand_on : {hs held : List ℕ} {table : Sheet} {due due' : ℕ} → table ≡ sheet → hs ≡ holders sheet a.tasks → held ≡ after_runner_tick x table a.tasks b.tasks hs
        → Quiet (st.t + 1) due table → due' ≡ due → AtHand sheet (record { state = next; holders = held; due = due' })
    hand_on {hs = hs} te eh ed quiet e = record {
      sized = ap length records_stay ∙ sized_spent;
      holders_value = holders_spent eh (ed ∙ ap (λ (s : Sheet). after_runner_tick x s a.tasks b.tasks hs) te) ∙ ap (holders sheet) (sym records_stay);
      quiet = λ i l k f h. let t = time_on in subst (Quiet (st.t + 1) _) te quiet i l k (omega arith) (omega arith);
    }

-- the holders are passed on with the runner's rank, and stay where nobody runs
pub passed : (sheet : Sheet) (before after : List TaskRecord) (hs : List ℕ) {x : Runner} {held : List ℕ} {i rank : ℕ} {task : Task} → x ≡ Rank rank → i ≡ rank → task ≡ task_at sheet i
    → held ≡ after_tick rank task (get_or before i blank).job (get_or after i blank).job hs → held ≡ after_runner_tick x sheet before after hs
unfolding record_at
passed sheet before after hs {i = i} {rank = rank} {task = task} ex ei et ed =
    let e : after_tick rank task (get_or before i blank).job (get_or after i blank).job hs ≡ after_tick rank (task_at sheet rank) (get_or before rank blank).job (get_or after rank blank).job hs = cc in
    ed ∙ e ∙ ap (λ (y : Runner). after_runner_tick y sheet before after hs) (sym ex)

pub unmoved : (x : Runner) → ((k : ℕ) → x ≡ Rank k → ⊥) → (sheet : Sheet) (before after : List TaskRecord) (hs : List ℕ) → hs ≡ after_runner_tick x sheet before after hs
unmoved (Rank k) n sheet before after hs = absurd (n k refl)
unmoved Stuck n sheet before after hs = refl
unmoved Idle n sheet before after hs = refl
