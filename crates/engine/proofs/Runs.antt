-- Laws of a run: where it begins, and one tick more.
use Prim.Native.Nat.{ℕ, suc, ◌+◌, ◌≤◌, ◌<◌}
use mathlib.Core.Path.{◌≡◌, refl, sym, ap, ap₂, ◌∙◌}
use mathlib.Core.List.{List, [], ◌∷◌, ◌++◌, append_assoc}
use Rattle.std.proofs.Common.{append-nil}
use Rattle.std.proofs.lemmas.List.{length-take}
use native.Mathlib.Omega.{arith}
use native.Mathlib.Numerals.{add-one}
use lib.ListN.{length, get_or, set, take, drop, replicate}
use lib.Seq.{drop-cons, set_at}
use Rattle.rules.specs.Words.{row}
use Rattle.rules.specs.Sheet.{Sheet}
use Rattle.rules.specs.Fields.{start}
use Rattle.rules.specs.Record.{possible}
use Rattle.rules.specs.Choice.{runner_byte}
use Rattle.rules.specs.Tick.{runner_of, tick}
use Rattle.rules.specs.Run.{after, trace, written}
use Rattle.rules.specs.declared.State.{State}
use Rattle.rules.specs.declared.Runner.{Runner}
use Rattle.rules.proofs.Laws.{length_row}
use Rattle.rules.proofs.Kept.{start_possible, after_time, after_possible}
use Rattle.table.specs.Table.{Accepted}
use Rattle.table.proofs.Laws.{drop_past}
use Rattle.holders.specs.Holders.{holders}
use Rattle.holders.proofs.Moves.{holders_start}
use Rattle.engine.specs.AtHand.{AtHand, Ready}
use Rattle.engine.specs.declared.Run.{Run}

-- a run that has not ended stands in a state that is ready
pub ready_after : {sheet : Sheet} {k : ℕ} {st : State} → Accepted sheet → k < 60000 → st ≡ after k sheet start → Ready sheet st
ready_after {sheet = sheet} {k = k} α l inv = record {
  accepted = α;
  possible_value = ap (possible sheet) inv ∙ after_possible α.0 sheet α.1 k start (start_possible α.0 sheet α.1) (omega arith);
  early = omega (arith, ap (λ (x : State). x.t) inv, after_time k sheet start);
}

-- at the start
pub after_none : (sheet : Sheet) {st : State} → st ≡ start → st ≡ after 0 sheet start
unfolding after
after_none sheet e = e

-- one tick more
pub after_more : (sheet : Sheet) (k : ℕ) {st next : State} → st ≡ after k sheet start → next ≡ tick sheet st → next ≡ after (k + 1) sheet start
unfolding after
after_more sheet k inv e = e ∙ ap (tick sheet) inv ∙ ap (λ (n : ℕ). after n sheet start) (sym (add-one k))

-- and its byte in the trace
pub written_none : (sheet : Sheet) (buffer : List ℕ) → buffer ≡ written 0 sheet start buffer
unfolding written trace row
written_none sheet buffer = refl

pub written_more : (sheet : Sheet) (k : ℕ) (buffer : List ℕ) {st : State} {x : Runner} {byte : ℕ} {bytes : List ℕ} → st ≡ after k sheet start → x ≡ runner_of sheet st → byte ≡ runner_byte x
    → k < length bytes → length bytes ≡ length buffer → bytes ≡ written k sheet start buffer → set bytes k byte ≡ written (k + 1) sheet start buffer
unfolding written trace row
written_more sheet k buffer {byte = byte} es ex eb l z inv =
    let own : ℕ = runner_byte (runner_of sheet (after k sheet start)) in
    let inside : k < length buffer = omega arith in
    ap (λ (b : List ℕ). set b k byte) (inv ∙ ap (λ (d : List ℕ). trace k sheet start ++ d) (drop-cons buffer k 0 inside))
    ∙ set_at (trace k sheet start) (get_or buffer k 0) (drop (suc k) buffer) byte k (length_row k _)
    ∙ ap (λ (y : ℕ). trace k sheet start ++ (y ∷ drop (suc k) buffer)) (eb ∙ ap runner_byte (ex ∙ ap (runner_of sheet) es))
    ∙ sym (append_assoc (trace k sheet start) (own ∷ []) (drop (suc k) buffer))
    ∙ ap (λ (n : ℕ). written n sheet start buffer) (sym (add-one k))

-- the first h bytes being written, the later ones stay
pub written_front : (sheet : Sheet) (h end k : ℕ) (buffer bytes : List ℕ) → end ≡ h → h ≤ length buffer → length bytes ≡ length (take end buffer) → k ≤ length bytes → length bytes ≤ k
    → bytes ≡ written k sheet start (take end buffer) → bytes ++ drop end buffer ≡ written h sheet start buffer
unfolding written
written_front sheet h end k buffer bytes e l z u v inv =
    let size : length (take end buffer) ≡ h = omega (arith, length-take end buffer) in
    let all : k ≡ h = omega arith in
    let none : drop k (take end buffer) ≡ [] = drop_past (take end buffer) k (omega arith) in
    ap (λ (b : List ℕ). b ++ drop end buffer) (inv ∙ ap (λ (d : List ℕ). trace k sheet start ++ d) none ∙ append-nil (trace k sheet start))
    ∙ ap₂ (λ m n. trace m sheet start ++ drop n buffer) all e

-- at the start nobody holds anything, and a release may come at once
pub hand_start : {run : Run} → run.state ≡ start → run.holders ≡ replicate 16 255 → run.due ≡ 0 → (sheet : Sheet) → AtHand sheet run
hand_start es eh ed sheet = record {
  sized = ap (λ (x : State). length x.tasks) es;
  holders_value = eh ∙ sym (holders_start sheet) ∙ ap (λ (x : State). holders sheet x.tasks) (sym es);
  quiet = λ i l k f u. absurd (omega arith);
}
