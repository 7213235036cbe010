-- The choice is open to a possible state after its releases.
use mathlib.Core.Path.{◌≡◌, ap}
use mathlib.Core.List.{List}
use Prim.Native.Nat.{ℕ}
use Rattle.rules.specs.Sheet.{Sheet}
use Rattle.rules.specs.Reading.{read, read_sheet}
use Rattle.rules.specs.Tick.{after_releases}
use Rattle.rules.specs.declared.TaskRecord.{TaskRecord}
use Rattle.rules.specs.declared.State.{State}
use Rattle.rules.proofs.Possible.{Possible, none_by_two}
use Rattle.rules.proofs.Kept.{released_single, released_past}
use Rattle.choice.specs.Choosable.{Choosable}

pub choosable : (bytes : List ℕ) (sheet : Sheet) → read_sheet bytes ≡ read sheet → (st : State) → Possible sheet st → Choosable sheet (after_releases sheet st)
choosable bytes sheet e st π = record {
  few = λ i l u. ap (λ (r : TaskRecord). r.job.pending) (released_past bytes sheet e st π i l u);
  single = none_by_two sheet (after_releases sheet st) (released_single bytes sheet e st π);
}
