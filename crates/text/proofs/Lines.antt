-- Laws of lines: one line more.
use Prim.Native.Nat.{ℕ, ◌+◌}
use mathlib.Core.Path.{◌≡◌, refl, sym}
use mathlib.Core.List.{[], ◌++◌}
use native.Mathlib.Numerals.{add-one}
use Rattle.std.proofs.lemmas.List.{flat_map_more}
use Rattle.rules.specs.Words.{row}
use Rattle.rules.specs.Record.{record_at}
use Rattle.rules.specs.declared.State.{State}
use Rattle.rules.specs.declared.Bound.{Bound}
use Rattle.rules.specs.declared.Laxity.{Laxity}
use Rattle.text.specs.Text.{task_line, task_lines}

module _ (st : State) (bounds : ℕ → Bound) (laxities : ℕ → Laxity) where
  pub no_lines : task_lines 0 st bounds laxities ≡ []
  unfolding task_lines row
  no_lines = refl

  pub lines_more : (i : ℕ) → task_lines (i + 1) st bounds laxities ≡ task_lines i st bounds laxities ++ task_line i (record_at st.tasks i).counts (bounds i) (laxities i)
  unfolding task_lines row
  lines_more i = rw (add-one i) (sym (flat_map_more _ [] (row i λ i. i) i))
