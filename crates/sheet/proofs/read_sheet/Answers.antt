-- The table is that of a sheet that these bytes are.
use Rattle.std.proofs.Common.{ap, ◌∙◌, arith}
use Rattle.rules.specs.Sheet.{Sheet}
use Rattle.rules.specs.Reading.{read}
use Rattle.table.specs.Tasks.{sheet_with}
use Rattle.sheet.proofs.Parts.{parts_in_turn}
use Rattle.sheet.proofs.read_sheet.Goals as goal

pub of_bytes-requires-clause-reads : goal.of_bytes-requires-clause-reads
unfolding sheet_with
of_bytes-requires-clause-reads c =
    grind (arith, parts_in_turn)

pub returns : goal.returns
unfolding sheet_with
returns c =
    ap (λ (x : Sheet). read x) c.of_bytes.ensures ∙ grind (arith, parts_in_turn)
