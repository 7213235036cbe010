-- The tasks of the sheet stand in front; that some bytes are read as it shows that its own are.
use Rattle.std.proofs.Common.{◌≡◌, refl, sym, subst, length, map, arith}
use Rattle.std.proofs.lemmas.List.{take-map}
use Rattle.rules.specs.Sheet.{Sheet}
use Rattle.rules.specs.Reading.{read, read_sheet}
use Rattle.table.specs.Bytes.{sheet_bytes}
use Rattle.table.specs.Tasks.{task_of, sheet_with}
use Rattle.table.specs.Table.{sheet_of}
use Rattle.table.proofs.Laws.{taken_out}
use Rattle.table.proofs.Bytes.{read_again}
use Rattle.table.proofs.Table.new.Goals as goal

-- the array is the full row
all : (c : goal.After-unwrap_or-tasks) → c.unwrap_or-tasks.result ≡ c.loop.tasks.items
all c =
    let full : length c.loop.tasks.items ≡ 16 = omega (arith, c.loop.invariant.counted, c.loop-test.false, c.loop.auto.counter-end) in
    taken_out c.into_inner.result _ c.unwrap_or-tasks.result c.loop.tasks.items (c.into_inner.ensures.variant.1 full) c.into_inner.ensures.ok c.unwrap_or-tasks.ensures

-- and those in front make the sheet
same : (c : goal.After-unwrap_or-tasks) → sheet_with (record { n = c.len-n.result; semaphores = c.args.semaphores; mode = c.args.mode }) (map task_of c.unwrap_or-tasks.result)
    ≡ record { mode = c.args.mode; semaphores = c.args.semaphores; tasks = map task_of c.args.tasks.items }
unfolding sheet_with
same c = rw (all c, take-map task_of c.len-n.result c.loop.tasks.items, c.loop.invariant.same) refl

pub invariant_of-result-clause-sized : goal.invariant_of-result-clause-sized
invariant_of-result-clause-sized c = rw (all c) (omega (arith, c.loop.invariant.counted, c.loop-test.false, c.loop.auto.counter-end))

pub invariant_of-result-clause-reads : goal.invariant_of-result-clause-reads
invariant_of-result-clause-reads c = subst (λ (sheet : Sheet). read_sheet (sheet_bytes sheet) ≡ read sheet) (sym (same c)) (read_again c.requires.0 _ c.requires.1)

pub returns : goal.returns
unfolding sheet_of
returns c = same c.before
