-- Bytes that are read as a sheet show that the sheet's own are.
use Rattle.table.proofs.Bytes.{read_again}
use Rattle.table.proofs.Table.of_bytes.Goals as goal

pub invariant_of-result-clause-reads : goal.invariant_of-result-clause-reads
invariant_of-result-clause-reads c = read_again _ _ c.requires.reads
