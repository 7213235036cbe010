-- Every record, with its rank, passes the test.
use Rattle.std.proofs.Common.{rules, ◌∙◌}
use Rattle.std.proofs.lemmas.Iterator.{YieldsList-from_slice}
use Rattle.std.proofs.lemmas.Iterator.Consumers.{YieldsList-from_enumerate}
use Rattle.std.proofs.lemmas.Iterator.Search.{all_from_yields_List}
use Rattle.rules.specs.Fields.{blank}
use Rattle.rules.specs.Record.{record_at, record_fits}
use Rattle.table.specs.Table.{sheet_of}
use Rattle.possible.specs.Records.{records_fit}
use Rattle.possible.proofs.Lists.{every_enumerated}
use Rattle.possible.proofs.records_fit.Goals as goal

pub returns : goal.returns
unfolding records_fit record_at
returns c =
    all_from_yields_List (λ p. record_fits (sheet_of c.args.table.now) c.args.st.t p.0 p.1) c.all.new.self _ _ c.all.ensures.ran
    (YieldsList-from_enumerate (YieldsList-from_slice c.args.st.tasks cc) cc) (λ x b q k. search rules)
    ∙ every_enumerated (record_fits (sheet_of c.args.table.now) c.args.st.t) c.args.st.tasks blank 16 (search rules)
