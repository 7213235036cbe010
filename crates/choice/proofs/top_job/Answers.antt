-- The records are asked by rank, the first n of them.
use Rattle.std.proofs.Common.{◌≡◌, rules, true, false, take}
use Rattle.std.proofs.lemmas.Iterator.{YieldsList-from_slice, IsFirst-from_position}
use borrow.Author.Tests.{tests}
use Rattle.rules.specs.declared.TaskRecord.{TaskRecord}
use Rattle.choice.proofs.Tops.{top_found}
use Rattle.choice.proofs.top_job.Goals as goal

pub returns : goal.returns
returns c =
    let z = IsFirst-from_position _ _ c.position.result (λ (r : TaskRecord). r.job.pending ≡ true) (λ (r : TaskRecord). r.job.pending ≡ false) c.position.ensures.ran (YieldsList-from_slice (take c.args.n c.args.st.now.tasks) cc) (λ x q k. search (rules, tests)) (λ x q k. search (rules, tests)) in
    let t = top_found c.args.st.now.tasks c.args.n c.requires.n_bound c.requires.by_index c.position.result z in
    search rules
