use Rattle.std.proofs.Common.{◌≡◌, drop, unwrap_or}
use Rattle.rules.specs.Words.{largest}
use Rattle.table.specs.Tasks.{task_of}
use Rattle.bounds.specs.Sections.{counted_section}
use Rattle.bounds.proofs.longest_section.Given as goal

abbrev pub invariant-loop-k : goal.invariant-loop-k
invariant-loop-k l = l.longest ≡ largest l.k (λ k. unwrap_or (counted_section l.plan l.i (drop k (task_of l.task).steps)) 0)
