-- A step that is well placed gives the nest behind it: a lock has room, and an unlock is of the newest.
use Rattle.std.proofs.Common.{◌<◌, length-set, ◌∙◌, arith}
use Rattle.steps.proofs.Nesting.{behind_run, a_run, a_lock, an_unlock, room, behind_lock, zeros_more, one_open, behind_unlock, still_distinct}
use Rattle.steps.proofs.Nest.enter.Goals as goal

pub bounds-self-inside-self-inside : goal.bounds-self-inside-self-inside
bounds-self-inside-self-inside c =
    search room

pub invariant_of-self-in-Lock : goal.invariant_of-self-in-Lock
invariant_of-self-in-Lock c =
    let few : c.self.inside.depth < 4 = search room in
    let i = c.self.invariant in
    (length-set _ _ _ ∙ i.0, omega arith, zeros_more _ _ _ i.2)

pub overflow_sub-self : goal.overflow_sub-self
overflow_sub-self c =
    search one_open

pub returns-in-Run-clause-value : goal.returns-in-Run-clause-value
returns-in-Run-clause-value c =
    search (behind_run, a_run)

pub returns-in-Run-clause-apart : goal.returns-in-Run-clause-apart
returns-in-Run-clause-apart c = still_distinct _ _ c.requires _ (returns-in-Run-clause-value c)

pub returns-in-Lock-clause-value : goal.returns-in-Lock-clause-value
returns-in-Lock-clause-value c =
    search (behind_lock, a_lock)

pub returns-in-Lock-clause-apart : goal.returns-in-Lock-clause-apart
returns-in-Lock-clause-apart c = still_distinct _ _ c.requires _ (returns-in-Lock-clause-value c)

pub returns-in-Unlock-clause-value : goal.returns-in-Unlock-clause-value
returns-in-Unlock-clause-value c =
    search (behind_unlock, an_unlock)

pub returns-in-Unlock-clause-apart : goal.returns-in-Unlock-clause-apart
returns-in-Unlock-clause-apart c = still_distinct _ _ c.requires _ (returns-in-Unlock-clause-value c)
