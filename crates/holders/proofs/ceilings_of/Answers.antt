-- Rank by rank, the smallest so far that has a lock of each semaphore; after the last these are the ceilings.
use Rattle.holders.proofs.Holders.{ranks_none, ceilings_more, ceilings_all, locks_more, locks_same, locks_all}
use Rattle.holders.proofs.ceilings_of.Goals as goal
use Rattle.holders.proofs.ceilings_of.Goals.{then-is_lock, else-is_lock}

pub loop-i-init : goal.loop-i-init
loop-i-init c =
    search ranks_none

pub loop-x-init : goal.loop-x-init
loop-x-init c =
    search ceilings_more

pub loop-x-preserved : goal.loop-x-preserved
loop-x-preserved c =
    elim c.if-is_lock.branch [ then-is_lock w ↦ search locks_more | else-is_lock w ↦ search locks_same ]

pub loop-i-preserved : goal.loop-i-preserved
loop-i-preserved c =
    search locks_all

pub returns : goal.returns
returns c =
    search ceilings_all
