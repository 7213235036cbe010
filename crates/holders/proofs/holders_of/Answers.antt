-- Rank by rank, the smallest so far that holds each semaphore; after the last these are the holders.
use Rattle.holders.proofs.Holders.{ranks_none, job_holds, job_rests, holders_all}
use Rattle.holders.proofs.holders_of.Goals as goal
use Rattle.holders.proofs.holders_of.Goals.{then-j, else-j}

pub loop-i-init : goal.loop-i-init
loop-i-init c =
    search ranks_none

pub loop-i-preserved : goal.loop-i-preserved
loop-i-preserved c =
    elim c.if-j.branch [ then-j w ↦ search job_holds | else-j w ↦ search job_rests ]

pub returns : goal.returns
returns c =
    search holders_all
