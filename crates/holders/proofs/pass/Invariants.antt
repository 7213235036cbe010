-- The steps passed, then those ahead, give the entries of the whole stretch.
use Rattle.std.proofs.Common.{◌≡◌, drop, map}
use Rattle.table.specs.Steps.{said}
use Rattle.holders.specs.Holders.{after_steps}
use Rattle.holders.proofs.pass.Given as goal

abbrev pub invariant-loop-x : goal.invariant-loop-x
invariant-loop-x l = after_steps l.i (map said (drop l.x-index l.x-items)) l.hs ≡ after_steps l.i (map said l.x-items) l.initial.hs
