-- The tasks so far are read.
use Rattle.std.proofs.Common.{◌≡◌, length, take, map}
use Rattle.table.specs.Tasks.{task_of}
use Rattle.sheet.proofs.Tasks.{Taking}
use Rattle.sheet.proofs.read_tasks.Given as goal

abbrev pub invariant-loop-i : goal.invariant-loop-i
invariant-loop-i l =
    record {
      sized : length l.tasks ≡ 16;
      taking : Taking l.head l.bytes (take l.i (map task_of l.tasks)) l.rest l.i;
    }
