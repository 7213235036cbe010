-- So many lines stand there.
use Rattle.std.proofs.Common.{◌≡◌, ◌+◌, ◌*◌, ◌≤◌, ◌++◌}
use Rattle.arrayvec.specs.ArrayVec.{array_vec_len}
use Rattle.text.specs.Room.{task_line_room, bound_at, laxity_at}
use Rattle.text.specs.Text.{task_lines}
use Rattle.text.proofs.put_task_lines.Given as goal

abbrev pub invariant-loop-i : goal.invariant-loop-i
invariant-loop-i g l = record {
  put : l.out.items ≡ l.initial.out.items ++ task_lines l.i l.st (bound_at l.bounds) (laxity_at l.laxities);
  upper_bound : array_vec_len l.out ≤ array_vec_len l.initial.out + task_line_room * l.i;
}
