-- So many words stand there.
use Rattle.std.proofs.Common.{◌≡◌, ◌+◌, ◌*◌, ◌≤◌, ◌++◌, take}
use Rattle.std.specs.List.{flat_map}
use Rattle.arrayvec.specs.ArrayVec.{array_vec_len}
use Rattle.words.specs.Room.{tick_room}
use Rattle.words.specs.Words.{tick_word}
use Rattle.text.proofs.put_trace_line.Given as goal

abbrev pub invariant-loop-x : goal.invariant-loop-x
invariant-loop-x g l = record {
  put : l.out.items ≡ l.initial.out.items ++ flat_map tick_word (take l.x-index l.trace);
  upper_bound : array_vec_len l.out ≤ array_vec_len l.initial.out + tick_room * l.x-index;
}
