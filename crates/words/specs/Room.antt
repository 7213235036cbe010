-- THE ROOM that is asked for a text before its bytes are known. A number of 32 bits has at most ten digits, and a field is a
-- word of at most ten bytes and a number behind it.
use Rattle.std.specs.Prelude.{ℕ, ◌+◌, ◌*◌}

abbrev pub word_room : ℕ
word_room = 10

abbrev pub number_room : ℕ
number_room = 10

abbrev pub field_room : ℕ
field_room = word_room + number_room

-- A laxity of 32 bits may have a sign.
abbrev pub laxity_room : ℕ
laxity_room = 1 + number_room

-- What gives a bound has two fields at most.
abbrev pub given_by_room : ℕ
given_by_room = 2 * field_room

-- A tick's word in the trace line has a space and at most three bytes; to write it, room for a number is asked.
abbrev pub tick_room : ℕ
tick_room = 4
