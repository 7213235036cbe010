-- The reader goes through the bytes by a cursor, which is the rest of them. Each reading step answers what was read and the
-- cursor behind it, or a refusal. What is read, and which refusal comes first, stands in the rules: here the cursor beside it.
use Rattle.std.specs.Prelude.{ℕ, ◌*◌, List, [], drop}
use Rattle.rules.specs.Sheet.{Task}
use Rattle.rules.specs.Reading.{Reading, read, ◌>>=◌, TaskHead, read_steps}

-- What is read in the first n bytes, and the rest.
unfoldable pub with_rest : {A : Type 0} → (n : ℕ) (bytes : List ℕ) → Reading A → Reading (A × List ℕ)
with_rest n bytes first = do
  a ← first
  read (a, drop n bytes)

-- The steps of a task with this head, three bytes each.
unfoldable pub steps_there : (m i : ℕ) → TaskHead → (bytes : List ℕ) → Reading (Task × List ℕ)
steps_there m i own bytes = do
  steps ← read_steps m i own.count [] bytes
  read (record { period = own.period; offset = own.offset; steps = steps }, drop (3 * own.count) bytes)
