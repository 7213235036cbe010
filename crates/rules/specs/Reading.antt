-- WHEN A CALL IS TURNED AWAY: the bytes of a sheet give the sheet or a refusal, 1 to 13.
use Rattle.std.specs.Prelude.{ℕ, zero, suc, ◌+◌, ◌*◌, List, [], ◌∷◌, ◌++◌, reverse, Bool, true, false, not, ◌&&◌, ◌||◌, length, get_or, take, drop, if◌then◌else◌}
use Rattle.rules.specs.Words.{◌<?◌, ◌≤?◌, ◌=?◌, within, any, among}
use Rattle.rules.specs.Sheet.{Step, run, lock, unlock, Task, Sheet, is_lock, held}
use Rattle.rules.specs.declared.Head.{Head}

-- A refusal gives its number, the task's rank and the step's index.
pub record Numbers : Type 0 where
  pub number : ℕ
  pub rank : ℕ
  pub step : ℕ

abbrev pub refusal : (number rank step : ℕ) → Numbers
refusal number rank step = record { number = number; rank = rank; step = step }

-- What is read, or why not. The first refusal in reading order counts.
pub data Reading (A : Type 0) : Type 0 where
  read : A → Reading A
  refused : Numbers → Reading A

infixl 1 ◌>>=◌ ◌>>◌
unfoldable pub ◌>>=◌ : {A B : Type 0} → Reading A → (A → Reading B) → Reading B
◌>>=◌ (read a) rest = rest a
◌>>=◌ (refused x) rest = refused x

abbrev pub ◌>>◌ : {B : Type 0} → Reading (Unit {0}) → Reading B → Reading B
◌>>◌ test rest = test >>= λ passed. rest

-- A number is given when its test says so: for a step of a task, for a task, for the whole.
infix 5 refuse◌of◌at◌when◌ refuse◌of◌when◌ refuse◌when◌
unfoldable pub refuse◌of◌at◌when◌ : (number rank step : ℕ) → Bool → Reading (Unit {0})
refuse◌of◌at◌when◌ number rank step true = refused (refusal number rank step)
refuse◌of◌at◌when◌ number rank step false = read tt

abbrev pub refuse◌of◌when◌ : (number rank : ℕ) → Bool → Reading (Unit {0})
refuse◌of◌when◌ number rank test = refuse number of rank at 0 when test

abbrev pub refuse◌when◌ : (number : ℕ) → Bool → Reading (Unit {0})
refuse◌when◌ number test = refuse number of 0 at 0 when test

-- Big-endian. Past the end stands 0; 1 and 7 come before what is read there.
unfoldable pub byte : (bytes : List ℕ) (k : ℕ) → ℕ
byte bytes k = get_or bytes k 0

unfoldable pub word : (bytes : List ℕ) (k : ℕ) → ℕ
word bytes k = byte bytes k * 256 + byte bytes (k + 1)

-- The mark is 4C 54 53.
unfoldable pub marked : (bytes : List ℕ) → Bool
marked bytes = byte bytes 0 =? 0x4C && byte bytes 1 =? 0x54 && byte bytes 2 =? 0x53

-- The head of the sheet: 1 to 6 in turn. The tasks stand behind its eight bytes.
unfoldable pub read_head : (bytes : List ℕ) → Reading Head
read_head bytes = do
  let n = byte bytes 5
  let m = byte bytes 6
  let mode = byte bytes 7
  refuse 1 when length bytes <? 8
  refuse 2 when not (marked bytes)
  refuse 3 when not (word bytes 3 =? 1)
  refuse 4 when not (within 1 16 n)
  refuse 5 when 16 <? m
  refuse 6 when 1 <? mode
  read (record { n = n; semaphores = m; mode = mode })

-- A task's head: a 16-bit period, a 16-bit offset and a step count.
pub record TaskHead : Type 0 where
  pub period : ℕ
  pub offset : ℕ
  pub count : ℕ

-- It has five bytes, whatever the head of the sheet says.
unfoldable pub head_length : Head → ℕ
head_length head = 5

-- The longest sheet whose tasks have heads of that length has sixteen tasks, of 64 steps each.
unfoldable pub longest_task : Head → ℕ
longest_task head = head_length head + 3 * 64

unfoldable pub longest_sheet : Head → ℕ
longest_sheet head = 8 + 16 * longest_task head

-- The head of task i, at the front of the bytes: 7 for the head, 8, 9, 10, 7 for the steps.
unfoldable pub read_task_head : Head → (i : ℕ) (bytes : List ℕ) → Reading TaskHead
read_task_head head i bytes = do
  let period = word bytes 0
  let offset = word bytes 2
  let count = byte bytes 4
  refuse 7 of i when length bytes <? head_length head
  refuse 8 of i when not (within 1 10000 period)
  refuse 9 of i when not (offset <? period)
  refuse 10 of i when not (within 1 64 count)
  refuse 7 of i when length bytes <? head_length head + 3 * count
  read (record { period = period; offset = offset; count = count })

-- Kind 1 runs for 1 to 1,000 ticks; kind 2 locks and kind 3 unlocks the semaphore of that number, below m.
unfoldable pub known : (m kind value : ℕ) → Bool
known m kind value = if kind =? 1 then within 1 1000 value else within 2 3 kind && value <? m

-- The step of a kind that is known: right only behind 11.
unfoldable pub step_of : (kind value : ℕ) → Step
step_of kind value = if kind =? 1 then run value else if kind =? 2 then lock value else unlock value

-- 12: lock of a semaphore already held, fifth level, unlock of any but the newest held, unlock directly after a lock.
unfoldable pub misplaced_in : (held : List ℕ) (after_lock : Bool) → Step → Bool
misplaced_in held after_lock (run n) = false
misplaced_in held after_lock (lock s) = among s held || 4 ≤? length held
misplaced_in held after_lock (unlock s) = not (among s (take 1 held)) || after_lock

-- Behind some steps: by what they hold, and by whether the last of them is a lock.
unfoldable pub after_lock : (before : List Step) → Bool
after_lock before = any is_lock (take 1 (reverse before))

unfoldable pub misplaced : (before : List Step) → Step → Bool
misplaced before step = misplaced_in (held before) (after_lock before) step

-- A step of task i, at the front of the bytes, behind those before it: 11 before 12.
unfoldable pub read_step : (m i : ℕ) (before : List Step) (bytes : List ℕ) → Reading Step
read_step m i before bytes = do
  let kind = byte bytes 0
  let value = word bytes 1
  refuse 11 of i at length before when not (known m kind value)
  refuse 12 of i at length before when misplaced before (step_of kind value)
  read (step_of kind value)

-- n more steps of task i, behind those before them: step by step; at the end 12, at the step count, for sections open.
unfoldable pub read_steps : (m i n : ℕ) (before : List Step) (bytes : List ℕ) → Reading (List Step)
read_steps m i zero before bytes = do
  refuse 12 of i at length before when 1 ≤? length (held before)
  read before
read_steps m i (suc n) before bytes = do
  step ← read_step m i before bytes
  read_steps m i n (before ++ (step ∷ [])) (drop 3 bytes)

-- Task i, at the front of the bytes, and the bytes behind it: its head, then its steps.
unfoldable pub read_task : Head → (i : ℕ) (bytes : List ℕ) → Reading (Task × List ℕ)
read_task head i bytes = do
  own ← read_task_head head i bytes
  steps ← read_steps head.semaphores i own.count [] (drop (head_length head) bytes)
  read (record { period = own.period; offset = own.offset; steps = steps }, drop (head_length head + 3 * own.count) bytes)

-- Each task by rank: n of them, the first of rank i.
unfoldable pub read_tasks : Head → (i n : ℕ) (bytes : List ℕ) → Reading (List Task × List ℕ)
read_tasks head i zero bytes = read ([], bytes)
read_tasks head i (suc n) bytes = do
  (task, rest) ← read_task head i bytes
  (tasks, end) ← read_tasks head (i + 1) n rest
  read (task ∷ tasks, end)

-- The sheet: its head, then each task, then 13.
unfoldable pub read_sheet : (bytes : List ℕ) → Reading Sheet
read_sheet bytes = do
  head ← read_head bytes
  (tasks, rest) ← read_tasks head 0 head.n (drop 8 bytes)
  refuse 13 when 1 ≤? length rest
  read (record { mode = head.mode; semaphores = head.semaphores; tasks = tasks })
