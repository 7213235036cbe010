-- The steps of a task, one by one.
use Rattle.std.proofs.Common.{ℕ, zero, suc, ◌+◌, ◌-◌, ◌*◌, ◌≤◌, ◌<◌, ◌≡◌, refl, sym, ap, subst, ◌∙◌, ◌/◌, Bool, true, false, not, List, [], ◌∷◌, ◌++◌, length, map, take, drop, drop-drop, arith}
use Rattle.std.proofs.lemmas.List.{take-take, drop-take, get_or-take, length-take-le}
use Rattle.std.specs.Simd.{first_chunks}
use Rattle.rules.specs.Words.{◌≤?◌}
use Rattle.rules.specs.Sheet.{Step, run, lock, unlock, Task, held, held_on_top}
use Rattle.rules.specs.Reading.{Reading, byte, word, read, refused, refusal, Numbers, ◌>>=◌, refuse◌of◌at◌when◌, TaskHead, misplaced, read_step, read_steps}
use Rattle.steps.specs.Nesting.{Open, open_behind, open_with}
use Rattle.rules.proofs.Reading.{both_read, got, step_passed}
use Rattle.table.specs.Steps.{said}
use Rattle.rules.specs.Laws.{All, Distinct, StepLimits}
use Rattle.steps.proofs.Nesting.{behind_placed}
use Rattle.sheet.specs.Reader.{with_rest, steps_there}
use Rattle.sheet.proofs.Turns.{then_then, in_turn}

-- the first k steps that stand in some bytes
unfoldable pub said_first : (k : ℕ) (bytes : List ℕ) → List Step
said_first k bytes = map said (first_chunks 3 k bytes)

pub many_first : (k : ℕ) (bytes : List ℕ) → length (said_first k bytes) ≡ k
unfolding said_first
many_first zero bytes = refl
many_first (suc k) bytes = ap (λ (n : ℕ). suc n) (many_first k (drop 3 bytes))

more_first : (k : ℕ) (bytes : List ℕ) → said_first (k + 1) bytes ≡ said_first k bytes ++ (said (take 3 (drop (3 * k) bytes)) ∷ [])
unfolding said_first
more_first zero bytes = refl
more_first (suc k) bytes =
    let place : 3 + 3 * k ≡ 3 * suc k = omega arith in
    let next : suc k + 1 ≡ suc (k + 1) = omega arith in
    let there : drop (3 * k) (drop 3 bytes) ≡ drop (3 * suc k) bytes = drop-drop (3 * k) 3 bytes ∙ ap (λ (n : ℕ). drop n bytes) place in
    rw (next, ← there) (ap (λ (more : List Step). said (take 3 bytes) ∷ more) (more_first k (drop 3 bytes)))

-- what stands in front of the bytes alone are the same steps
pub first_taken : (c : ℕ) (bytes : List ℕ) → first_chunks 3 c (take (3 * c) bytes) ≡ first_chunks 3 c bytes
first_taken zero bytes = refl
first_taken (suc c) bytes =
    let three : 3 * suc c ≡ 3 + 3 * c = omega arith in
    rw (three, drop-take 3 (3 * c) bytes, first_taken c (drop 3 bytes), take-take 3 (3 + 3 * c) bytes (omega arith)) refl

-- a step that is read is what its three bytes say
step_said : (m i : ℕ) (before : List Step) (bytes : List ℕ) (x : Step) → read_step m i before bytes ≡ read x → x ≡ said (take 3 bytes)
unfolding read_step
step_said m i before bytes x e =
    let passed = both_read _ _ x e in
    let placed = both_read _ _ x passed.2 in
    sym (got _ x placed.2) ∙ unfold said byte word in rw (get_or-take 3 bytes 0 0 (omega arith), get_or-take 3 bytes 1 0 (omega arith), get_or-take 3 bytes 2 0 (omega arith)) refl

-- what holds of some and of one more, and a limit that is wider
all_more : (P : Step → Type 0) (xs : List Step) (x : Step) → All P xs → P x → All P (xs ++ (x ∷ []))
all_more P [] x h p = (p, tt)
all_more P (y ∷ ys) x h p = (h.0, all_more P ys x h.1 p)

wider : (m : ℕ) (x : Step) → m ≤ 16 → StepLimits m x → StepLimits 16 x
wider m (run n) l h = h
wider m (lock s) l h = omega (arith, h)
wider m (unlock s) l h = omega (arith, h)

-- the steps that are left to read give the whole
pub record Going (m i : ℕ) (own : TaskHead) (bytes : List ℕ) (nest : Open) (rest : List ℕ) (k : ℕ) : Type 0 where
  pub opens : nest ≡ open_behind (said_first k bytes)
  pub apart : Distinct (held (said_first k bytes))
  pub limits : All (StepLimits 16) (said_first k bytes)
  pub cursor : rest ≡ drop (3 * k) bytes
  pub left : read_steps m i (own.count - k) (said_first k bytes) rest ≡ read_steps m i own.count [] bytes

-- one more of them, and none
pub steps_more : (m i n : ℕ) (before : List Step) (bytes : List ℕ) → 1 ≤ n
    → read_steps m i n before bytes ≡ (with_rest 3 bytes (read_step m i before bytes) >>= λ x. read_steps m i (n - 1) (before ++ (x.0 ∷ [])) x.1)
unfolding read_steps with_rest ◌>>=◌
steps_more m i zero before bytes l = absurd (omega arith)
steps_more m i (suc n) before bytes l = let z : suc n - 1 ≡ n = omega arith in rw z (sym (then_then (read_step m i before bytes) _ _))

pub steps_none : (m i n : ℕ) (before : List Step) (bytes : List ℕ) → n ≤ 0
    → read_steps m i n before bytes ≡ (refuse◌of◌at◌when◌ 12 i (length before) (1 ≤? length (held before)) >>= λ u. read before)
unfolding read_steps
steps_none m i zero before bytes l = refl
steps_none m i (suc n) before bytes l = absurd (omega arith)

pub ruleset steps_in_turn = (in_turn, steps_more, steps_none)

-- the whole from what is left: a step is refused; at the end sections are open, or none is
module _ (m i : ℕ) (own : TaskHead) (bytes rest : List ℕ) (k : ℕ) (before : List Step) (left : read_steps m i (own.count - k) before rest ≡ read_steps m i own.count [] bytes) where
  pub step_refused : k < own.count → (x : Numbers) → refused x ≡ with_rest 3 rest (read_step m i before rest) → refused x ≡ steps_there m i own bytes
  unfolding steps_there
  step_refused l x e = grind (arith, steps_in_turn)

  pub sections_open : own.count ≤ k → length before ≡ own.count → (1 ≤? length (held before)) ≡ true → refused (refusal 12 i own.count) ≡ steps_there m i own bytes
  unfolding steps_there
  sections_open l many e = grind (arith, steps_in_turn)

  pub steps_stand : own.count ≤ k → (1 ≤? length (held before)) ≡ false
      → read (record { period = own.period; offset = own.offset; steps = before }, drop (3 * own.count) bytes) ≡ steps_there m i own bytes
  unfolding steps_there
  steps_stand l e = grind (arith, steps_in_turn)

-- one more turn
pub going_more : (m i : ℕ) (own : TaskHead) (bytes : List ℕ) (nest : Open) (rest : List ℕ) (k : ℕ) → Going m i own bytes nest rest k
    → k < own.count → m ≤ 16 → (x : Step) (next : List ℕ) → read (x, next) ≡ with_rest 3 rest (read_step m i (said_first k bytes) rest)
    → StepLimits m x → (nest' : Open) → nest' ≡ open_with nest x → Going m i own bytes nest' next (k + 1)
unfolding with_rest ◌>>=◌
going_more m i own bytes nest rest k γ l few x next e lim nest' en =
    let one = both_read (read_step m i (said_first k bytes) rest) _ (x, next) (sym e) in
    let got_one = got _ (x, next) one.2 in
    let behind : drop 3 rest ≡ next = ap (λ (p : Step × List ℕ). p.1) got_one in
    let place : 3 * k + 3 ≡ 3 * (k + 1) = omega arith in
    let stands : x ≡ said (take 3 (drop (3 * k) bytes)) =
    sym (ap (λ (p : Step × List ℕ). p.0) got_one) ∙ step_said m i (said_first k bytes) rest one.0 one.1 ∙ ap (λ (r : List ℕ). said (take 3 r)) γ.cursor in
    let more : said_first (k + 1) bytes ≡ said_first k bytes ++ (x ∷ []) = rw stands (more_first k bytes) in
    let count = many_first k bytes in
    let placed : misplaced (said_first k bytes) x ≡ false =
    subst (λ (y : Step). misplaced (said_first k bytes) y ≡ false) (ap (λ (p : Step × List ℕ). p.0) got_one) (step_passed m i (said_first k bytes) rest one.0 one.1).placed in
    let nested = behind_placed (said_first k bytes) x γ.apart placed in
    rw en (record {
      opens = ap (λ (o : Open). open_with o x) γ.opens ∙ nested.0 ∙ ap open_behind (sym more);
      apart = rw more nested.1;
      limits = rw more (all_more (StepLimits 16) (said_first k bytes) x γ.limits (wider m x few lim));
      cursor = sym behind ∙ rw (γ.cursor, drop-drop, place) refl;
      left = grind (arith, steps_in_turn);
    })

-- none yet, all of them, and what is open behind them
pub going_none : (m i : ℕ) (own : TaskHead) (bytes : List ℕ) (nest : Open) → nest ≡ open_behind [] → Going m i own bytes nest bytes 0
unfolding said_first held held_on_top
going_none m i own bytes nest e = let z : own.count - 0 ≡ own.count = omega arith in record { opens = e; apart = tt; limits = tt; cursor = refl; left = rw z refl }

pub chunks_said : (c : ℕ) (bytes front : List ℕ) (steps : List (List ℕ)) → 3 * c ≤ length bytes → front ≡ take (3 * c) bytes → steps ≡ first_chunks 3 (length front / 3) front
    → map said steps ≡ said_first c bytes
unfolding said_first
chunks_said c bytes front steps l ef es =
    let long : length front ≡ 3 * c = ap (λ (xs : List ℕ). length xs) ef ∙ length-take-le (3 * c) bytes l in
    let many : length front / 3 ≡ c = rw long (omega arith) in
    rw (es, many, ef) (ap (map said) (first_taken c bytes))

pub open_end : (nest : Open) (before : List Step) → nest ≡ open_behind before → (b : Bool) → b ≡ not (1 ≤? length nest.held) → b ≡ false → (1 ≤? length (held before)) ≡ true
open_end nest before en b eb e = not_false _ (sym e ∙ eb ∙ ap (λ (o : Open). not (1 ≤? length o.held)) en)
  where
    not_false : (x : Bool) → false ≡ not x → x ≡ true
    not_false true z = refl
    not_false false z = z

pub closed_end : (nest : Open) (before : List Step) → nest ≡ open_behind before → (b : Bool) → b ≡ not (1 ≤? length nest.held) → b ≡ true → (1 ≤? length (held before)) ≡ false
closed_end nest before en b eb e = not_true _ (sym e ∙ eb ∙ ap (λ (o : Open). not (1 ≤? length o.held)) en)
  where
    not_true : (x : Bool) → true ≡ not x → x ≡ false
    not_true true z = z
    not_true false z = refl

-- the task that the code makes is the one that is read
pub same_task : (p o p' o' : ℕ) (steps steps' : List Step) (rest rest' : List ℕ) (task : Task) (whole : Reading (Task × List ℕ)) → task ≡ record { period = p; offset = o; steps = steps }
    → p ≡ p' → o ≡ o' → steps ≡ steps' → rest ≡ rest' → read (record { period = p'; offset = o'; steps = steps' }, rest') ≡ whole → read (task, rest) ≡ whole
same_task p o p' o' steps steps' rest rest' task whole e ep eo es er h = rw (e, ep, eo, es, er) h
