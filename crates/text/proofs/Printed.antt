-- What the answers of the calls print is what is printed: for a program that has them.
use Prim.Native.Nat.{ℕ, zero, suc, ◌+◌, ◌*◌, ◌≤◌, ◌<◌}
use mathlib.Core.Path.{◌≡◌, refl, sym, ap, ◌∙◌}
use mathlib.Core.List.{List}
use native.Mathlib.Omega.{arith}
use native.Mathlib.Numerals.{add-one}
use lib.ListN.{length, get_or, take, drop, replicate}
use lib.Seq.{take_all, take_at}
use borrow.Author.Tests.{lt-ltb, le-ltb}
use Rattle.std.specs.Prelude.{Ok, Err}
use Rattle.std.proofs.lemmas.Grind.{common_steps}
use Rattle.rules.specs.Sheet.{Sheet}
use Rattle.rules.specs.Reading.{Reading, read, refused, Numbers, refusal, byte, word, ◌>>=◌, refuse◌of◌at◌when◌, read_sheet}
use Rattle.rules.specs.Fields.{start}
use Rattle.rules.specs.Run.{after, trace, written}
use Rattle.rules.specs.Answers.{Checked, Bounds, Laxities, Ran, why, made, by_rank, check, no_bound, bound_of, bounds, no_laxity, laxity_of, laxities, read_run, ran, buffer_after}
use Rattle.rules.specs.Coded.{numbers, checked, bounds_in, laxities_in, ran_in}
use Rattle.rules.specs.declared.State.{State}
use Rattle.rules.specs.declared.Head.{Head}
use Rattle.rules.specs.declared.Bound.{Bound}
use Rattle.rules.specs.declared.Laxity.{Laxity}
use Rattle.rules.specs.declared.Refusal.{Refusal}
use Rattle.rules.proofs.Laws.{length_row, row_at}
use Rattle.rules.proofs.Reading.{both_read, passed, sheet_few}
use Rattle.rules.proofs.Numbers.{refusals_given, was_read}
use Rattle.text.specs.Room.{bound_at, laxity_at}
use Rattle.text.specs.Text.{task_lines, report, refusal_line, printed_run, printed}
use Rattle.text.proofs.Lines.{no_lines, lines_more}

-- input that fits: a horizon and a sheet, or under two bytes
module _ (input : List ℕ) (few : length input ≤ 3163) where
  pub printed_short : length input < 2 → printed input ≡ refusal_line (refusal 1 0 0)
  unfolding printed
  printed_short h = rw (take_all 3163 input few, lt-ltb (length input) 2 h) refl

  pub printed_long : 2 ≤ length input → printed input ≡ printed_run (get_or input 0 0 * 256 + get_or input 1 0) (drop 2 input)
  unfolding printed word byte
  printed_long h = rw (take_all 3163 input few, le-ltb (length input) 2 h) refl

-- lines of the same bounds and laxities
lines_same : (n : ℕ) (st : State) (b c : ℕ → Bound) (x y : ℕ → Laxity) → ((i : ℕ) → i < n → b i ≡ c i) → ((i : ℕ) → i < n → x i ≡ y i)
    → task_lines n st b x ≡ task_lines n st c y
lines_same zero st b c x y p q = no_lines st b x ∙ sym (no_lines st c y)
lines_same (suc n) st b c x y p q =
    let front = lines_same n st b c x y (λ i l. p i (omega arith)) (λ i l. q i (omega arith)) in
    rw (← add-one n) (rw (lines_more st b x n, lines_more st c y n, front, p n (omega arith), q n (omega arith)) refl)

-- a report of the same bounds, laxities and runners
report_same : (n : ℕ) (st : State) (b c : ℕ → Bound) (x y : ℕ → Laxity) (s t : List ℕ) → ((i : ℕ) → i < n → b i ≡ c i) → ((i : ℕ) → i < n → x i ≡ y i) → s ≡ t
    → report n st b x s ≡ report n st c y t
unfolding report
report_same n st b c x y s t p q e = grind (arith, lines_same n st b c x y p q)

-- the values of the ranks that a sheet has, among sixteen
module _ {A : Type 0} (d : A) (f : Sheet → ℕ → A) (sheet : Sheet) (few : length sheet.tasks ≤ 16) where
  ranks : List A
  ranks = take (length sheet.tasks) (by_rank d f sheet)

  ranks_long : length ranks ≡ length sheet.tasks
  unfolding ranks by_rank
  ranks_long = grind (arith, common_steps, length_row)

  rank_at : (i : ℕ) → i < length sheet.tasks → f sheet i ≡ get_or ranks i d
  unfolding ranks by_rank
  rank_at i l = grind (arith, common_steps, row_at)

-- a refusal has a number
numbered : (x : Refusal) → 1 ≤ (numbers x).number
numbered x = grind arith

was_refused : {A : Type 0} (r : Reading A) (x : Refusal) → numbers x ≡ why r → r ≡ refused (numbers x)
unfolding why
was_refused r x e = grind (arith, numbered)

module _ (bytes : List ℕ) where
  pub head_few : (head : Head) → checked (Ok head) ≡ check bytes → head.n ≤ 16
  unfolding check made
  head_few head e = grind (arith, sheet_few)

  module _ (h : ℕ) where
    refusal_printed : (x : Numbers) → read_run bytes h (replicate h 0) ≡ refused x → printed_run h bytes ≡ refusal_line x
    unfolding printed_run made why
    refusal_printed x e = rw e refl

    -- what a sheet that is not read prints, as three of the calls tell it
    sheet_refused : (x : Refusal) → numbers x ≡ why (read_sheet bytes) → printed_run h bytes ≡ refusal_line (numbers x)
    unfolding read_run ◌>>=◌
    sheet_refused x e = refusal_printed (numbers x) (rw (was_refused (read_sheet bytes) x e) refl)

    pub check_refused : (x : Refusal) → checked (Err x) ≡ check bytes → printed_run h bytes ≡ refusal_line (numbers x)
    unfolding check
    check_refused x e = sheet_refused x (ap (λ (c : Checked). c.refusal) e)

    pub bounds_refused : (x : Refusal) → bounds_in (Err x) ≡ bounds bytes → printed_run h bytes ≡ refusal_line (numbers x)
    unfolding bounds
    bounds_refused x e = sheet_refused x (ap (λ (b : Bounds). b.refusal) e)

    pub laxities_refused : (x : Refusal) → laxities_in (Err x) ≡ laxities bytes → printed_run h bytes ≡ refusal_line (numbers x)
    unfolding laxities
    laxities_refused x e = sheet_refused x (ap (λ (l : Laxities). l.refusal) e)

    -- a run reads the same with any trace that is long enough
    module _ (buffer : List ℕ) (enough : 60000 ≤ length buffer) where
      same_reading : read_run bytes h (replicate h 0) ≡ read_run bytes h buffer
      unfolding read_run ◌>>=◌ refuse◌of◌at◌when◌
      same_reading = grind (arith, common_steps)

      -- a run that is read has read its sheet, and its horizon is at most 60,000
      sheet_read : (sheet : Sheet) → read_run bytes h buffer ≡ read sheet → (read_sheet bytes ≡ read sheet) × (h ≤ 60000)
      unfolding read_run
      sheet_read sheet e = grind (arith, both_read, passed)

      -- what a sheet that is read prints, of the answers as they are handed on
      read_prints : (sheet : Sheet) → read_run bytes h buffer ≡ read sheet
          → (st : State) → ran_in (Ok st) ≡ ran bytes h buffer
          → (head : Head) → checked (Ok head) ≡ check bytes
          → (bs : List Bound) → bounds_in (Ok bs) ≡ bounds bytes
          → (ls : List Laxity) → laxities_in (Ok ls) ≡ laxities bytes
          → (runners : List ℕ) → runners ≡ buffer_after bytes h buffer
          → printed_run h bytes ≡ report (length (take head.n bs)) st (bound_at (take head.n bs)) (laxity_at (take head.n ls)) (take h runners)
      unfolding printed_run made check ran bounds laxities buffer_after written trace ranks
      read_prints sheet f st accepted head c bs b ls l runners t =
          let e = (sheet_read sheet f).0 in
          let few = sheet_few bytes sheet e in
          let tasks : head.n ≡ length sheet.tasks = ap (λ (x : Checked). x.tasks) c ∙ rw e refl in
          let bounds_read : bs ≡ by_rank no_bound bound_of sheet = ap (λ (x : Bounds). x.bounds) b ∙ rw e refl in
          let laxities_read : ls ≡ by_rank no_laxity laxity_of sheet = ap (λ (x : Laxities). x.laxities) l ∙ rw e refl in
          let ended : st ≡ after h sheet start = ap (λ (x : Ran). x.state) accepted ∙ rw f refl in
          let left : runners ≡ written h sheet start buffer = t ∙ rw f refl in
          rw (same_reading, f, tasks, bounds_read, laxities_read, ended, left, ranks_long no_bound bound_of sheet few)
          (report_same (length sheet.tasks) (after h sheet start) _ _ _ _ _ _
          (rank_at no_bound bound_of sheet few)
          (rank_at no_laxity laxity_of sheet few)
          (sym (take_at (trace h sheet start) (drop h buffer) h (length_row h _))))

      run_read : (st : State) → ran_in (Ok st) ≡ ran bytes h buffer → (sheet : Sheet) × (read_run bytes h buffer ≡ read sheet)
      unfolding ran
      run_read st accepted = was_read (read_run bytes h buffer) (refusals_given.of_run bytes h buffer) (ap (λ (r : Ran). r.refusal.number) (sym accepted))

    -- what the run tells
    module _ (buffer : List ℕ) where
      pub run_refused : (x : Refusal) → ran_in (Err x) ≡ ran bytes h buffer → 60000 ≤ length buffer → printed_run h bytes ≡ refusal_line (numbers x)
      unfolding ran
      run_refused x e enough =
          refusal_printed (numbers x) (same_reading buffer enough ∙ was_refused (read_run bytes h buffer) x (ap (λ (r : Ran). r.refusal) e))

      pub horizon_few : (st : State) → ran_in (Ok st) ≡ ran bytes h buffer → 60000 ≤ length buffer → h ≤ 60000
      horizon_few st accepted enough = (sheet_read buffer enough _ (run_read buffer enough st accepted).1).1

      pub accepted_prints : (st : State) → ran_in (Ok st) ≡ ran bytes h buffer → 60000 ≤ length buffer
          → (head : Head) → checked (Ok head) ≡ check bytes
          → (bs : List Bound) → bounds_in (Ok bs) ≡ bounds bytes
          → (ls : List Laxity) → laxities_in (Ok ls) ≡ laxities bytes
          → (runners : List ℕ) → runners ≡ buffer_after bytes h buffer
          → printed_run h bytes ≡ report (length (take head.n bs)) st (bound_at (take head.n bs)) (laxity_at (take head.n ls)) (take h runners)
      accepted_prints st accepted enough = read_prints buffer enough _ (run_read buffer enough st accepted).1 st accepted

-- these laws together
pub ruleset of_answers = (check_refused, bounds_refused, laxities_refused, accepted_prints)
