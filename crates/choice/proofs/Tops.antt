-- Laws of rule 4's beginning: the pending job of smallest rank.
use Rattle.std.proofs.Common.{ℕ, ◌<◌, ◌≤◌, ◌≡◌, sym, ap, List, true, false, length, take, arith, Option, Some, None, MatchOption}
use mathlib.Core.Logic.{⊎_elim}
use Rattle.std.specs.List.{AllWithin, HoldsAt}
use Rattle.std.proofs.lemmas.List.{get_or-take, length-take}
use lib.ListN.{get_or-eq_default}
use Rattle.rules.specs.Fields.{blank}
use Rattle.rules.specs.Record.{record_at}
use Rattle.rules.specs.Choice.{top_job}
use Rattle.rules.specs.declared.TaskRecord.{TaskRecord}
use Rattle.rules.proofs.Laws.{below, smallest_is, smallest_none}

abbrev Pending : TaskRecord → Type 0
Pending r = r.job.pending ≡ true

abbrev Rests : TaskRecord → Type 0
Rests r = r.job.pending ≡ false

-- the first pending one of the first n records, where those behind rest
module _ (records : List TaskRecord) (n : ℕ) (few : n ≤ 16) (rest : (i : ℕ) → i < 16 → n ≤ i → (record_at records i).job.pending ≡ false) where
  -- those before some index rest
  resting : (m : ℕ) → m ≤ n → AllWithin Rests (take n records) 0 m → (k : ℕ) → k < m → (record_at records k).job.pending ≡ false
  unfolding record_at
  resting m l all k u = let b : k < n = omega arith in rw get_or-take at (all k blank (omega arith) u)

  pub top_found : (r : Option ℕ)
      → MatchOption r (AllWithin Rests (take n records) 0 (length (take n records))) (λ i. (i < length (take n records)) × HoldsAt Pending (take n records) i × AllWithin Rests (take n records) 0 i)
      → MatchOption r (top_job records ≡ 255) (λ i. (i ≡ top_job records) × (i < n))
  unfolding top_job record_at
  top_found None all = smallest_none 16 255 (λ i. (record_at records i).job.pending) (λ k u. ⊎_elim
      (λ (l : k < n). ⊎_elim
      (λ (m : k < length records). resting (length (take n records)) (omega (arith, length-take n records)) all k (omega (arith, length-take n records)))
      (λ (m : length records ≤ k). ap (λ (r : TaskRecord). r.job.pending) (get_or-eq_default records blank {n = k} m))
      (below k (length records)))
      (λ (l : n ≤ k). rest k u l)
      (below k n))
  top_found (Some i) w =
      let inside : i < n = omega (arith, length-take n records) in
      (sym (smallest_is 16 255 (λ i. (record_at records i).job.pending) i (omega arith) (rw get_or-take at (w.1 blank)) (resting i (omega arith) w.2)), inside)
