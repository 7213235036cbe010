-- DEMAND 3 SAYS WHAT IT CAN: there are sheets that meet its premises; with locks or modes free it is false; and so it is with
-- switches among what is the same.
use Rattle.std.specs.Prelude.{ℕ, ◌≡◌, List}
use Rattle.rules.specs.Sheet.{Sheet}
use Rattle.rules.specs.Fields.{start}
use Rattle.rules.specs.Run.{after}
use Rattle.rules.specs.Cases.{A, A3}
use Rattle.theorems.specs.Demand3.{SameFirst, SameMode, NoLowerLocks, Premises, SameRecords, Permitted}

-- A and A3 meet the premises with k = 2.
abbrev pub Met : Type 0
Met = (sheet sheet' : Sheet) × Premises 2 A.sheet A3.sheet sheet sheet'

-- In neither sheet: with the lower tasks of one free to lock what one of the k locks, it is false. A's rank 0 alone, and A.
abbrev pub WithLocks : Type 0
WithLocks = (k : ℕ) (bytes bytes' : List ℕ) (sheet sheet' : Sheet)
    → SameFirst k bytes bytes' sheet sheet' → SameMode sheet sheet' → NoLowerLocks k sheet
    → (h : ℕ) → Permitted h → SameRecords k (after h sheet start) (after h sheet' start)

-- In the same mode: with the modes free it is false. A and A2.
abbrev pub WithModes : Type 0
WithModes = (k : ℕ) (bytes bytes' : List ℕ) (sheet sheet' : Sheet)
    → SameFirst k bytes bytes' sheet sheet' → NoLowerLocks k sheet → NoLowerLocks k sheet'
    → (h : ℕ) → Permitted h → SameRecords k (after h sheet start) (after h sheet' start)

-- The same record, and no more: with switches among what is the same it is false. A and A3 differ there.
abbrev pub WithSwitches : Type 0
WithSwitches = (k : ℕ) (bytes bytes' : List ℕ) (sheet sheet' : Sheet) → Premises k bytes bytes' sheet sheet'
    → (h : ℕ) → Permitted h → (after h sheet start).switches ≡ (after h sheet' start).switches

pub record Needed : Type 0 where
  pub met : Met
  pub locks : WithLocks → ⊥
  pub modes : WithModes → ⊥
  pub switches : WithSwitches → ⊥
