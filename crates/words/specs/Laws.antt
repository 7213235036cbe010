-- WHAT FOLLOWS: laws that make the words trustworthy. Each is proved in proofs/.
use Rattle.std.specs.Prelude.{ℕ, ◌+◌, ◌-◌, ◌*◌, ◌≤◌, ◌≡◌, List, [], ◌∷◌, get_or, Option, negsuc}
use Prim.Native.Char.{code}
use Rattle.rules.specs.Laws.{All}
use Rattle.rules.specs.declared.Section.{Section}
use Rattle.words.specs.Words.{ascii, decimal, signed_decimal}

-- The number that digits give, read from the left, behind one that was read before.
unfoldable pub value : (before : ℕ) → List ℕ → ℕ
value before [] = before
value before (d ∷ ds) = value (before * 10 + (d - code "0")) ds

-- A number in decimal: digits that read back give it, with no needless zero in front.
pub record InDecimal (n : ℕ) (text : List ℕ) : Type 0 where
  pub digits : All (λ d. (code "0" ≤ d) × (d ≤ code "9")) text
  pub reads_back : value 0 text ≡ n
  pub leading : 1 ≤ n → code "1" ≤ get_or text 0 0

abbrev pub DecimalIsDecimal : Type 0
DecimalIsDecimal = (n : ℕ) → InDecimal n (decimal n)

-- Document 01's A has a horizon of 10, and B's rank 1 a laxity of -1, whatever gives its bound.
abbrev pub PrintedTen : Type 0
PrintedTen = decimal 10 ≡ ascii "10"

abbrev pub PrintedMinusOne : Type 0
PrintedMinusOne = (by : Option Section) → signed_decimal (record { ticks = negsuc 0; by = by }) ≡ ascii "-1"
