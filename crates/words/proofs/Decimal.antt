-- Laws of decimal numbers.
use Prim.Native.Nat.{ℕ, zero, suc, ◌+◌, ◌-◌, ◌*◌, ◌/◌, ◌%◌, ◌^◌, ◌≤◌, ◌<◌}
use mathlib.Core.Path.{◌≡◌, refl, ap}
use mathlib.Core.Logic.{⊎_elim}
use native.Mathlib.Nat.{pow-suc}
use borrow.Author.Tests.{lt-ltb, le-ltb}
use Rattle.rules.proofs.Laws.{below}
use mathlib.Core.List.{List, [], ◌∷◌, ◌++◌}
use native.Mathlib.Omega.{arith}
use lib.ListN.{length, get_or, length-append}
use Rattle.std.specs.Fmt as std
use Rattle.std.proofs.Common.{rules, append_assoc}
use Rattle.std.proofs.lemmas.Fmt.{AppendsLastDigit, decimal_from_appends, length-decimal-le_succ}
use Rattle.std.proofs.lemmas.Grind.{common_steps}
use mir.Val.{SFits}
use mir.Syntax.{w64}
use Rattle.std.specs.Prelude.{ℤ, pos, negsuc, Option, unsigned_abs}
use Rattle.rules.specs.Laws.{All}
use Rattle.rules.specs.declared.Laxity.{Laxity}
use Rattle.rules.specs.declared.Section.{Section}
use Rattle.words.specs.Room.{laxity_room}
use Rattle.words.specs.Words.{ascii, digit, digits, decimal, signed_decimal}
use Rattle.words.specs.Laws.{value, InDecimal, DecimalIsDecimal}

-- more room for digits than a number needs gives no more of them
digits_enough : (j k n : ℕ) → n < j → n < k → digits j n ≡ digits k n
unfolding digits
digits_enough zero k n p q = absurd (omega arith)
digits_enough (suc j) zero n p q = absurd (omega arith)
digits_enough (suc j) (suc k) n p q = ⊎_elim
    (λ (u : n < 10). rw (lt-ltb n 10 u) refl)
    (λ (u : 10 ≤ n). rw (le-ltb n 10 u) (ap (λ (l : List ℕ). l ++ (digit n ∷ [])) (digits_enough j k (n / 10) (omega arith) (omega arith))))
    (below n 10)

pub decimal_one : (n : ℕ) → n < 10 → decimal n ≡ digit n ∷ []
unfolding decimal digits
decimal_one n h = rw (lt-ltb n 10 h) refl

pub decimal_more : (n : ℕ) → 10 ≤ n → decimal n ≡ decimal (n / 10) ++ (digit n ∷ [])
unfolding decimal digits
decimal_more n h = rw (le-ltb n 10 h) (ap (λ (l : List ℕ). l ++ (digit n ∷ [])) (digits_enough n (suc (n / 10)) (n / 10) (omega arith) (omega arith)))

-- two digits, put one behind the other
pub decimal_two : (n : ℕ) → 10 ≤ n → n < 100 → decimal n ≡ (48 + n / 10) ∷ (48 + n % 10) ∷ []
decimal_two n h l =
    let tens : n / 10 % 10 ≡ n / 10 = omega arith in
    rw (decimal_more n h, decimal_one (n / 10) (omega arith), tens) refl

pub two_put : (old one two : List ℕ) (n : ℕ) → 10 ≤ n → n < 100 → one ≡ old ++ ((48 + n / 10) ∷ []) → two ≡ one ++ ((48 + n % 10) ∷ []) → two ≡ old ++ decimal n
two_put old one two n h l e f = rw (f, e, decimal_two n h l) (append_assoc old ((48 + n / 10) ∷ []) ((48 + n % 10) ∷ []))

-- a number below 10 to the k + 1 has at most k + 1 digits
pub decimal_few : (k n : ℕ) → n < 10 ^ suc k → length (decimal n) ≤ suc k
decimal_few zero n h = rw (decimal_one n h) (omega arith)
decimal_few (suc k) n h = ⊎_elim
    (λ (u : n < 10). rw (decimal_one n u) (omega arith))
    (λ (u : 10 ≤ n).
    let more = decimal_few k (n / 10) (omega (arith, pow-suc 10 (suc k))) in
    rw (decimal_more n u) (omega (arith, length-append (decimal (n / 10)) (digit n ∷ []))))
    (below n 10)

-- the digits are those that the library writes,
appends : AppendsLastDigit digits
unfolding digits
appends = search rules

pub decimal_is_written : (n : ℕ) → n < 2 ^ 64 → decimal n ≡ std.decimal n
unfolding decimal
decimal_is_written n h = decimal_from_appends digits appends (suc n) n h (omega (arith, length-decimal-le_succ n h))

-- and those of a byte are three at most
pub byte_few : (n : ℕ) → n < 2 ^ 8 → length (decimal n) ≤ 3
byte_few n h = decimal_few 2 n (omega (arith, h))

-- those of 32 bits ten, those of a word five, and a laxity's with its sign twenty
pub number_few : (n : ℕ) → n < 2 ^ 32 → length (decimal n) ≤ 10
number_few n h = decimal_few 9 n (omega (arith, h))

pub word_few : (n : ℕ) → n < 2 ^ 16 → length (decimal n) ≤ 5
word_few n h = decimal_few 4 n (omega (arith, h))

long_few : (n : ℕ) → n ≤ 2 ^ 63 → length (decimal n) ≤ 19
long_few n h = decimal_few 18 n (omega (arith, h))

-- a laxity below zero has its sign
pub laxity_below : (n : ℕ) (by : Option Section) → signed_decimal (record { ticks = negsuc n; by = by }) ≡ ascii "-" ++ decimal (suc n)
unfolding signed_decimal
laxity_below n by = refl

laxity_not : (n : ℕ) (by : Option Section) → signed_decimal (record { ticks = pos n; by = by }) ≡ decimal n
unfolding signed_decimal
laxity_not n by = refl

signed_few : (z : ℤ) (by : Option Section) → SFits w64 z → length (signed_decimal (record { ticks = z; by = by })) ≤ 20
signed_few (pos n) by f = rw (laxity_not n by) (omega (arith, long_few n (omega (arith, f.sfits))))
signed_few (negsuc n) by f = rw (laxity_below n by) (omega (arith, long_few (suc n) (omega (arith, f.sfits))))

pub laxity_few : (x : Laxity) → SFits w64 x.ticks → length (signed_decimal x) ≤ 20
laxity_few x f = signed_few x.ticks x.by f

-- of 32 bits eleven
signed_short : (z : ℤ) (by : Option Section) → unsigned_abs z < 2 ^ 32 → length (signed_decimal (record { ticks = z; by = by })) ≤ laxity_room
signed_short (pos n) by h = rw (laxity_not n by) (omega (arith, number_few n (omega (arith, h))))
signed_short (negsuc n) by h = rw (laxity_below n by) (omega (arith, number_few (suc n) (omega (arith, h))))

pub laxity_short : (x : Laxity) → unsigned_abs x.ticks < 2 ^ 32 → length (signed_decimal x) ≤ laxity_room
laxity_short x h = signed_short x.ticks x.by h

-- the digits read back
value_more : (b : ℕ) (xs : List ℕ) (n : ℕ) → value b (xs ++ (digit n ∷ [])) ≡ value b xs * 10 + n % 10
unfolding value
value_more b [] n = omega arith
value_more b (x ∷ xs) n = value_more (b * 10 + (x - 48)) xs n

all_more : (P : ℕ → Type 0) (xs : List ℕ) (x : ℕ) → All P xs → P x → All P (xs ++ (x ∷ []))
all_more P [] x h p = (p, tt)
all_more P (y ∷ xs) x h p = (h.0, all_more P xs x h.1 p)

leading_more : (xs : List ℕ) (x : ℕ) → 49 ≤ get_or xs 0 0 → 49 ≤ get_or (xs ++ (x ∷ [])) 0 0
leading_more xs x h = grind (arith, common_steps)

digits_right : (most n : ℕ) → n < most → InDecimal n (digits most n)
unfolding digits value
digits_right zero n l = absurd (omega arith)
digits_right (suc most) n l =
    let h = λ (p : n / 10 < most). digits_right most (n / 10) p in
    grind (arith, common_steps, all_more, value_more, leading_more)

pub decimal_is_decimal : DecimalIsDecimal
unfolding decimal
decimal_is_decimal n = digits_right (suc n) n (omega arith)
