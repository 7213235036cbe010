-- THE WORDS of the printed form: texts, numbers, fields, laxities, what gives a bound, and ticks.
use Rattle.std.specs.Prelude.{ℕ, zero, suc, ◌+◌, ◌/◌, ◌%◌, List, [], ◌∷◌, ◌++◌, if◌then◌else◌, Option, Some, None, pos, negsuc}
use Prim.Native.Char.{code}
use Prim.Native.String.{String, [] as none, ◌∷◌ as ◌then◌}
use Rattle.rules.specs.Words.{◌<?◌, ◌=?◌}
use Rattle.rules.specs.declared.Section.{Section}
use Rattle.rules.specs.declared.Laxity.{Laxity}

-- A quoted text as its bytes.
abbrev pub ascii : String → List ℕ
ascii none = []
ascii (x then rest) = code x ∷ ascii rest

-- All numbers are decimal: the digits of a number, at most so many, the last of them its remainder by ten.
abbrev pub digit : ℕ → ℕ
digit n = code "0" + n % 10

unfoldable pub digits : (most : ℕ) → ℕ → List ℕ
digits zero n = []
digits (suc most) n =
    let before = digits most (n / 10) in
    (if n <? 10 then [] else before) ++ (digit n ∷ [])

-- A number n has at most n + 1 of them.
unfoldable pub decimal : ℕ → List ℕ
decimal n = digits (suc n) n

-- A word and the number behind it.
unfoldable pub numbered : (name : List ℕ) (n : ℕ) → List ℕ
numbered name n = name ++ decimal n

abbrev pub field : (name : String) (n : ℕ) → List ℕ
field name n = numbered (ascii name) n

-- A laxity may be negative.
unfoldable pub signed_decimal : Laxity → List ℕ
signed_decimal x = elim x.ticks [ pos n ↦ decimal n | negsuc n ↦ ascii "-" ++ decimal (suc n) ]

-- What gives a bound: a section, by rank and lock step, or nothing.
unfoldable pub given_by : Option Section → List ℕ
given_by (Some section) = field " by " section.rank ++ field "/" section.step
given_by None = ascii " by -"

-- A tick's word in the trace line, behind a space: the runner's rank, "-" for idle, "!" for 254.
unfoldable pub tick_word : (x : ℕ) → List ℕ
tick_word x = ascii " " ++ (if x =? 255 then ascii "-" else if x =? 254 then ascii "!" else decimal x)
