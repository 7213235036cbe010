-- The words that every chapter uses: tests, quantities over the numbers below n, and rows.
use Rattle.std.specs.Prelude.{ℕ, zero, suc, ◌+◌, max, List, [], ◌∷◌, ◌++◌, Bool, true, false, not, ◌&&◌, ◌||◌, ltb, leb, eqb, if◌then◌else◌}

infix 50 ◌<?◌ ◌≤?◌ ◌=?◌
abbrev pub ◌<?◌ : ℕ → ℕ → Bool
m <? n = ltb m n

abbrev pub ◌≤?◌ : ℕ → ℕ → Bool
m ≤? n = leb m n

abbrev pub ◌=?◌ : ℕ → ℕ → Bool
m =? n = eqb m n

unfoldable pub within : (low high x : ℕ) → Bool
within low high x = low ≤? x && x ≤? high

infixr 25 ◌⇒◌
abbrev pub ◌⇒◌ : Bool → Bool → Bool
a ⇒ b = not a || b

-- does some number below n pass; does every one
unfoldable pub some : ℕ → (ℕ → Bool) → Bool
some zero test = false
some (suc n) test = test n || some n test

unfoldable pub every : ℕ → (ℕ → Bool) → Bool
every zero test = true
every (suc n) test = test n && every n test

-- the smallest number below n that passes; where none does, the one given
unfoldable pub smallest : ℕ → ℕ → (ℕ → Bool) → ℕ
smallest zero none test = none
smallest (suc n) none test = smallest n (if test n then n else none) test

-- the largest value of f at a number below n, 0 if there is none; the sum of its values
unfoldable pub largest : ℕ → (ℕ → ℕ) → ℕ
largest zero f = 0
largest (suc n) f = max (largest n f) (f n)

unfoldable pub total : ℕ → (ℕ → ℕ) → ℕ
total zero f = 0
total (suc n) f = total n f + f n

-- the row f 0, f 1, .. of n values
unfoldable pub row : {A : Type 0} → ℕ → (ℕ → A) → List A
row zero f = []
row (suc n) f = row n f ++ (f n ∷ [])

-- does something in a row pass; does everything
unfoldable pub any : {A : Type 0} → (A → Bool) → List A → Bool
any test [] = false
any test (x ∷ xs) = test x || any test xs

unfoldable pub all : {A : Type 0} → (A → Bool) → List A → Bool
all test [] = true
all test (x ∷ xs) = test x && all test xs

-- does a number stand in a row
unfoldable pub among : ℕ → List ℕ → Bool
among x xs = any (λ y. y =? x) xs

-- how many at the front of a row pass
unfoldable pub leading : {A : Type 0} → (A → Bool) → List A → ℕ
leading test [] = 0
leading test (x ∷ xs) = if test x then suc (leading test xs) else 0
