-- Reading in turn: what was read or refused first decides what a test or a step behind it gives.
use Rattle.std.proofs.Common.{ℕ, ◌≡◌, refl, Bool, true, false}
use Rattle.std.proofs.lemmas.Bool.Decides.{nat_tests}
use Rattle.std.proofs.lemmas.List.{take_all, length-drop, length-take, get_or-take}
use Rattle.rules.proofs.Limits.{fields_inside}
use Rattle.rules.specs.Reading.{Reading, read, refused, Numbers, refusal, ◌>>=◌, refuse◌of◌at◌when◌}

-- what was read goes on, what was refused ends it
pub behind_read : {A B : Type 0} (a : A) (rest : A → Reading B) → (read a >>= rest) ≡ rest a
unfolding ◌>>=◌
behind_read a rest = refl

pub behind_refused : {A B : Type 0} (x : Numbers) (rest : A → Reading B) → (refused x >>= rest) ≡ refused x
unfolding ◌>>=◌
behind_refused x rest = refl

-- a test that says so refuses, and one that does not is passed
module _ {B : Type 0} (number rank step : ℕ) (test : Bool) (rest : Unit {0} → Reading B) where
  pub refuses : test ≡ true → (refuse◌of◌at◌when◌ number rank step test >>= rest) ≡ refused (refusal number rank step)
  unfolding ◌>>=◌ refuse◌of◌at◌when◌
  refuses e = rw e refl

  pub passes : test ≡ false → (refuse◌of◌at◌when◌ number rank step test >>= rest) ≡ rest tt
  unfolding ◌>>=◌ refuse◌of◌at◌when◌
  passes e = rw e refl

pub ruleset in_turn = (behind_read, behind_refused, refuses, passes, nat_tests, take_all, length-drop)

pub ruleset fields_in_turn = (in_turn, get_or-take, length-take, fields_inside)

-- two readings, the second behind the first
pub then_then : {A B C : Type 0} (r : Reading A) (f : A → Reading B) (g : B → Reading C) → ((r >>= f) >>= g) ≡ (r >>= λ a. f a >>= g)
unfolding ◌>>=◌
then_then (read a) f g = refl
then_then (refused x) f g = refl

pub then_same : {A B : Type 0} (r : Reading A) (f g : A → Reading B) → ((a : A) → f a ≡ g a) → (r >>= f) ≡ (r >>= g)
unfolding ◌>>=◌
then_same (read a) f g h = h a
then_same (refused x) f g h = refl
