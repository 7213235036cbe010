-- Words of the cases, by computation.
use mathlib.Core.Path.{refl}
use Rattle.words.specs.Words.{digits, decimal, signed_decimal}
use Rattle.words.specs.Laws.{PrintedTen, PrintedMinusOne}

pub printed_ten : PrintedTen
unfolding digits decimal
printed_ten = refl

pub printed_minus_one : PrintedMinusOne
unfolding digits decimal signed_decimal
printed_minus_one by = refl
