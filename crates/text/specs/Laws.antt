-- WHAT FOLLOWS: laws that make the printed form trustworthy. Each is proved in proofs/.
use Rattle.std.specs.Prelude.{◌≡◌, [], ◌∷◌, ◌++◌, take}
use Rattle.rules.specs.Cases.{A, B, F}
use Rattle.words.specs.Words.{ascii}
use Rattle.text.specs.Text.{printed}

-- The numbers of document 01: A with horizon 10, and F, which is A with horizon 0.
abbrev pub PrintedA : Type 0
PrintedA = printed (0 ∷ 10 ∷ A.sheet) ≡
    ascii "ticks 10 switches 5\n"
    ++ ascii "0 releases 1 done 1 missed 0 ran 2 blocked 2 worst 4 bound 3 laxity 5 most 2 by 1/1\n"
    ++ ascii "1 releases 1 done 1 missed 0 ran 5 blocked 0 worst 7 bound 0 laxity 11 most 0 by -\n"
    ++ ascii "trace 1 1 0 1 1 0 1 - - -\n"

abbrev pub PrintedF : Type 0
PrintedF = printed (0 ∷ 0 ∷ F.sheet) ≡
    ascii "ticks 0 switches 0\n"
    ++ ascii "0 releases 0 done 0 missed 0 ran 0 blocked 0 worst 0 bound 3 laxity 5 most 0 by 1/1\n"
    ++ ascii "1 releases 0 done 0 missed 0 ran 0 blocked 0 worst 0 bound 0 laxity 11 most 0 by -\n"
    ++ ascii "trace\n"

-- B, of which document 01 gives the bounds and laxities, one of them negative.
abbrev pub PrintedB : Type 0
PrintedB = printed (0 ∷ 0 ∷ B.sheet) ≡
    ascii "ticks 0 switches 0\n"
    ++ ascii "0 releases 0 done 0 missed 0 ran 0 blocked 0 worst 0 bound 0 laxity 6 most 0 by -\n"
    ++ ascii "1 releases 0 done 0 missed 0 ran 0 blocked 0 worst 0 bound 4 laxity -1 most 0 by 3/1\n"
    ++ ascii "2 releases 0 done 0 missed 0 ran 0 blocked 0 worst 0 bound 4 laxity 2 most 0 by 3/1\n"
    ++ ascii "3 releases 0 done 0 missed 0 ran 0 blocked 0 worst 0 bound 0 laxity 8 most 0 by -\n"
    ++ ascii "trace\n"

-- Input under two bytes is refusal 1; a sheet whose last byte is cut off is refusal 7, for the last task.
abbrev pub PrintedNothing : Type 0
PrintedNothing = printed [] ≡ ascii "refused 1 task 0 step 0\n"

abbrev pub PrintedCut : Type 0
PrintedCut = printed (0 ∷ 10 ∷ take 44 A.sheet) ≡ ascii "refused 7 task 1 step 0\n"
