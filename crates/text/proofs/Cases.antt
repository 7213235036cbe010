-- What is printed for the cases, by computation.
use mathlib.Core.Path.{refl}
use Rattle.rules.proofs.Open.{rules}
use Rattle.words.specs.Words.{digits, decimal, numbered, signed_decimal, given_by, tick_word}
use Rattle.text.specs.Text.{head_line, jobs, times, analysis, most, task_line, task_lines, trace_line, report, refusal_line, printed_run, printed}
use Rattle.text.specs.Laws.{PrintedA, PrintedF, PrintedB, PrintedNothing, PrintedCut}

unfoldable form : Unit {0}
unfolding rules digits decimal numbered head_line jobs times signed_decimal analysis most given_by task_line task_lines tick_word trace_line report refusal_line printed_run printed
form = tt

pub printed_A : PrintedA
unfolding form
printed_A = refl

pub printed_F : PrintedF
unfolding form
printed_F = refl

pub printed_B : PrintedB
unfolding form
printed_B = refl

pub printed_nothing : PrintedNothing
unfolding form
printed_nothing = refl

pub printed_cut : PrintedCut
unfolding form
printed_cut = refl
