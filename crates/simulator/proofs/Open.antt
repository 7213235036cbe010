-- What the calls answer, open: how each answer is made of what was read, and the tests behind the sheet.
use Rattle.rules.specs.Reading.{◌>>=◌, refuse◌of◌at◌when◌}
use Rattle.rules.specs.Answers.{why, made, check, ceilings, bounds, laxities, read_tick, told, record_after, ticked, read_run, ran, buffer_after}

unfoldable pub answers : Unit {0}
unfolding ◌>>=◌ refuse◌of◌at◌when◌ why made check ceilings bounds laxities read_tick told record_after ticked read_run ran buffer_after
answers = tt
