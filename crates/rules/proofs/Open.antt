-- Every rule that a case computes, open: a proof by computation says `unfolding rules`.
use Rattle.rules.specs.Words.{within, some, every, smallest, largest, total, row, any, all, among, leading}
use Rattle.rules.specs.Sheet.{task_at, is_run, is_lock, is_unlock, is_lock_of, without, held_on_top, held}
use Rattle.rules.specs.Reading.{◌>>=◌, refuse◌of◌at◌when◌, byte, word, marked, read_head, head_length, read_task_head, known, step_of, misplaced_in, after_lock, misplaced, read_step, read_steps, read_task, read_tasks, read_sheet}
use Rattle.rules.specs.Fields.{counted, place, zeros, zero_record, same_job}
use Rattle.rules.specs.Record.{record_at, behind, ahead, carries, holds, counts_fit, last_fits, stands_well, job_fits, present_fits, record_fits, none_held_by_two, possible}
use Rattle.rules.specs.Choice.{runner_byte, locks, ceiling, at_run, full, fresh, goes, held_by_other, free_of_ceilings, may_go, in_the_way, next_candidate, walk, top_job, runner}
use Rattle.rules.specs.Tick.{releases_at, released, after_releases, next_run, left_of_run, behind_unlocks, advanced, spent, after_runner, ran_last, closed, runner_of, tick}
use Rattle.rules.specs.Run.{after, trace, written}
use Rattle.rules.specs.Bounds.{runs, inside, section_length, begins, steps_from, is_counted, counted_length, bound, gives, bound_by, cost, rounded_up, demand, slack, larger, largest_of, laxity}
use Rattle.rules.specs.Answers.{why, made, by_rank, check, ceilings, bound_of, bounds, laxity_of, laxities, read_tick, ticked, told, record_after, read_run, ran, buffer_after}

unfoldable pub rules : Unit {0}
unfolding within some every smallest largest total row any all among leading task_at is_run is_lock is_unlock is_lock_of without held_on_top held ◌>>=◌ refuse◌of◌at◌when◌ byte word marked read_head head_length read_task_head known step_of misplaced_in after_lock misplaced read_step read_steps read_task read_tasks read_sheet record_at behind ahead carries holds place counted zeros counts_fit same_job last_fits zero_record stands_well job_fits present_fits record_fits none_held_by_two possible runner_byte locks ceiling at_run full fresh goes held_by_other free_of_ceilings may_go in_the_way next_candidate walk top_job runner releases_at released after_releases next_run left_of_run behind_unlocks advanced spent after_runner ran_last closed runner_of tick after trace written runs inside section_length begins steps_from is_counted counted_length bound gives bound_by cost rounded_up demand slack larger largest_of laxity why made by_rank check ceilings bound_of bounds laxity_of laxities read_tick ticked told record_after read_run ran buffer_after
rules = tt
