-- The holders are passed on with the steps of the job that runs.
use Rattle.std.proofs.Common.{ap, refl, sym, arith}
use Rattle.rules.specs.Fields.{with_tasks}
use Rattle.rules.proofs.Limits.{accepted_within_limits}
use Rattle.table.specs.Table.{sheet_of}
use Rattle.effect.proofs.Laws.{ran_nobody}
use Rattle.engine.proofs.Ticks.{passed, unmoved}
use Rattle.engine.proofs.Run.spend.Goals as goal

pub bounds-self-i : goal.bounds-self-i
bounds-self-i c =
    let a = c.task-task.ensures.accepted in omega (arith, c.requires.runner_bound c.in-Rank.rank c.in-Rank.is, (accepted_within_limits a.0 (sheet_of c.args.table.now) a.1).tasks_to)

pub bounds-self-i-in-Rank : goal.bounds-self-i-in-Rank
bounds-self-i-in-Rank c =
    let a = c.task-task.ensures.accepted in omega (arith, c.requires.runner_bound c.in-Rank.rank c.in-Rank.is, (accepted_within_limits a.0 (sheet_of c.args.table.now) a.1).tasks_to)

pub returns-in-Rank-clause-holders_value : goal.returns-in-Rank-clause-holders_value
returns-in-Rank-clause-holders_value c = passed _ _ _ _ c.in-Rank.is c.from-i.ensures c.task-task.ensures.value (c.holders_after-held.ensures _ (sym c.steps.ensures.value))

pub returns-in_default : goal.returns-in_default
returns-in_default c =
    let st = c.args.self.now.state in record {
      state_value = ap (with_tasks st) (ran_nobody (sheet_of c.args.table.now) st.t st.tasks c.args.x c.in_default.not-Rank c.requires.sized);
      holders_value = unmoved c.args.x c.in_default.not-Rank (sheet_of c.args.table.now) st.tasks st.tasks c.args.self.now.holders;
      due_stays = refl;
    }
