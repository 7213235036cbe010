-- Each part of the tick is done to what the part before it gave.
use Rattle.engine.proofs.Ticks.{ready, released, spent, room, room_after, choosable, runner_value, switches_spent, tick_value}
use Rattle.engine.proofs.tick_of.Goals as goal

pub after_releases-released-requires : goal.after_releases-released-requires
after_releases-released-requires c = room (ready c.sheet_accepted.ensures c.requires.st_value c.requires.t_bound)

pub runner_of-runner-requires : goal.runner_of-runner-requires
runner_of-runner-requires c =
    choosable (released c.table-table.ensures (ready c.sheet_accepted.ensures c.requires.st_value c.requires.t_bound) c.after_releases-released.ensures)

pub after_runner-ran-requires-clause-all_below : goal.after_runner-ran-requires-clause-all_below
after_runner-ran-requires-clause-all_below c =
    room_after (released c.table-table.ensures (ready c.sheet_accepted.ensures c.requires.st_value c.requires.t_bound) c.after_releases-released.ensures)

pub closed-state-requires-clause-switches_bound : goal.closed-state-requires-clause-switches_bound
closed-state-requires-clause-switches_bound c =
    let α = released c.table-table.ensures (ready c.sheet_accepted.ensures c.requires.st_value c.requires.t_bound) c.after_releases-released.ensures in
    switches_spent (spent c.table-table.ensures α c.runner_of-runner.ensures c.after_runner-ran.ensures)

pub returns : goal.returns
returns c =
    let α = released c.table-table.ensures (ready c.sheet_accepted.ensures c.requires.st_value c.requires.t_bound) c.after_releases-released.ensures in
    let β = spent c.table-table.ensures α c.runner_of-runner.ensures c.after_runner-ran.ensures in record {
      runner_value = runner_value α c.runner_of-runner.ensures;
      state_value = tick_value β c.ran_last-last.ensures c.closed-state.ensures;
    }
