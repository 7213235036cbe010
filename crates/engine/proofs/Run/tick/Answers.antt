-- Each part of the tick is done to what the part before it left.
use Rattle.std.proofs.Common.{◌∙◌, ◌<◌, sym, subst, length}
use Rattle.rules.specs.Sheet.{Sheet}
use Rattle.effect.specs.Effect.{Quiet}
use Rattle.engine.proofs.Ticks.{released, spent, room, room_after, choosable, holders_kept, runner_value, runner_inside, switches_spent, tick_value, hand_on, sized_after, time_after}
use Rattle.engine.proofs.Run.tick.Goals as goal

pub release-requires : goal.release-requires
release-requires c = record {
  sized = c.requires.at_hand.sized;
  all_below = room c.requires.ready;
  quiet = subst (Quiet c.args.self.now.state.t c.args.self.now.due) (sym c.table-table.ensures) c.requires.at_hand.quiet;
}

pub runner_with-runner-requires : goal.runner_with-runner-requires
runner_with-runner-requires c =
    let α = released c.table-table.ensures c.requires.ready c.release.ensures.state_value in record {
      hs_value = holders_kept α (c.release.ensures.holders_stay ∙ c.requires.at_hand.holders_value);
      choosable = choosable α;
    }

pub spend-requires : goal.spend-requires
spend-requires c =
    let α = released c.table-table.ensures c.requires.ready c.release.ensures.state_value in record {
      runner_bound = λ i z. subst (λ (s : Sheet). i < length s.tasks) (sym c.table-table.ensures) (runner_inside α c.runner_with-runner.ensures i z);
      sized = sized_after α;
      all_below = room_after α;
      t_bound = time_after α;
    }

pub closed-self-requires-clause-switches_bound : goal.closed-self-requires-clause-switches_bound
closed-self-requires-clause-switches_bound c =
    let α = released c.table-table.ensures c.requires.ready c.release.ensures.state_value in
    switches_spent (spent c.table-table.ensures α c.runner_with-runner.ensures c.spend.ensures.state_value)

pub returns : goal.returns
returns c =
    let α = released c.table-table.ensures c.requires.ready c.release.ensures.state_value in
    let β = spent c.table-table.ensures α c.runner_with-runner.ensures c.spend.ensures.state_value in record {
      runner_value = runner_value α c.runner_with-runner.ensures;
      state_value = tick_value β c.ran_last-last.ensures c.closed-self.ensures;
      at_hand = hand_on β c.ran_last-last.ensures c.closed-self.ensures c.table-table.ensures (holders_kept α (c.release.ensures.holders_stay ∙ c.requires.at_hand.holders_value))
          c.spend.ensures.holders_value c.release.ensures.quiet c.spend.ensures.due_stays;
    }
