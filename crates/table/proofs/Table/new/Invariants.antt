-- The tasks stand in front, and behind them what stands in a place with no task.
use Rattle.std.specs.Prelude.{◌≡◌, take, length}
use Rattle.table.proofs.Table.new.Given as goal

abbrev pub invariant-loop : goal.invariant-loop
invariant-loop l =
    record {
      counted : length l.tasks.items ≡ l.counter;
      same : take l.n l.tasks.items ≡ l.fn.tasks.items;
    }
