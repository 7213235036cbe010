-- What a run keeps at hand beside its state, and what a state must be for a tick of a run.
use Rattle.std.specs.Prelude.{ℕ, ◌<◌, ◌≡◌, List, true, length}
use Rattle.rules.specs.Sheet.{Sheet, task_at}
use Rattle.rules.specs.Record.{record_at, possible}
use Rattle.rules.specs.declared.TaskRecord.{TaskRecord}
use Rattle.rules.specs.declared.State.{State}
use Rattle.rules.specs.declared.Runner.{Runner}
use Rattle.rules.specs.declared.Runner.TheVariants.{Rank, Stuck, Idle}
use Rattle.table.specs.Table.{Accepted}
use Rattle.holders.specs.Holders.{holders, after_tick}
use Rattle.effect.specs.Effect.{Quiet}
use Rattle.engine.specs.declared.Run.{Run}

-- The state is a possible one of an accepted sheet, and its run has not ended.
pub record Ready (sheet : Sheet) (st : State) : Type 0 where
  pub accepted : Accepted sheet
  pub possible_value : possible sheet st ≡ true
  pub early : st.t < 60000

-- Its state has sixteen records; the holders at hand are those of the state, and no task has a release from its tick up to the one
-- at hand.
pub record AtHand (sheet : Sheet) (run : Run) : Type 0 where
  pub sized : length run.state.tasks ≡ 16
  pub holders_value : run.holders ≡ holders sheet run.state.tasks
  pub quiet : Quiet run.state.t run.due sheet

-- The holders after the runner's tick, from those before it and the records before and after: where nobody runs they stay.
abbrev pub after_runner_tick : Runner → Sheet → (before after : List TaskRecord) → List ℕ → List ℕ
after_runner_tick (Rank i) sheet before after hs = after_tick i (task_at sheet i) (record_at before i).job (record_at after i).job hs
after_runner_tick Stuck sheet before after hs = hs
after_runner_tick Idle sheet before after hs = hs
