-- A list of events of an engine, with its answers.
use Rattle.std.specs.Prelude.{◌≡◌, ℕ, List, ◌++◌}
use Rattle.bt_disk.specs.Conduct.{Conduct}
use Rattle.bt_machine.specs.declared.event.Event.{Event}
use Rattle.bt_machine.specs.declared.event.Answer.{Answer}
use Rattle.bt_machine.specs.State.{EngineView}
use Rattle.bt_machine.specs.View.{RunsTo}

-- the events ran, one after the other, and their answers stand after those before
pub record RunsEvents {D : Type 0} (conduct : Conduct D)
    (dig : List ℕ → List ℕ) (old : EngineView D) (events : List Event) (before after : List Answer)
    (new : EngineView D) : Type 0 where
  pub said : List Answer
  pub behind : after ≡ before ++ said
  pub runs : RunsTo conduct dig old events said new
