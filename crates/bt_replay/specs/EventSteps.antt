-- What an event that a line asks for answers.
use Rattle.std.specs.Prelude.{◌≡◌, ℕ, List, Some}
use Rattle.bt_disk.specs.Conduct.{Conduct}
use Rattle.bt_machine.specs.declared.event.Event.{Event}
use Rattle.bt_machine.specs.declared.event.Answer.{Answer}
use Rattle.bt_machine.specs.State.{EngineView}
use Rattle.bt_machine.specs.View.{StepsTo}
use Rattle.bt_replay.specs.Event.{event_of}
use Rattle.bt_replay.specs.declared.line.Line.{Line}

pub record AnswersLine {D : Type 0} (conduct : Conduct D)
    (dig : List ℕ → List ℕ) (handshake : List ℕ) (old : EngineView D) (line : Line) (answer : Answer)
    (new : EngineView D) : Type 0 where
  pub event : Event
  pub asked : event_of handshake line ≡ Some event
  pub step : StepsTo conduct dig old event answer new
