-- Events that lead from one engine to another, however many: none, one, and some and then others. None is a
-- restart.
use Rattle.std.specs.Prelude.{◌≢◌, ℕ, List}
use Rattle.bt_disk.specs.Conduct.{Conduct}
use Rattle.bt_machine.specs.declared.event.Event.{Event}
use Rattle.bt_machine.specs.declared.event.Event.TheVariants.{Restart}
use Rattle.bt_machine.specs.declared.event.Answer.{Answer}
use Rattle.bt_machine.specs.Sound.{IsSound}
use Rattle.bt_machine.specs.State.{EngineView}
use Rattle.bt_machine.specs.View.{StepsTo}
pub use Rattle.bt_engine.specs.Standing.{Stands}

pub data LeadsTo {D : Type 0} (conduct : Conduct D)
    (dig : List ℕ → List ℕ) : EngineView D → EngineView D → Type 0 where
  none : (engine : EngineView D) → LeadsTo conduct dig engine engine
  one : (old new : EngineView D) (event : Event) (answer : Answer) → event ≢ Restart
      → StepsTo conduct dig old event answer new → LeadsTo conduct dig old new
  both : (old mid new : EngineView D) → LeadsTo conduct dig old mid
      → LeadsTo conduct dig mid new → LeadsTo conduct dig old new

-- Where marked blocks are right on honest devices, what leads on loses nothing.
abbrev pub WhatLeadsOnStands : {D : Type 0} → Conduct D → (List ℕ → List ℕ)
    → Type 0
WhatLeadsOnStands {D} conduct dig = (old new : EngineView D)
    → IsSound conduct dig old.state old.disks → LeadsTo conduct dig old new
    → Stands conduct old new
