-- The calls that a line sets may be set.
use Rattle.std.specs.Prelude.{ℕ, ◌-◌, ◌^◌, ◌<◌, List, Option}
use Rattle.bt_replay.specs.Devices.{Device, Sets}
use Rattle.bt_replay.specs.Line.{Spells}
use Rattle.bt_replay.specs.declared.line.Line.{Line}
use Rattle.bt_replay.specs.declared.line.Line.TheVariants.{Fault, Flip}

pub record IsLawfulCall (call : ℕ) : Type 0 where
  pub some : 0 < call
  pub within : call < 2 ^ 64 - 1

abbrev pub HasLawfulCall : Line → Type 0
HasLawfulCall (Fault file call) = IsLawfulCall call
HasLawfulCall (Flip file call at) = IsLawfulCall call
HasLawfulCall _ = Unit {0}

-- a text spells a line that sets a device
pub record SetsBy (old : List (Option Device)) (text : List ℕ) (new : List (Option Device)) : Type 0 where
  pub spelled : Line
  pub spells : Spells text spelled
  pub sets : Sets old spelled new
