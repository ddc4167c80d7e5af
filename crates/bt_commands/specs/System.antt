-- The program over the system that it runs on.
use Rattle.std.specs.Prelude.{ℕ, List, Option}
use Rattle.bt_commands.specs.Program.{IsStart}

-- a start on some words and some streams ends with this status: what the system's have and had nobody knows
abbrev pub IsLaunch : ℕ → Type 0
IsLaunch status = (given left old new : Option (List ℕ)) × IsStart given left old new status
