-- What the command `replay` comes to.
use Rattle.std.specs.Prelude.{◌≡◌, ℕ, List, Option, Result, Ok, Err}
use Rattle.std.specs.Io.KnownBytes.{Keeps}
use Rattle.bt_replay.specs.Fault.{status_of}
use Rattle.bt_replay.specs.Reader.{GivesScript, IsUnread}
use Rattle.bt_replay.specs.Script.{Replays}
use Rattle.bt_replay.specs.declared.fault.ReplayFault.{ReplayFault}

-- the status that the program exits with
abbrev pub status_after : Result (Unit {0}) ReplayFault → ℕ
status_after (Ok done) = 0
status_after (Err fault) = status_of fault

-- A reader gave a script, and what it comes to was written; or it gave none, and nothing was written.
pub data IsReplay (given left old new : Option (List ℕ)) (status : ℕ) : Type 0 where
  replayed : (script : List ℕ) (outcome : Result (Unit {0}) ReplayFault) → GivesScript given left script
      → Replays script old new outcome → status ≡ status_after outcome → IsReplay given left old new status
  unread : (fault : ReplayFault) → IsUnread given left fault → Keeps old new → status ≡ status_of fault
      → IsReplay given left old new status
