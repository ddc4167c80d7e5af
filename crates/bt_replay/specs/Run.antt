-- Lines that run one after the other, and what is written of them.
use Rattle.std.specs.Prelude.{◌≡◌, ℕ, ◌+◌, List, ◌∷◌, ◌++◌, length, Option, None}
use Rattle.std.specs.Borrow.{Bor}
use Rattle.std.specs.Option.{option_copied}
use Rattle.std.specs.Io.KnownBytes.{Appends, Keeps}
use Rattle.bt_disk.specs.Conduct.{Conduct}
use Rattle.bt_machine.specs.State.{EngineView}
use Rattle.bt_replay.specs.Devices.{set_file}
use Rattle.bt_replay.specs.Event.{Does, IsBad, RunsLines}
use Rattle.bt_replay.specs.Field.{more_parts}
use Rattle.bt_replay.specs.Line.{Spells}
use Rattle.bt_replay.specs.declared.fault.ReplayFault.{ReplayFault}
use Rattle.bt_replay.specs.declared.fault.ReplayFault.TheVariants.{Line as bad_line_at, Write, OutOfMemory}
use Rattle.bt_replay.specs.declared.line.Line.{Line}

-- the lines of a text, which are parted by line feeds
abbrev pub lines_in : Option (Bor (List ℕ)) → List (List ℕ)
lines_in text = more_parts 10 (option_copied text)

-- the lines ran, and what tells of them was written after what the writer held
pub record HasRun {D : Type 0} (conduct : Conduct D)
    (dig : List ℕ → List ℕ) (handshake : List ℕ) (first : EngineView D) (lines : List (List ℕ))
    (old new : Option (List ℕ)) (now : EngineView D) : Type 0 where
  pub text : List ℕ
  pub runs : RunsLines conduct dig handshake first lines text now
  pub written : Appends old new text

-- One line ran, and what tells of it was written.
pub record HasRunOne {D : Type 0} (conduct : Conduct D)
    (dig : List ℕ → List ℕ) (handshake : List ℕ) (before : EngineView D) (line : List ℕ)
    (old new : Option (List ℕ)) (now : EngineView D) : Type 0 where
  pub spelled : Line
  pub said : List ℕ
  pub spells : Spells line spelled
  pub does : Does conduct dig handshake before spelled said now
  pub written : Appends old new said

-- memory is taken for a text: it spells a line, and none that sets a device
pub record TakesMemory (text : List ℕ) : Type 0 where
  pub spelled : Line
  pub spells : Spells text spelled
  pub no_setting : set_file spelled ≡ None

-- One line is the last: it can't stand there; memory that it takes was refused; or the writer failed, and then
-- nothing is said of what it holds.
pub data EndsAtLine (handshake : List ℕ) (number : ℕ) (line : List ℕ) (old new : Option (List ℕ))
    (fault : ReplayFault) : Type 0 where
  bad_line : IsBad handshake line → fault ≡ bad_line_at number → Keeps old new
      → EndsAtLine handshake number line old new fault
  no_memory : TakesMemory line → fault ≡ OutOfMemory → Keeps old new
      → EndsAtLine handshake number line old new fault
  not_written : fault ≡ Write → EndsAtLine handshake number line old new fault

-- The lines, of which the first has this number, did not all run. Those before a bad line did, and those before
-- a line for which memory was refused: their answers stand whole, and nothing else.
pub data EndsEarly {D : Type 0} (conduct : Conduct D)
    (dig : List ℕ → List ℕ) (handshake : List ℕ) (first : EngineView D) (number : ℕ) (lines : List (List ℕ))
    (old new : Option (List ℕ)) (fault : ReplayFault) : Type 0 where
  at_bad_line : (good rest : List (List ℕ)) (bad : List ℕ) (now : EngineView D) → lines ≡ good ++ bad ∷ rest
      → HasRun conduct dig handshake first good old new now → IsBad handshake bad
      → fault ≡ bad_line_at (number + length good)
      → EndsEarly conduct dig handshake first number lines old new fault
  without_memory : (good rest : List (List ℕ)) (next : List ℕ) (now : EngineView D)
      → lines ≡ good ++ next ∷ rest
      → HasRun conduct dig handshake first good old new now → TakesMemory next → fault ≡ OutOfMemory
      → EndsEarly conduct dig handshake first number lines old new fault
  unwritten : fault ≡ Write → EndsEarly conduct dig handshake first number lines old new fault
