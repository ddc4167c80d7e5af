-- What a whole script comes to.
use Rattle.std.specs.Prelude.{◌≡◌, ℕ, ◌+◌, ◌-◌, ◌==◌, ◌&&◌, if◌then◌else◌, nat_lt, List, ◌∷◌, map, filter_map, length, take, slice_index, Option, Some, None, Result, Ok, Err}
use Rattle.std.specs.Io.KnownBytes.{Keeps}
use Rattle.sha2.specs.Sha256.{sha256}
use Rattle.bt_disk.specs.Conduct.{Conduct}
use Rattle.bt_disk.specs.FaultDisk.{fault_conduct}
use Rattle.bt_disk.specs.MemoryDisk.{memory_conduct}
use Rattle.bt_meta.specs.Faults.{first_fault}
use Rattle.bt_meta.specs.Reader.{IsRefused}
use Rattle.bt_meta.specs.Torrent.{Metainfo, IsTorrent}
use Rattle.bt_meta.specs.declared.error.MetaError.{MetaError}
use Rattle.bt_resume.specs.ResumeLog.{LogView, IsAttached}
use Rattle.bt_machine.specs.Opening.{AnswersStart}
use Rattle.bt_machine.specs.State.{EngineView}
use Rattle.bt_replay.specs.Devices.{Device, SetsFront, first_device, zero_device}
use Rattle.bt_replay.specs.Event.{peer_handshake}
use Rattle.bt_replay.specs.Fault.{torrent_fault}
use Rattle.bt_replay.specs.Field.{parts_of}
use Rattle.bt_replay.specs.Line.{Spells, SpellsBytes, SpellsNone}
use Rattle.bt_replay.specs.Run.{EndsEarly, HasRun}
use Rattle.bt_replay.specs.declared.fault.ReplayFault.{ReplayFault}
use Rattle.bt_replay.specs.declared.fault.ReplayFault.TheVariants.{Line as bad_line_at, OutOfMemory}
use Rattle.bt_replay.specs.declared.line.Line.{Line}
use Rattle.bt_replay.specs.declared.line.Line.TheVariants.{Torrent}

-- ---- lines

-- a text without the line feed at its end, where there is one
abbrev pub without_last_feed : List ℕ → List ℕ
without_last_feed text =
    if nat_lt 0 (length text) && slice_index text (length text - 1) == 10 then take (length text - 1) text
    else text

-- the lines of a script: each is ended by a line feed, which the last one may lack
abbrev pub script_lines : List ℕ → List (List ℕ)
script_lines script = parts_of 10 (without_last_feed script)

-- ---- the torrent

abbrev pub torrent_bytes : Line → Option (List ℕ)
torrent_bytes (Torrent bytes) = Some bytes
torrent_bytes _ = None

-- a text names a torrent
pub record NamesTorrent (text : List ℕ) (torrent : Metainfo) : Type 0 where
  pub line : Line
  pub bytes : List ℕ
  pub spells : Spells text line
  pub has : torrent_bytes line ≡ Some bytes
  pub is_torrent : IsTorrent bytes torrent

-- a text names none: it spells no such line; the torrent is refused, which want of memory is not; or memory for
-- its bytes was
pub data NamesNone (text : List ℕ) (fault : ReplayFault) : Type 0 where
  no_line : SpellsNone text → fault ≡ bad_line_at 1 → NamesNone text fault
  other_line : (line : Line) → Spells text line → torrent_bytes line ≡ None → fault ≡ bad_line_at 1
      → NamesNone text fault
  refused : (line : Line) (bytes : List ℕ) (refusal : MetaError) → Spells text line
      → torrent_bytes line ≡ Some bytes → IsRefused first_fault bytes refusal
      → fault ≡ torrent_fault refusal → NamesNone text fault
  no_memory : SpellsBytes text → fault ≡ OutOfMemory → NamesNone text fault

-- ---- the engine

abbrev pub device_conduct : Conduct Device
device_conduct = fault_conduct memory_conduct

-- a log of the torrent with this infohash, which was made on an empty device in memory
abbrev pub IsNewLog : (infohash : List ℕ) → LogView Device → Type 0
IsNewLog infohash log = IsAttached device_conduct infohash (zero_device 0) log

-- An engine is started for the torrent with such a log, on the devices that the settings at the front of these
-- lines make; no line sets the log's device.
pub record BeginsOn (torrent : Metainfo) (lines : List (List ℕ)) (engine : EngineView Device)
    (rest : List (List ℕ)) (count : ℕ) : Type 0 where
  pub devices : List (Option Device)
  pub set : SetsFront (map first_device torrent.files) lines count rest devices
  pub log : LogView Device
  pub log_is_new : IsNewLog torrent.infohash log
  pub starts : AnswersStart device_conduct sha256 torrent
      (filter_map (λ device. device) devices) (Some log) (Ok engine)

-- ---- the whole

-- All lines ran; or they ended early, which a writer that fails makes them do; or nothing was begun, and
-- nothing written: no torrent is named, or memory was refused for what the torrent is started on.
pub data Replays (script : List ℕ) (old new : Option (List ℕ)) (outcome : Result (Unit {0}) ReplayFault)
    : Type 0 where
  whole : (first : List ℕ) (lines rest : List (List ℕ)) (torrent : Metainfo) (engine now : EngineView Device)
      (count : ℕ) → script_lines script ≡ first ∷ lines → NamesTorrent first torrent
      → BeginsOn torrent lines engine rest count
      → HasRun device_conduct sha256 (peer_handshake torrent) engine
      rest old new now
      → outcome ≡ Ok tt → Replays script old new outcome
  early : (first : List ℕ) (lines rest : List (List ℕ)) (torrent : Metainfo) (engine : EngineView Device)
      (count : ℕ) (fault : ReplayFault) → script_lines script ≡ first ∷ lines → NamesTorrent first torrent
      → BeginsOn torrent lines engine rest count
      → EndsEarly device_conduct sha256 (peer_handshake torrent) engine
      (count + 2) rest old new fault
      → outcome ≡ Err fault → Replays script old new outcome
  unbegun : (first : List ℕ) (lines : List (List ℕ)) (fault : ReplayFault)
      → script_lines script ≡ first ∷ lines → NamesNone first fault → Keeps old new → outcome ≡ Err fault
      → Replays script old new outcome
  without_memory : (first : List ℕ) (lines : List (List ℕ)) (torrent : Metainfo)
      → script_lines script ≡ first ∷ lines → NamesTorrent first torrent → Keeps old new
      → outcome ≡ Err OutOfMemory → Replays script old new outcome
