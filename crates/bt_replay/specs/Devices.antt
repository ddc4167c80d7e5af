-- The devices that a script names.
use Rattle.std.specs.Prelude.{[], ◌≡◌, ℕ, ◌==◌, if◌then◌else◌, List, ◌∷◌, ◌++◌, Option, Some, None, replicate, slice_get, slice_set, length}
use Rattle.bt_disk.specs.FaultDisk.{FaultView, new_fault_disk}
use Rattle.bt_disk.specs.MemoryDisk.{MemoryView, new_record}
use Rattle.bt_meta.specs.Files.{File}
use Rattle.bt_replay.specs.Line.{Spells, SpellsNone}
use Rattle.bt_replay.specs.declared.line.Line.{Line}
use Rattle.bt_replay.specs.declared.line.Line.TheVariants.{Fault, Flip}

abbrev pub Device : Type 0
Device = FaultView MemoryView

-- a device in memory, of this many zeros
abbrev pub zero_device : ℕ → Device
zero_device length = new_fault_disk (record { kept = new_record (replicate length 0); failed = 0 })

-- of a file; an empty one has none
abbrev pub first_device : File → Option Device
first_device file = if file.length == 0 then None else Some (zero_device file.length)

-- the file whose device a line sets
abbrev pub set_file : Line → Option ℕ
set_file (Fault file call) = Some file
set_file (Flip file call at) = Some file
set_file _ = None

-- the device, as it is set, of which no call was made yet: a second call to fail replaces the first, as does
-- a second flip
abbrev pub with_setting : Line → Device → Device
with_setting (Fault file call) device = record device { failing_once = Some call }
with_setting (Flip file call at) device = record device { flipping = Some (call, at) }
with_setting _ device = device

-- a line sets the device of a file that has one
pub record Sets (old : List (Option Device)) (line : Line) (new : List (Option Device)) : Type 0 where
  pub file : ℕ
  pub device : Device
  pub names : set_file line ≡ Some file
  pub here : slice_get old file ≡ Some (Some device)
  pub after : new ≡ slice_set old file (Some (with_setting line device))

-- lines set devices, one after the other
pub data SetsAll (first : List (Option Device)) : List (List ℕ) → List (Option Device) → Type 0 where
  unset : SetsAll first [] first
  one_set : (lines : List (List ℕ)) (line : List ℕ) (spelled : Line) (mid new : List (Option Device))
      → SetsAll first lines mid → Spells line spelled → Sets mid spelled new
      → SetsAll first (lines ++ line ∷ []) new

-- a text is no setting of these devices
pub data SetsNone (devices : List (Option Device)) (text : List ℕ) : Type 0 where
  no_line : SpellsNone text → SetsNone devices text
  no_setting : (line : Line) → Spells text line → ((new : List (Option Device)) → ¬ Sets devices line new)
      → SetsNone devices text

-- the line after the settings, if there is one, is no setting
abbrev pub SetsNoMore : List (Option Device) → List (List ℕ) → Type 0
SetsNoMore devices [] = Unit {0}
SetsNoMore devices (line ∷ rest) = SetsNone devices line

-- the settings at the front of some lines were made, and what is left of them
pub record SetsFront (first : List (Option Device)) (lines : List (List ℕ)) (count : ℕ)
    (rest : List (List ℕ)) (devices : List (Option Device)) : Type 0 where
  pub settings : List (List ℕ)
  pub parted : lines ≡ settings ++ rest
  pub counted : count ≡ length settings
  pub set : SetsAll first settings devices
  pub no_more : SetsNoMore devices rest
