-- What a check finds of a file of a torrent whose pieces have 2 ^ layer blocks, by what it read of the files
-- before it: those of one length and root have one tree.
use Rattle.std.specs.Prelude.{◌≡◌, ℕ, ◌&&◌, ◌==◌, nat_eq, Bool, false, List, [], ◌∷◌, ◌++◌, Option, None, Some}
use Rattle.std.specs.Cmp.Lexicographic.{pointwise}
use Rattle.std.specs.List.{filter}
use Rattle.std.specs.Option.{option_or}
use Rattle.bt_disk.specs.Conduct.{Conduct}
use Rattle.bt_meta.specs.Files.{File}
use Rattle.bt_check.specs.Finding.{KnownLayer, IsFindingOf, known_layer}
use Rattle.bt_check.specs.EntryCheck.{Answers, IsEntryCheck, leaf_read}
use Rattle.bt_check.specs.declared.data_file.Finding.{Finding}

-- a file whose data file is there, and what its device answered
pub record CheckedFile : Type 0 where
  pub file : File
  pub answers : Answers

-- two files of one root and length, which have one tree
abbrev pub are_twins : File → File → Bool
are_twins file other = pointwise nat_eq file.root other.root && file.length == other.length

abbrev pub is_twin : File → CheckedFile → Bool
is_twin file c = are_twins c.file file

-- the layer that is known of the tree of some twins: that of the first; of none, the file's own
abbrev pub twins_layer : ℕ → File → List CheckedFile → KnownLayer
twins_layer layer file [] = known_layer layer file
twins_layer layer file (first ∷ later) = known_layer layer first.file

-- the leaf of a block that is known by some twins: that of the first in which the block's piece is right
abbrev pub twins_leaf : ℕ → KnownLayer → List CheckedFile → ℕ → Option (List ℕ)
twins_leaf n known [] block = None
twins_leaf n known (twin ∷ twins) block =
    option_or (leaf_read twin.answers.reads n known block) (twins_leaf n known twins block)

-- what is known of a file's tree after some files were checked: a layer, and leaves

abbrev pub layer_before : ℕ → List CheckedFile → File → KnownLayer
layer_before layer before file = twins_layer layer file (filter (is_twin file) before)

abbrev pub leaves_before : ℕ → List CheckedFile → File → ℕ → Option (List ℕ)
leaves_before layer before file =
    twins_leaf file.length (layer_before layer before file) (filter (is_twin file) before)

-- What is found of a file after these files were checked, and which are after it. There is no device, and so
-- no bytes; or there is one, and this is found by what it answered to all calls.
pub data IsFileFinding {D : Type 0} (conduct : Conduct D)
    (layer : ℕ) (before : List CheckedFile) (file : File) (finding : Finding)
    : Option D → List CheckedFile → Type 0 where
  absent : IsFindingOf [] file.length
      (layer_before layer before file) (leaves_before layer before file) finding
      → finding.faulty ≡ false
      → IsFileFinding conduct layer before file finding None before
  present : (disk after : D) (answers : Answers)
      → IsEntryCheck conduct file.length
      (layer_before layer before file) (leaves_before layer before file) disk answers after finding
      → IsFileFinding conduct layer before file finding (Some disk)
      (before ++ record { file = file; answers = answers } ∷ [])
