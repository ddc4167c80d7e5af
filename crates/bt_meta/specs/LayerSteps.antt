-- The steps of giving files their layers. No public contract cites them.
use Rattle.std.specs.Prelude.{◌≡◌, ◌⊎◌, ℕ, List, map, None, Some}
use Rattle.bt_bencode.specs.Value.{Data}
use Rattle.bt_meta.specs.Fields.{string_at}
use Rattle.bt_meta.specs.Files.{File, layer_for}
use Rattle.bt_meta.specs.Faults.{Check, first_of, layer_bytes_checks, layer_check_for}
use Rattle.bt_meta.specs.PropertySteps.{Lengths, length_at}

-- the file with its layer
abbrev pub with_layer : ℕ → Data → File → File
with_layer piece_length layers f = record f { layer = layer_for piece_length layers f.length f.root }

-- what is wrong with these bytes as the layer of a file of this many bytes with this root
abbrev pub layer_bytes_fault : ℕ → ℕ → List ℕ → List ℕ → Check
layer_bytes_fault piece_length bytes root layer = first_of (layer_bytes_checks piece_length bytes root layer)

-- what is wrong with the layer of the file
abbrev pub layer_fault : ℕ → Data → File → Check
layer_fault piece_length layers f = layer_check_for piece_length layers f.length f.root

abbrev pub layer_faults : ℕ → Data → List File → List Check
layer_faults piece_length layers files = map (layer_fault piece_length layers) files

-- both hold the same strings
abbrev pub HasStringsOf : Data → Data → Type 0
HasStringsOf layers others = (key : List ℕ) → string_at layers key ≡ string_at others key

-- each root that is noted with a length has the layer of a file of that length
abbrev pub AreRight : ℕ → Data → Lengths → Type 0
AreRight piece_length layers noted = (root : List ℕ) (length : ℕ) → length_at noted root ≡ Some length
    → layer_check_for piece_length layers length root ≡ None

-- what is noted now was noted before, or is this root with this length
abbrev pub IsNotedRight : Lengths → Lengths → List ℕ → ℕ → Type 0
IsNotedRight old new root length = (other : List ℕ) (n : ℕ) → length_at new other ≡ Some n
    → (length_at old other ≡ Some n) ⊎ ((other ≡ root) × (n ≡ length))
