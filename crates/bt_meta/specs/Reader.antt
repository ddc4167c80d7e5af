-- Why bytes are refused: they spell no torrent (BEP 52, "metainfo files"), or one that is not taken here.
use Rattle.std.specs.Prelude.{◌≡◌, ℕ, ◌<◌, ◌≤◌, List, length, Some}
use Rattle.bt_bencode.specs.Value.{Data}
use Rattle.bt_bencode.specs.Spelling.{spelling_of}
use Rattle.bt_bencode.specs.Doc.{IsCanonical}
use Rattle.bt_bencode.specs.Error.{AtFault}
use Rattle.bt_bencode.specs.Reader.{IsFirstFault, NoneSpells}
use Rattle.bt_bencode.specs.declared.error.BencodeError.{BencodeError}
use Rattle.bt_meta.specs.Faults.{Check}
use Rattle.bt_meta.specs.Error.{refusal_of}
use Rattle.bt_meta.specs.declared.error.MetaError.{MetaError}
use Rattle.bt_meta.specs.declared.error.MetaError.TheVariants.{TooMany, OutOfMemory}
use Rattle.bt_meta.specs.Limits.{max_text_length}

-- no canonical value spells the bytes, and this is the first fault of their bencoding
pub record IsNoSpelling (bytes : List ℕ) (fault : BencodeError) : Type 0 where
  pub first : AtFault (IsFirstFault bytes) fault
  pub spells_none : AtFault (λ _ _. NoneSpells bytes) fault

-- the bytes are the canonical spelling of a value, and this is its first fault
pub record IsFaulty (first_fault : Data → Check) (bytes : List ℕ) (fault : MetaError) : Type 0 where
  pub value : Data
  pub canonical : IsCanonical value
  pub spelled : spelling_of value ≡ bytes
  pub first : first_fault value ≡ Some fault

-- the first cause by which the bytes are refused; or out of memory, where they are not too many
pub data IsRefused (first_fault : Data → Check) (bytes : List ℕ) : MetaError → Type 0 where
  no_memory : length bytes ≤ max_text_length → IsRefused first_fault bytes OutOfMemory
  too_long : max_text_length < length bytes → IsRefused first_fault bytes TooMany
  no_spelling : (fault : BencodeError)
      → length bytes ≤ max_text_length → IsNoSpelling bytes fault
      → IsRefused first_fault bytes (refusal_of fault)
  faulty : (fault : MetaError)
      → length bytes ≤ max_text_length → IsFaulty first_fault bytes fault
      → IsRefused first_fault bytes fault
