-- What a torrent's file gives. Of a file of the system no contract speaks: there it is some text.
use Rattle.std.specs.Prelude.{◌≡◌, ℕ, ◌+◌, ◌⊎◌, Bool, true, false, List, take}
use Rattle.bt_meta.specs.Limits.{max_text_length}
use Rattle.bt_meta.specs.Faults.{first_fault, first_info_fault}
use Rattle.bt_meta.specs.Reader.{IsRefused}
use Rattle.bt_meta.specs.Torrent.{Metainfo, IsTorrent, IsInfo}
use Rattle.bt_meta.specs.declared.error.MetaError.{MetaError}
use Rattle.bt_check.specs.Fault.{device, out_of_memory, torrent_fault}
use Rattle.bt_check.specs.declared.fault.Fault.{Fault}

-- the torrent that a text spells, as an info dictionary alone or as a whole
pub record IsTorrentOfText (is_info : Bool) (text : List ℕ) (torrent : Metainfo) : Type 0 where
  pub whole : is_info ≡ false → IsTorrent text torrent
  pub info : is_info ≡ true → IsInfo text torrent

-- a text is refused, as an info dictionary alone or as a whole, and the fault tells why
pub record IsRefusalOfText (is_info : Bool) (text : List ℕ) (fault : Fault) : Type 0 where
  pub refusal : MetaError
  pub whole : is_info ≡ false → IsRefused first_fault text refusal
  pub info : is_info ≡ true → IsRefused first_info_fault text refusal
  pub told : fault ≡ torrent_fault refusal

-- all bytes of a torrent's file, or as many as show that they are too many
abbrev pub text_in : List ℕ → List ℕ
text_in bytes = take (max_text_length + 1) bytes

-- why no torrent was read of these bytes
abbrev pub IsSourceFault : Bool → List ℕ → Fault → Type 0
IsSourceFault is_info bytes fault =
    (fault ≡ device) ⊎ (fault ≡ out_of_memory) ⊎ IsRefusalOfText is_info (text_in bytes) fault

-- the torrent of some text
pub record HasText (is_info : Bool) (torrent : Metainfo) : Type 0 where
  pub text : List ℕ
  pub spelled : IsTorrentOfText is_info text torrent

-- some text is refused
pub record IsTextRefusal (is_info : Bool) (fault : Fault) : Type 0 where
  pub text : List ℕ
  pub refused : IsRefusalOfText is_info text fault

-- why no torrent was read
abbrev pub IsLoadFault : Bool → Fault → Type 0
IsLoadFault is_info fault = (fault ≡ device) ⊎ (fault ≡ out_of_memory) ⊎ IsTextRefusal is_info fault
