-- What `make` gives, and why no torrent is made of a folder. No contract speaks of files themselves: these
-- say that there are some paths, some lengths and some bytes.
use Rattle.std.specs.Prelude.{◌≡◌, ℕ, ◌++◌, ◌*◌, ◌^◌, ◌⊎◌, List, [], Option, Some, String, Vec, length, map, string_bytes}
use Rattle.std.specs.Global.{Global}
use Rattle.std.specs.List.{All, sum_by}
use Rattle.bt_tree.specs.TreeShape.{IsPieceLength}
use Rattle.bt_meta.specs.Faults.{first_of}
use Rattle.bt_meta.specs.Files.{piece_count}
use Rattle.bt_meta.specs.GivenFiles.{Given, given_of}
use Rattle.bt_meta.specs.MadeFrom.{NamedFile, IsMadeFromNamed}
use Rattle.bt_meta.specs.TreeEntries.{with_earlier}
use Rattle.bt_meta.specs.Writer.{IsMade, IsNotMade}
use Rattle.bt_meta.specs.Torrent.{Metainfo, IsTorrent}
use Rattle.bt_meta.specs.declared.writer.Made.{Made}
use Rattle.bt_meta.specs.declared.writer.MakeError.{MakeError}
use Rattle.bt_meta.specs.declared.writer.MakeError.TheVariants.{PieceLength}
use Rattle.bt_tree.specs.Limits.{full_block_length}
use Rattle.bt_check.specs.Digests.{AreDigestsOf}
use Rattle.bt_check.specs.Fault.{device, make_fault, out_among_files, out_of_memory}
use Rattle.bt_make.specs.Folder.{IsListingFault}
use Rattle.bt_make.specs.Limits.{count_refusal}
use Rattle.bt_check.specs.declared.fault.Fault.{Fault}
use Rattle.bt_make.specs.declared.command.FolderFile.{FolderFile}
use Rattle.bt_make.specs.declared.new_torrent.NewTorrent.{NewTorrent}

-- ---- what is made

-- what is told of a file, of which some bytes are the content
pub record HasContent (layer : ℕ) (file : Made) : Type 0 where
  pub bytes : List ℕ
  pub whole : length bytes ≡ file.length
  pub are : AreDigestsOf bytes layer (record { root = file.root; layer = file.layer })

-- the paths of files, each by its elements
abbrev pub Paths : Type 0
Paths = List (List (List ℕ))

abbrev pub elements_of : Vec (String Global) Global → List (List ℕ)
elements_of path = map string_bytes path.items

abbrev pub paths_of : List Made → Paths
paths_of files = map (λ (file : Given). file.path) (map given_of files)

-- a torrent that was made of such files with these paths, in turn, by pieces of 2 ^ layer blocks, and its
-- infohash; and the files whose bytes were read, from which the torrent is made
pub record IsTorrentOf (paths : Paths) (name : List ℕ) (piece_length : ℕ) (new : NewTorrent) : Type 0 where
  pub layer : ℕ
  pub pieces : piece_length ≡ full_block_length * 2 ^ layer
  pub files : List Made
  pub each : paths_of files ≡ paths
  pub contents : All (HasContent layer) files
  pub text : IsMade name piece_length (map given_of files) new.text.items
  pub torrent : Metainfo
  pub read : IsTorrent new.text.items torrent
  pub hash : new.infohash ≡ torrent.infohash
  pub originals : List NamedFile
  pub named : map (λ f. f.path) originals ≡ paths
  pub made : IsMadeFromNamed torrent originals

-- and of some paths
abbrev pub IsMakeTorrent : List ℕ → ℕ → NewTorrent → Type 0
IsMakeTorrent name piece_length new = (paths : Paths) × IsTorrentOf paths name piece_length new

-- ---- why nothing is made

-- how many pieces the files have together
abbrev pub total_piece_count : ℕ → List FolderFile → ℕ
total_piece_count piece_length files = sum_by (λ file. piece_count piece_length file.length) files

-- a file, after those that were found before it
abbrev pub refusal_behind : ℕ → List FolderFile → FolderFile → Option MakeError
refusal_behind piece_length before file =
    count_refusal (length before) (total_piece_count piece_length before) piece_length
    (length file.path.items) file.length

-- the first refusal of the files one by one, by their lengths
abbrev pub first_count_refusal : ℕ → List FolderFile → Option MakeError
first_count_refusal piece_length files = first_of (with_earlier (refusal_behind piece_length) [] files)

-- the files of the first of these paths are refused, by the lengths that were told
pub record IsCountFault (paths : Paths) (piece_length : ℕ) (fault : Fault) : Type 0 where
  pub files : List FolderFile
  pub rest : Paths
  pub each : paths ≡ map (λ file. elements_of file.path) files ++ rest
  pub cause : MakeError
  pub refusal : first_count_refusal piece_length files ≡ Some cause
  pub is : fault ≡ make_fault cause

-- the files of these paths, told of as some bytes each, make no torrent
pub record IsMakeRefusal (paths : Paths) (name : List ℕ) (piece_length : ℕ) (fault : Fault) : Type 0 where
  pub layer : ℕ
  pub files : List Made
  pub each : paths_of files ≡ paths
  pub contents : All (HasContent layer) files
  pub cause : MakeError
  pub refusal : IsNotMade name piece_length (map given_of files) cause
  pub is : fault ≡ make_fault cause

-- a device failed, or there is no memory; or the files are refused by their lengths
abbrev pub IsMeasuringFault : Paths → ℕ → Fault → Type 0
IsMeasuringFault paths piece_length fault =
    (fault ≡ device) ⊎ (fault ≡ out_of_memory) ⊎ IsCountFault paths piece_length fault

-- or by all that is told of them
abbrev pub IsFilesFault : Paths → List ℕ → ℕ → Fault → Type 0
IsFilesFault paths name piece_length fault =
    IsMeasuringFault paths piece_length fault ⊎ IsMakeRefusal paths name piece_length fault

-- the piece length is not lawful; the folder can't be listed, or OUT can't be written, by a device or for want
-- of memory; OUT is one of its files; or the files of some paths have a fault
abbrev pub IsMakeFault : List ℕ → ℕ → Fault → Type 0
IsMakeFault name piece_length fault =
    ((fault ≡ make_fault PieceLength) × ¬ IsPieceLength piece_length)
    ⊎ IsListingFault fault
    ⊎ (fault ≡ out_among_files)
    ⊎ ((paths : Paths) × IsFilesFault paths name piece_length fault)
