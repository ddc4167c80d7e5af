-- The steps of reading a torrent. No public contract cites them.
use Rattle.std.specs.Prelude.{◌≡◌, ℕ, ◌≤◌, ◌⊎◌, List, map, sum_by, codes, None, Some, true}
use Rattle.std.specs.List.{All}
use Rattle.bt_bencode.specs.Value.{Data}
use Rattle.bt_bencode.specs.Value.{data_of}
use Rattle.bt_tree.specs.Limits.{max_file_length}
use Rattle.bt_meta.specs.Fields.{string_at, no_dictionary}
use Rattle.bt_meta.specs.Files.{File, file_of, piece_count, files_of}
use Rattle.bt_meta.specs.Faults.{Check, first_of, head_checks, piece_length_of, is_piece_length, tree_of, tree_checks}
use Rattle.bt_meta.specs.declared.error.MetaError.{MetaError}
use Rattle.bt_meta.specs.declared.error.MetaError.TheVariants.{OutOfMemory}
use Rattle.bt_meta.specs.declared.reader.Head.{Head}
use Rattle.bt_meta.specs.declared.walk.Listing.{Listing}
use Rattle.bt_meta.specs.declared.torrent.FileEntry.{FileEntry}

-- out of memory, or the fault that the check finds
abbrev pub Refuses : Check → MetaError → Type 0
Refuses check e = (e ≡ OutOfMemory) ⊎ (check ≡ Some e)

-- an info dictionary whose head has no fault says this
pub record IsHead (info : Data) (head : Head) : Type 0 where
  pub faultless : first_of (head_checks info) ≡ None
  pub name : string_at info (codes "name") ≡ Some head.name.now
  pub piece_length : piece_length_of info ≡ head.piece_length
  pub lawful : is_piece_length head.piece_length ≡ true
  pub tree : tree_of info ≡ data_of head.tree.now

-- how many pieces the files have together
abbrev pub pieces_in : ℕ → List FileEntry → ℕ
pieces_in piece_length files = sum_by (λ f. piece_count piece_length f.length) (map file_of files)

-- no file is too long
abbrev pub AreShort : List File → Type 0
AreShort files = All (λ f. f.length ≤ max_file_length) files

-- the files of a tree without a fault, without their layers
pub record IsListing (piece_length : ℕ) (tree : Data) (listing : Listing) : Type 0 where
  pub faultless : first_of (tree_checks piece_length tree) ≡ None
  pub files : map file_of listing.files.items ≡ files_of piece_length no_dictionary tree
  pub pieces : listing.pieces ≡ pieces_in piece_length listing.files.items
  pub short : AreShort (map file_of listing.files.items)
