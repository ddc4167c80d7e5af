-- Why files make no torrent: the refusals of each, in their order. The rules are those of reading; that no layer
-- may stand where none belongs is one of this project.
use Rattle.std.specs.Prelude.{ℕ, Bool, not, ◌||◌, ◌==◌, List, [], ◌∷◌, ◌++◌, length, map, sum_by, Option, nat_lt, nat_le, if◌then◌else◌}
use Rattle.bt_tree.specs.Limits.{max_file_length}
use Rattle.bt_meta.specs.TreeEntries.{with_earlier}
use Rattle.bt_meta.specs.Files.{piece_count, has_root_conflict}
use Rattle.bt_meta.specs.Layers.{has_layer_size, has_root}
use Rattle.bt_meta.specs.Faults.{first_of, fault_if, is_path, is_piece_length}
use Rattle.bt_meta.specs.declared.writer.MakeError.{MakeError}
use Rattle.bt_meta.specs.declared.writer.MakeError.TheVariants.{PieceLength, BadPath, FileLength, LayerSize, LayerDiffers, RootConflict, Count}
use Rattle.bt_meta.specs.GivenFiles.{Given, content_given}
use Rattle.bt_meta.specs.Limits.{max_path_length, are_too_many}

-- A check answers a refusal, or nothing.
abbrev pub Check : Type 0
Check = Option MakeError

-- the layer of a file longer than a piece, which folds to its root; no layer for any other
abbrev pub layer_refusal : ℕ → Given → Check
layer_refusal piece_length f =
    if nat_lt piece_length f.length then first_of (
    fault_if (not (has_layer_size piece_length f.length f.layer)) LayerSize
    ∷ fault_if (not (has_root piece_length f.length f.root f.layer)) LayerDiffers
    ∷ []) else fault_if (not (length f.layer == 0)) LayerSize

-- the root conflict of a file with those before it
abbrev pub conflict_with : List Given → Given → Bool
conflict_with before f = has_root_conflict (map content_given before) (content_given f)

-- too many elements in the path; or too many files or pieces with this file
abbrev pub is_beyond : ℕ → List Given → Given → Bool
is_beyond piece_length before f =
    let files = before ++ f ∷ [] in
    nat_lt max_path_length (length f.path)
    || are_too_many (length files) (sum_by (λ g. piece_count piece_length g.length) files)

abbrev pub own_refusal : ℕ → Given → Check
own_refusal piece_length f = first_of (
    fault_if (not (is_path f.path)) BadPath
    ∷ fault_if (not (nat_le f.length max_file_length)) FileLength
    ∷ layer_refusal piece_length f
    ∷ [])

-- a file, after those that were given before it
abbrev pub file_refusal : ℕ → List Given → Given → Check
file_refusal piece_length before f = first_of (
    own_refusal piece_length f
    ∷ fault_if (conflict_with before f) RootConflict
    ∷ fault_if (is_beyond piece_length before f) Count
    ∷ [])

-- the first refusal of the piece length and of the files one by one
unfoldable pub refusal_of_files : ℕ → List Given → Check
refusal_of_files piece_length files = first_of (
    fault_if (not (is_piece_length piece_length)) PieceLength
    ∷ fault_if (length files == 0) Count
    ∷ with_earlier (file_refusal piece_length) [] files)
