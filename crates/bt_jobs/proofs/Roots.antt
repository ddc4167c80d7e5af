-- In a torrent that was read the layer of a file goes by its length and its root.
use Rattle.std.proofs.Common.{◌≡◌, ℕ, ◌++◌, Bool, true, false, List, [], ◌∷◌, refl, sym, subst}
use Rattle.std.proofs.lemmas.List.Elements.{All-cons, All-nil}
use Rattle.bt_bencode.specs.Value.{Data}
use Rattle.bt_meta.specs.Faults.{info_of, layers_of, piece_length_of, tree_of}
use Rattle.bt_meta.specs.Fields.{no_dictionary}
use Rattle.bt_meta.specs.Files.{File, file_at, files_of, is_file, layer_for}
use Rattle.bt_meta.specs.Torrent.{Metainfo, metainfo_of}
use Rattle.bt_meta.specs.TreeEntries.{TreeEntry, tree_entries_below, with_earlier}
use Rattle.std.specs.Prelude.{filter}
use Rattle.bt_check.specs.TorrentFile.{HasText}
use Rattle.bt_jobs.specs.Trees.{GoByRoots}

all_by_root : (piece_length : ℕ) (layers : Data) (before entries : List TreeEntry)
    → GoByRoots (layer_for piece_length layers) (with_earlier (file_at piece_length layers) before entries)
all_by_root piece_length layers before [] = All-nil (λ (f : File). f.layer ≡ layer_for piece_length layers f.length f.root)
all_by_root piece_length layers before (entry ∷ entries) =
    All-cons (λ (f : File). f.layer ≡ layer_for piece_length layers f.length f.root) (file_at piece_length layers before entry)
    (with_earlier (file_at piece_length layers) (before ++ entry ∷ []) entries) refl (all_by_root piece_length layers (before ++ entry ∷ []) entries)

described_by_root : (info layers : Data) → (layer_at : ℕ → List ℕ → List ℕ) × GoByRoots layer_at (metainfo_of info layers).files
unfolding metainfo_of files_of
described_by_root info layers =
    (layer_for (piece_length_of info) layers, all_by_root (piece_length_of info) layers [] (filter is_file (tree_entries_below [] (tree_of info))))

same_torrent : (torrent other : Metainfo) → torrent ≡ other → (layer_at : ℕ → List ℕ → List ℕ) × GoByRoots layer_at other.files
    → (layer_at : ℕ → List ℕ → List ℕ) × GoByRoots layer_at torrent.files
same_torrent torrent other same is = (is.0, subst (λ (t : Metainfo). GoByRoots is.0 t.files) (sym same) is.1)

pub text_by_root : (is_info : Bool) (torrent : Metainfo) → HasText is_info torrent → (layer_at : ℕ → List ℕ → List ℕ) × GoByRoots layer_at torrent.files
text_by_root true torrent has =
    let is = has.spelled.info refl in
    same_torrent torrent (metainfo_of is.value no_dictionary) is.described (described_by_root is.value no_dictionary)
text_by_root false torrent has =
    let is = has.spelled.whole refl in
    same_torrent torrent (metainfo_of (info_of is.value) (layers_of is.value)) is.described (described_by_root (info_of is.value) (layers_of is.value))
