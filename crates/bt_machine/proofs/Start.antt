-- What a lawful torrent says of a tree is rooted.
use Rattle.bt_machine.proofs.Base.{[], ◌≡◌, ℕ, zero, suc, ◌<◌, List, ◌∷◌, length, get_or, Some, slice_get, arith, IsFileLength, LayersAreSound, RootsAreSound, All-get_or, File, Metainfo, IsLawful, IsLawfulFile}
use Rattle.bt_machine.proofs.Machine.{IsTreeFrom, by_layer, by_root, IsTorrentTree}
use Rattle.bt_sparse.specs.SparseTree.{IsSound}

get_is : {X : Type 0} (xs : List X) (i : ℕ) {x : X} → slice_get xs i ≡ Some x → (i < length xs) × (get_or xs i x ≡ x)
get_is [] zero e = absurd cc
get_is [] (suc i) e = absurd cc
get_is (y ∷ xs) zero {x} e = (omega arith, same e)
  where
    same : Some y ≡ Some x → y ≡ x
    same e = cc
get_is (y ∷ xs) (suc i) e = let r = get_is xs i e in (omega arith, r.1)

tree_sound : {dig : _} → LayersAreSound dig → RootsAreSound dig → {file : File} {torrent k : _} → IsFileLength file.length → length file.root ≡ 32
    → IsTreeFrom dig torrent file k → IsSound dig k
tree_sound layers roots {file} lawful size (by_layer layer some piece h) = layers file.length layer file.root file.layer _ lawful h
tree_sound layers roots {file} lawful size (by_root none is) = rw is (roots file.length file.root lawful size)

-- what a lawful torrent says of a tree
pub torrent_sound : {dig : _} → LayersAreSound dig → RootsAreSound dig → (torrent : Metainfo) → IsLawful torrent.piece_length torrent.files
    → (k : _) → IsTorrentTree dig torrent k → IsSound dig k
torrent_sound layers roots torrent lawful k tree =
    let found = get_is _ _ tree.listed in
    let file : IsLawfulFile torrent.piece_length tree.file = rw (← found.1) (All-get_or (IsLawfulFile torrent.piece_length) torrent.files tree.number tree.file found.0 lawful.each) in
    tree_sound layers roots (record { some = tree.some; limit = file.short }) file.rooted tree.says
