use Rattle.std.proofs.Common.{◌≡◌, ℕ, ◌<◌, Some, List, [], ◌∷◌, length, map, get_or, ap, sym, subst, rules, arith}
use Rattle.std.specs.List.{All}
use Rattle.std.proofs.lemmas.List.{length-map, get_or-map}
use Rattle.bt_meta.specs.Files.{File, file_of}
use Rattle.bt_meta.specs.declared.torrent.FileEntry.{FileEntry}
use Rattle.bt_check.specs.EntryCheck.{IsCheckable}
use Rattle.bt_check.specs.TreeSteps.{KeepsTrees}
use Rattle.bt_check.proofs.CheckFault.{all_checkable}
use Rattle.bt_program_tests.proofs.reading.found_on.Goals as goal

checkable_at : (layer i : ℕ) (entries : List FileEntry) (entry : FileEntry) → i < length entries → entry ≡ get_or entries i entry
    → All (IsCheckable layer) (map file_of entries) → IsCheckable layer (file_of entry)
checkable_at layer i entries entry lt is all =
    let within : i < length (map file_of entries) = omega (arith, length-map entries file_of) in
    rw is (rw (get_or-map file_of entries i entry (file_of entry) lt) at (all i (file_of entry) within))

-- the first of some files, before the others
first_of_files : (entries : List FileEntry) (entry : FileEntry) → 0 < length entries → entry ≡ get_or entries 0 entry
    → (rest : List File) × (map file_of entries ≡ file_of entry ∷ rest)
first_of_files [] entry some is = absurd (omega (arith, some))
first_of_files (first ∷ rest) entry some is = (map file_of rest, ap (λ e. file_of e ∷ map file_of rest) (sym is))

pub check-requires-clause-checkable : goal.check-requires-clause-checkable
check-requires-clause-checkable g c =
    let size = c.in_ok-size.size in
    let bytes : size.bytes ≡ c.args.torrent.now.piece_length = search rules in
    let first : c.first.result ≡ Some c.in_ok-entry.entry = search rules in
    let item = rw first at c.first.ensures.item.1 in
    checkable_at size.layer 0 c.files-entries.result.now c.in_ok-entry.entry.now c.files-entries.ensures.some item
    (all_checkable size.bytes size.layer (map file_of c.files-entries.result.now) size.of_layer (rw bytes c.files-entries.ensures.lawful)
    c.layers_are_of_trees.ensures)

pub check-requires-clause-trees : goal.check-requires-clause-trees
check-requires-clause-trees g c =
    let layer = c.in_ok-size.size.layer in
    let first : c.first.result ≡ Some c.in_ok-entry.entry = search rules in
    let item = rw first at c.first.ensures.item.1 in
    let begun = first_of_files c.files-entries.result.now c.in_ok-entry.entry.now c.files-entries.ensures.some item in
    ([], begun.0, subst (λ files. KeepsTrees layer [] files c.in_ok-trees.trees) begun.1 (c.in_ok-trees.ensures layer))
