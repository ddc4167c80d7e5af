use Rattle.bt_meta.proofs.Base.{arith, ap, ◌∙◌, [], ◌∷◌, ◌++◌, folder_elements, err_from_is_err_and}
use Rattle.bt_meta.proofs.Choices.{test_of_some, test_of_none}
use Rattle.bt_meta.proofs.Dictionaries.{empty_key, key_entries}
use Rattle.bt_meta.proofs.TreeWalk.{passes_nothing, no_node_stops, bad_name_stops, folder_many, folder_passes, entry_stops, file_entry, file_entered, memory_stops}
use Rattle.bt_meta.proofs.walk.enter.Goals as goal

pub returns-then-is_empty : goal.returns-then-is_empty
returns-then-is_empty c = rw (empty_key _ _ _ c.if-is_empty.ensures) passes_nothing

pub returns-in_default : goal.returns-in_default
returns-in_default c = entry_stops _ _ _ (key_entries _ _ _ c.if-is_empty.ensures) (no_node_stops _ _ _ c.in_default.ensures)

pub returns-in_default-path_element : goal.returns-in_default-path_element
returns-in_default-path_element c =
    entry_stops _ _ _ (key_entries _ _ _ c.if-is_empty.ensures)
    (bad_name_stops _ _ _ c.in-Some.ensures.0 (test_of_none _ _ c.in_default-path_element.ensures))

pub returns-in_err-add_file-in-File : goal.returns-in_err-add_file-in-File
returns-in_err-add_file-in-File c =
    let q = err_from_is_err_and c.from_residual.result c.from_residual.ensures.1 in
    let node = rw c.in-File.is at c.in-Some.ensures in
    let named = test_of_some _ _ _ c.in-Some-path_element.ensures in
    rw (q.1, q.2) (entry_stops _ _ _ (key_entries _ _ _ c.if-is_empty.ensures)
    (c.in_err-add_file-in-File.ensures.stopped _ (file_entry _ _ _ named.1 node.0 named.0 node.1.0 node.1.1)))

pub returns-in_ok-add_file-in-File : goal.returns-in_ok-add_file-in-File
returns-in_ok-add_file-in-File c =
    let node = rw c.in-File.is at c.in-Some.ensures in
    let named = test_of_some _ _ _ c.in-Some-path_element.ensures in
    file_entered _ _ _ (key_entries _ _ _ c.if-is_empty.ensures) node.1.2
    (c.in_ok-add_file-in-File.ensures.passed _ (file_entry _ _ _ named.1 node.0 named.0 node.1.0 node.1.1))

pub returns-then-folder_length-ge-MAX_PATH_LENGTH : goal.returns-then-folder_length-ge-MAX_PATH_LENGTH
returns-then-folder_length-ge-MAX_PATH_LENGTH c =
    let node = rw c.in-Folder.is at c.in-Some.ensures in
    let named = test_of_some _ _ _ c.in-Some-path_element.ensures in
    entry_stops _ _ _ (key_entries _ _ _ c.if-is_empty.ensures) (folder_many _ _ _ node.0 named.0 node.1 (omega arith))

pub returns-in_err-inside-in-Folder : goal.returns-in_err-inside-in-Folder
returns-in_err-inside-in-Folder c =
    let q = err_from_is_err_and c.from_residual-in_err-inside-in-Folder.result c.from_residual-in_err-inside-in-Folder.ensures.1 in
    rw q.1 (entry_stops _ _ _ (key_entries _ _ _ c.if-is_empty.ensures) (memory_stops q.2))

pub returns-in_ok-inside-in-Folder : goal.returns-in_ok-inside-in-Folder
returns-in_ok-inside-in-Folder c =
    let node = rw c.in-Folder.is at c.in-Some.ensures in
    let named = test_of_some _ _ _ c.in-Some-path_element.ensures in (
      c.in_ok-inside-in-Folder.ensures ∙ ap (λ k. folder_elements c.args.path.now ++ k ∷ []) named.1,
      folder_passes _ _ _ node.0 named.0 node.1 (omega arith),
      key_entries _ _ _ c.if-is_empty.ensures,
    )
