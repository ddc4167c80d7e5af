-- The lemmas that close the steps of each function.
use Rattle.bt_meta.proofs.Base.{data_of-Dict, data_of-Bytes, no_spelling, unlawful, nat_tests, length-map, take_all, err_from_is_err_and, is_utf8-from_IsUtf8, map-append, list_any-append, or-false}
use Rattle.bt_meta.proofs.Dictionaries.{entries_ascend, field_ascends, nothing_ascends, single_entry}
use Rattle.bt_meta.proofs.EncodeValue.{lent_behind, tree_more, file_in, layers_of_known, layers_of_short, entries_push, opened_push, before_none, before_more}
use Rattle.bt_meta.proofs.FileLayers.{layer_differs, layer_right, layer_sized_wrong}
use Rattle.bt_meta.proofs.MadeTree.{lent_short, ordered_named}
use Rattle.bt_meta.proofs.MakeFiles.{apart_more, memory_short, none_overlap, overlap_found}
use Rattle.bt_meta.proofs.ReadFiles.{ascends}
use Rattle.bt_meta.proofs.ReadRefusals.{value_refused}
use Rattle.bt_meta.proofs.TreeWalk.{key_at_top, no_file, start, tree_stops, no_folder, none_yet}
use Rattle.bt_meta.specs.Reader.{too_long as text_too_long}
use Rattle.std.proofs.lemmas.List.{nil_from_length, take_all, drop_all}
use Rattle.std.proofs.lemmas.Str.{IsUtf8-from_is_utf8}
use Rattle.bt_bencode.proofs.ValueData.{data_of-Int, data_of-List}

pub ruleset read_tree_steps = (err_from_is_err_and, start, key_at_top, tree_stops, no_file)

pub ruleset is_single_steps = (data_of-Dict, single_entry)

pub ruleset path_element_steps = (IsUtf8-from_is_utf8, is_utf8-from_IsUtf8)

pub ruleset check_files_steps = (take_all, drop_all)

pub ruleset has_overlap_steps = (apart_more, overlap_found, none_overlap, length-map)

pub ruleset add_layer_steps = (nat_tests, layers_of_short, layers_of_known)

pub ruleset tree_of_steps = (length-map, take_all, tree_more, lent_behind)

pub ruleset folder_with_steps = (data_of-Dict, file_in, nil_from_length)

pub ruleset open_last_steps = (entries_push, opened_push, before_none)

pub ruleset layer_entries_steps = (data_of-Bytes, before_more)

pub ruleset value_of_steps = (data_of-Dict)

pub ruleset layers_there = (field_ascends, entries_ascend, nothing_ascends)

pub ruleset read_steps = (err_from_is_err_and, text_too_long, no_spelling, value_refused, ascends)

pub ruleset make_steps = (err_from_is_err_and, memory_short, unlawful, ordered_named, lent_short, length-map)

pub ruleset check_steps = (layer_right, layer_sized_wrong, layer_differs)

pub ruleset walk_folder_steps = (data_of-Int, data_of-Bytes, data_of-List, no_folder, none_yet)

pub ruleset check_root_steps = (map-append, list_any-append, or-false)
