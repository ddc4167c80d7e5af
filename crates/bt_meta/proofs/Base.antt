-- The names of the library and of the definitions that several proofs cite, in one place.
pub use Rattle.bt_bencode.proofs.ValueData.{data_of-Dict, data_of-Bytes}
pub use Rattle.bt_bencode.specs.Dictionary.{first_value_of}
pub use Rattle.bt_bencode.specs.Doc.{IsCanonical, IsBefore}
unfoldable pub use Rattle.bt_bencode.specs.Doc.{EntriesAscend, HasAscendingKeys}
unfoldable pub use Rattle.bt_bencode.specs.Spelling.{spelling_of}
pub use Rattle.bt_bencode.specs.Value.{Entries, Data, entries_of, entry, data_of, string, dictionary, integer, no_entries}
pub use Rattle.bt_bencode.specs.declared.value.Value.{Value}
pub use Rattle.bt_meta.specs.Encode.{first_layer, AreLayersOf, value_made, properties_made}
unfoldable pub use Rattle.bt_meta.specs.Encode.{tree_made, with_file}
pub use Rattle.bt_meta.specs.EncodeSteps.{given_at, entries_before, is_nonempty, AreNonEmpty, AreBefore, ComesAfter, HasFirstLayers}
pub use Rattle.bt_meta.specs.Faults.{first_of, entry_check, is_too_many, property_checks, file_checks, has_lawful_name, fault_if, layer_check, is_piece_length, is_element, is_path}
unfoldable pub use Rattle.bt_meta.specs.Faults.{tree_checks, has_lawful_length, is_path_element, is_node, layers_of, piece_length_of, info_of, tree_of, layer_checks, first_fault, head_checks, has_lawful_root}
pub use Rattle.bt_meta.specs.Fields.{no_dictionary, as_dictionary}
unfoldable pub use Rattle.bt_meta.specs.Fields.{string_at, has_key, dictionary_at, integer_at}
pub use Rattle.bt_meta.specs.FilePath.{folder_elements}
pub use Rattle.bt_meta.specs.Files.{Content, content_of, contents_of, is_conflict, has_root_conflict, root_of, properties_of, is_file, File, file_of, pieces_of, piece_count, length_of, file_at, layer_at}
unfoldable pub use Rattle.bt_meta.specs.Files.{length_in, root_in, files_of}
pub use Rattle.bt_meta.specs.GivenFiles.{HaveTreePaths, given_of, Given, HasRoot, IsInTreeOrder, path_order, begins}
pub use Rattle.bt_meta.specs.LayerSteps.{layer_faults, with_layer, layer_fault}
unfoldable pub use Rattle.bt_meta.specs.Layers.{has_root, has_layer_size}
pub use Rattle.bt_meta.specs.Limits.{max_file_count, max_piece_count, max_path_length, max_text_length}
pub use Rattle.bt_meta.specs.PropertySteps.{length_at, NotesLength, Lengths, is_other_length}
pub use Rattle.bt_meta.specs.Reader.{faulty, no_spelling}
pub use Rattle.bt_meta.specs.ReaderSteps.{IsListing, IsHead}
pub use Rattle.bt_meta.specs.Torrent.{IsLaidOut, Metainfo}
unfoldable pub use Rattle.bt_meta.specs.Torrent.{metainfo_of}
pub use Rattle.bt_meta.specs.TreeEntries.{TreeEntry, with_earlier}
unfoldable pub use Rattle.bt_meta.specs.TreeEntries.{tree_entries_among, tree_entries_below}
pub use Rattle.bt_meta.specs.WalkSteps.{tree_entries_of, Passes}
pub use Rattle.bt_meta.specs.Writer.{unlawful, overlap}
pub use Rattle.bt_meta.specs.WriterRefusals.{file_refusal}
pub use Rattle.bt_meta.specs.declared.error.MetaError.{MetaError}
pub use Rattle.bt_meta.specs.declared.error.MetaError.TheVariants.{TooMany, Tree, LayerDiffers, LayerSize}
pub use Rattle.bt_meta.specs.declared.reader.Head.{Head}
pub use Rattle.bt_meta.specs.declared.torrent.FileEntry.{FileEntry}
pub use Rattle.bt_meta.specs.declared.walk.Listing.{Listing}
pub use Rattle.bt_meta.specs.declared.writer.Made.{Made}
pub use Rattle.bt_meta.specs.declared.writer.MakeError.TheVariants.{Count}
pub use Rattle.bt_tree.specs.Limits.{max_file_length, max_piece_length}
pub use Rattle.sha2.specs.Sha256.{sha256}
pub use Rattle.std.proofs.Common.{ap, inr, ◌⊎◌, refl, List, get_or, sym, Bool, Option, ℕ, ◌+◌, ◌∷◌, false, inl, map, append_assoc, drop, ◌<◌, ◌≤◌, true, ◌≡◌, length, ◌∙◌, arith, take, None, Some, ◌++◌, [], ◌≢◌, length-append, Err, Ok, Result, ◌^◌, rules, leb, ◌-◌, ◌*◌, suc, add-one, zero}
pub use Rattle.std.proofs.Math.Bool.{or-false}
pub use Rattle.std.proofs.lemmas.Bool.{cases_Bool, and_parts, false_from_ne_true, true≢false, leb-true, cases_lt, or_parts}
pub use Rattle.std.proofs.lemmas.Bool.Decides.{nat_tests}
pub use Rattle.std.proofs.lemmas.Cmp.{tied_itself}
pub use Rattle.std.proofs.lemmas.Fn.{always_returns_same}
pub use Rattle.std.proofs.lemmas.List.{length-map, append-nil, map_push, take_more, map-append, get_or-map, take_all, drop_more}
pub use Rattle.std.proofs.lemmas.List.Elements.{All-nil, All-push, filter-append, All-head, All-tail, All-cons, All-append}
pub use Rattle.std.proofs.lemmas.List.Folds.{list_any-append}
pub use Rattle.std.proofs.lemmas.List.Kept.{AllPairs-cons}
pub use Rattle.std.proofs.lemmas.List.Sorted.{length_permutation, All-permutation}
pub use Rattle.std.proofs.lemmas.List.Sums.{sum_by-cons, sum_by-append}
pub use Rattle.std.proofs.lemmas.Map.Lookups.{exact_bytes}
pub use Rattle.std.proofs.lemmas.Map.Text.{is_eq-slice_cmp}
pub use Rattle.std.proofs.lemmas.Result.{err_from_is_err_and}
pub use Rattle.std.proofs.lemmas.Slice.Eq.{bytes_eq-Decides}
pub use Rattle.std.proofs.lemmas.Str.{is_utf8-from_IsUtf8}
pub use Rattle.std.specs.Borrow.{Bor}
pub use Rattle.std.specs.Cmp.Lexicographic.{slice_cmp, pointwise, nat_list_cmp_total}
pub use Rattle.std.specs.Global.{Vec}
pub use Rattle.std.specs.Int.{div_ceil}
pub use Rattle.std.specs.List.{last_or, list_any, All, list_all, AllPairs}
pub use Rattle.std.specs.List.Sorted.{IsSortedBy}
pub use Rattle.std.specs.Option.{option_map, option_and_then}
pub use Rattle.std.specs.Ordering.{nat_cmp, is_eq, ordering_then, is_lt, ordering_reverse}
pub use Rattle.std.specs.Prelude.{filter, unwrap_or, if◌then◌else◌, ◌==◌, ◌||◌, sum_by, nat_lt, not, nat_le, codes, ◌&&◌, cond, nat_eq, IfSome, string_bytes, replicate, IfOk}
pub use Rattle.std.specs.declared.cmp.Ordering.{Ordering}
pub use Rattle.std.specs.declared.cmp.Ordering.TheVariants.{Greater, Less, Equal}
