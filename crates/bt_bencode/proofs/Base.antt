-- The names of the library and of the specs that several proofs cite, in one place.
pub use Rattle.std.proofs.Common.{◌≡◌, length, [], arith, ℕ, ◌<◌, List, drop, ◌∙◌, ◌∷◌, ◌++◌, ap, sym, get_or, refl, append_assoc, ◌+◌, take, ◌≢◌, ◌-◌, ◌^◌, ◌≤◌, false, inl, inr, suc, length-drop, ◌⊎◌, zero, Bool, true, length-append, ℤ, subst, pos, add-zero, negsuc, neg_ℤ, ◌*◌, rules, slice_index}
pub use Rattle.std.proofs.Math.Dec.{eqb, ltb}
pub use Rattle.std.proofs.Math.Seq.{drop-length, take-append_seam, drop-append_seam}
pub use Rattle.std.proofs.lemmas.Bool.{ne_eqb, false≢true, eq-eqb}
pub use Rattle.std.proofs.lemmas.Int.{ints, to_z-of_z, SFits-int_wrap, int_wrap_fits}
pub use Rattle.std.proofs.lemmas.List.{append-nil, get_or_append_left, drop_more, take_more, take_all, get_or-drop, take-append-drop, length-take-le, drop-drop, take_rest}
pub use Rattle.std.proofs.lemmas.List.Edits.{between_more, length-between}
pub use Rattle.std.proofs.lemmas.List.Folds.{drop_split}
pub use Rattle.std.specs.Bool.{Decides}
pub use Rattle.std.specs.Char.{IsAsciiDigit, is_ascii_digit, digit_value}
pub use Rattle.std.specs.Cmp.Lexicographic.{slice_cmp}
pub use Rattle.std.specs.Fmt.{decimal, signed_decimal}
pub use Rattle.std.specs.Global.{Vec}
pub use Rattle.std.specs.Option.{SomeIff}
pub use Rattle.std.specs.Ordering.{nat_cmp, is_lt, int_eq}
pub use Rattle.std.specs.Prelude.{IsTrue, slice_range, Some, Option, None, if◌then◌else◌, unwrap_or, FitsSigned, Result, IfErr, ◌↔◌, IfSome, ◌==◌, ◌&&◌, ◌||◌, Ok, Err}
pub use Rattle.std.specs.Result.{IsErrAnd}
pub use Rattle.std.specs.Str.Parse.{AllDigits, digits_value, IsNumeral, without_leading_sign, signed_digits_value}
pub use Rattle.bt_bencode.specs.Error.{Fault, truncated, bad_byte, key_order, too_deep, int_range, AtFault, trailing, leading_zero}
pub use Rattle.bt_bencode.specs.Number.{NumeralStops, LeadsWithZero, sign_text, signed_number, at_zero}
pub use Rattle.bt_bencode.specs.Reader.{StringStops, Stops, EndsBefore, in_length, in_bytes, last_key_of, in_integer, out_of_range, in_string, at_max_nesting, in_item, in_key, at_key, in_value, IsFirstFault, in_the_value, behind_the_value, IsValueEnd}
pub use Rattle.bt_bencode.specs.ReaderSteps.{FaultFrom, Spans, ReadsValue, ReadsString, IsNumeralAt, ReadsInteger}
pub use Rattle.bt_bencode.specs.Spelling.{string_spelling, items_spelling, entries_spelling, spelling_of}
pub use Rattle.bt_bencode.specs.Value.{entries_of, Data, list, dictionary, data_of, items_of, integer, string, Items, no_items, item, Entries, no_entries, entry, data_step}
pub use Rattle.bt_bencode.specs.declared.error.BencodeError.{BencodeError}
pub use Rattle.bt_bencode.specs.declared.value.Value.{Value, Int, Bytes}
