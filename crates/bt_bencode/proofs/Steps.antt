-- The lemmas that close the steps of each function.
use Rattle.bt_bencode.proofs.Base.{length-append, inl, inr, drop-length, drop_more, behind_the_value}
use Rattle.std.proofs.lemmas.Fmt.{IsAscii-from_digits}
use Rattle.std.proofs.lemmas.Str.{IsUtf8-from_ascii}
use Rattle.bt_bencode.proofs.SpellingEnds.{one_digit, digit_more, few_digits, item_next, entry_next, entry_at, entry_fits}
use Rattle.bt_bencode.proofs.ReadParts.{last_decides, too_deep_at}
use Rattle.bt_bencode.proofs.ReadingLaws.{none_spells}
use Rattle.bt_bencode.proofs.ReadRanges.{digits_one_more}
use Rattle.bt_bencode.proofs.ValueData.{data_of-Int, data_of-Bytes, data_of-Dict}

pub ruleset text_steps = (IsAscii-from_digits, IsUtf8-from_ascii)

pub ruleset digits_end_steps = (digits_one_more)

pub ruleset may_follow_steps = (last_decides)

pub ruleset field_steps = (data_of-Dict, drop_more, drop-length)

pub ruleset field_text_steps = (data_of-Dict, drop-length, entry_at, entry_fits)

pub ruleset end_steps = (one_digit, digit_more, few_digits, length-append)

pub ruleset value_end_steps = (data_of-Int, data_of-Bytes, length-append, item_next, entry_next)

pub ruleset put_value_steps = (data_of-Int, data_of-Bytes)

pub ruleset list_at_steps = (inl, too_deep_at)

pub ruleset dictionary_at_steps = (inr, too_deep_at)

pub ruleset parse_steps = (behind_the_value, none_spells)
