use Rattle.bt_bencode.proofs.Base.{◌≡◌, drop, data_of, entries_of}
use Rattle.bt_bencode.specs.Dictionary.{field_of, first_value_of}
use Rattle.bt_bencode.proofs.dictionary.field.Given as goal

abbrev pub invariant-loop-name : goal.invariant-loop-name
invariant-loop-name l = field_of (data_of l.value) l.key ≡ first_value_of (entries_of (drop l.name-index l.name-items)) l.key
