use Rattle.bt_bencode.proofs.Base.{◌≡◌, ◌++◌, ◌∷◌, [], drop, data_of, entries_of, entries_spelling}
use Rattle.bt_bencode.specs.Dictionary.{field_of, first_value_of}
use Rattle.bt_bencode.proofs.dictionary.field_text.Given as goal

abbrev pub invariant-loop-name : goal.invariant-loop-name
invariant-loop-name l = record {
  left : drop l.at l.text ≡ entries_spelling (entries_of (drop l.name-index l.name-items)) ++ 101 ∷ [];
  found : field_of (data_of l.value) l.key ≡ first_value_of (entries_of (drop l.name-index l.name-items)) l.key;
}
