use Rattle.bt_bencode.proofs.Base.{◌≡◌, ℕ, ◌+◌, ◌≤◌, List, [], ◌∷◌, length, drop, refl, arith, ap, Vec, Value, length-append, data_of, items_of, entries_of, string_spelling}
use Rattle.std.proofs.lemmas.List.{drop_all}
use Rattle.bt_bencode.specs.Spelling.{spelling_of, items_spelling, entries_spelling}
use Rattle.bt_bencode.specs.declared.value.Value.TheViews as views
use Rattle.bt_bencode.proofs.SpellingEnds.{item_next, entry_next}
use Rattle.bt_bencode.proofs.ValueData.{data_of-List, data_of-Dict}
use Rattle.bt_bencode.proofs.ends.+value_end.Goals as goal

list_length : (value : Value) (v : Vec Value) → value ≡ views.List v → length (spelling_of (data_of value)) ≡ length (items_spelling (items_of v.items)) + 2
unfolding spelling_of
list_length value v is = rw (is, data_of-List) (omega (arith, length-append (items_spelling (items_of v.items)) (101 ∷ [])))

dictionary_length : (value : Value) (v : Vec (Vec ℕ × Value)) → value ≡ views.Dict v
    → length (spelling_of (data_of value)) ≡ length (entries_spelling (entries_of v.items)) + 2
unfolding spelling_of
dictionary_length value v is = rw (is, data_of-Dict) (omega (arith, length-append (entries_spelling (entries_of v.items)) (101 ∷ [])))

no_items_left : (vs : List Value) (i : ℕ) → length vs ≤ i → length (items_spelling (items_of (drop i vs))) ≡ 0
unfolding items_spelling
no_items_left vs i past = rw drop_all refl

no_entries_left : (es : List (Vec ℕ × Value)) (i : ℕ) → length es ≤ i → length (entries_spelling (entries_of (drop i es))) ≡ 0
unfolding entries_spelling
no_entries_left es i past = rw drop_all refl

pub overflow_add-end : goal.overflow_add-end
overflow_add-end t c = omega (arith, list_length _ _ c.in-List.is, c.requires)

pub loop-item-init : goal.loop-item-init
loop-item-init t c = rw (c.deref-item-items.ensures.value) (omega (arith, list_length _ _ c.in-List.is))

pub loop-item-preserved : goal.loop-item-preserved
loop-item-preserved t c =
    omega (arith, c.loop-item.invariant, item_next _ _ _ c.loop-item-test.true c.item-item.is, c.value_end-end.ensures)

pub overflow_add-result-in-List : goal.overflow_add-result-in-List
overflow_add-result-in-List t c = omega (arith, c.loop-item.invariant, c.requires)

pub overflow_add-end-in-Dict : goal.overflow_add-end-in-Dict
overflow_add-end-in-Dict t c = omega (arith, dictionary_length _ _ c.in-Dict.is, c.requires)

pub loop-key-init : goal.loop-key-init
loop-key-init t c = rw (c.deref-key-items.ensures.value) (omega (arith, dictionary_length _ _ c.in-Dict.is))

pub loop-key-preserved : goal.loop-key-preserved
loop-key-preserved t c =
    omega (
      arith,
      c.loop-key.invariant,
      entry_next _ _ _ c.loop-key-test.true c.loop-key-item.is,
      ap (λ key. length (string_spelling key)) c.deref-in-loop-key.ensures.value,
      c.string_end-end.ensures,
      c.value_end-end-in-loop-key.ensures,
    )

pub overflow_add-result-in-Dict : goal.overflow_add-result-in-Dict
overflow_add-result-in-Dict t c = omega (arith, c.loop-key.invariant, c.requires)

pub returns-after-loop-item : goal.returns-after-loop-item
returns-after-loop-item t c = omega (arith, c.loop-item.invariant, no_items_left _ _ c.loop-item-test.false)

pub returns-after-loop-key : goal.returns-after-loop-key
returns-after-loop-key t c = omega (arith, c.loop-key.invariant, no_entries_left _ _ c.loop-key-test.false)

pub string_end-end-requires : goal.string_end-end-requires
string_end-end-requires t c =
    omega (
      arith,
      c.loop-key.invariant,
      entry_next _ _ _ c.loop-key-test.true c.loop-key-item.is,
      ap (λ key. length (string_spelling key)) c.deref-in-loop-key.ensures.value,
      c.requires,
    )
