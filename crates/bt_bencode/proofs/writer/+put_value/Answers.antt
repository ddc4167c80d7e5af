use Rattle.bt_bencode.proofs.Base.{◌≡◌, ℕ, ◌+◌, ◌<◌, ◌≤◌, List, ◌++◌, [], ◌∷◌, refl, sym, append-nil, take, get_or, length, ◌∙◌, append_assoc, ap, Vec, take_more, take_all, data_of, items_of, entries_of, string_spelling, Value}
use Rattle.bt_bencode.specs.Spelling.{spelling_of, items_spelling, entries_spelling}
use Rattle.bt_bencode.proofs.ValueData.{data_of-List, data_of-Dict, items_spelling-push, entries_spelling-push}
use Rattle.bt_bencode.specs.declared.value.Value.TheViews as views
use Rattle.bt_bencode.proofs.writer.+put_value.Goals as goal

no_items_spelled : (vs : List Value) → items_spelling (items_of (take 0 vs)) ≡ []
unfolding items_spelling
no_items_spelled [] = refl
no_items_spelled (v ∷ vs) = refl

no_entries_spelled : (es : List (Vec ℕ × Value)) → entries_spelling (entries_of (take 0 es)) ≡ []
unfolding entries_spelling
no_entries_spelled [] = refl
no_entries_spelled (e ∷ es) = refl

item_written : (a b c : List ℕ) (vs : List Value) (i : ℕ) (v : Value) → i < length vs → v ≡ get_or vs i v
    → b ≡ a ++ items_spelling (items_of (take i vs)) → c ≡ b ++ spelling_of (data_of v) → c ≡ a ++ items_spelling (items_of (take (i + 1) vs))
item_written a b c vs i v lt is before after =
    rw (after, before, take_more _ i v lt, ← is, items_spelling-push _ v) (append_assoc a _ _)

entry_written : (a b m c : List ℕ) (es : List (Vec ℕ × Value)) (i : ℕ) (e : Vec ℕ × Value) → i < length es → e ≡ get_or es i e
    → b ≡ a ++ entries_spelling (entries_of (take i es)) → m ≡ b ++ string_spelling e.0.items → c ≡ m ++ spelling_of (data_of e.1)
    → c ≡ a ++ entries_spelling (entries_of (take (i + 1) es))
entry_written a b m c es i e lt is before key value =
    rw (value, key, before, take_more es i e lt, ← is, entries_spelling-push _ e) (append_assoc (a ++ _) _ _ ∙ append_assoc a _ _)

list_written : (a b c : List ℕ) (value : Value) (v : Vec Value) (vs : List Value) (i : ℕ) → value ≡ views.List v → vs ≡ v.items → length vs ≤ i
    → b ≡ (a ++ 108 ∷ []) ++ items_spelling (items_of (take i vs)) → c ≡ b ++ 101 ∷ [] → c ≡ a ++ spelling_of (data_of value)
unfolding spelling_of
list_written a b c value v vs i is same past items end =
    rw (end, items, take_all i vs past, same, is, data_of-List) (append_assoc (a ++ 108 ∷ []) _ _ ∙ append_assoc a _ _)

dictionary_written : (a b c : List ℕ) (value : Value) (v : Vec (Vec ℕ × Value)) (es : List (Vec ℕ × Value)) (i : ℕ) → value ≡ views.Dict v → es ≡ v.items
    → length es ≤ i → b ≡ (a ++ 100 ∷ []) ++ entries_spelling (entries_of (take i es)) → c ≡ b ++ 101 ∷ [] → c ≡ a ++ spelling_of (data_of value)
unfolding spelling_of
dictionary_written a b c value v es i is same past entries end =
    rw (end, entries, take_all i es past, same, is, data_of-Dict) (append_assoc (a ++ 100 ∷ []) _ _ ∙ append_assoc a _ _)

pub loop-item-init : goal.loop-item-init
loop-item-init t c = rw (no_items_spelled) (c.in_ok-push-in-List.ensures.items ∙ sym (append-nil _))

pub loop-key-init : goal.loop-key-init
loop-key-init t c = rw (no_entries_spelled) (c.in_ok-push-in-Dict.ensures.items ∙ sym (append-nil _))

pub loop-item-preserved : goal.loop-item-preserved
loop-item-preserved t c =
    item_written _ _ _ _ _ _ c.loop-item-test.true c.item-item.is c.loop-item.invariant c.in_ok-put_value-in-List.ensures

pub loop-key-preserved : goal.loop-key-preserved
loop-key-preserved t c =
    entry_written _ _ _ _ _ _ _ c.loop-key-test.true c.loop-key-item.is c.loop-key.invariant
    (c.in_ok-put_string-in-Dict.ensures ∙ ap (λ xs. c.loop-key.out.items ++ string_spelling xs) c.deref-in-loop-key.ensures.value)
    c.in_ok-put_value-in-Dict.ensures

pub returns-in_ok-push-in-List-2 : goal.returns-in_ok-push-in-List-2
returns-in_ok-push-in-List-2 t c =
    list_written _ _ _ _ _ _ _ c.in-List.is c.deref-item-items.ensures.value c.loop-item-test.false c.loop-item.invariant
    c.in_ok-push-in-List-2.ensures.items

pub returns-in_ok-push-in-Dict-2 : goal.returns-in_ok-push-in-Dict-2
returns-in_ok-push-in-Dict-2 t c =
    dictionary_written _ _ _ _ _ _ _ c.in-Dict.is c.deref-key-items.ensures.value c.loop-key-test.false c.loop-key.invariant
    c.in_ok-push-in-Dict-2.ensures.items
