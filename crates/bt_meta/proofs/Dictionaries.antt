-- What dictionaries have.
use Rattle.bt_meta.proofs.Base.{◌≡◌, inl, inr, ℕ, false, true, List, [], ◌∷◌, ◌++◌, length, Option, Some, refl, arith, unwrap_or, nat_eq, ◌==◌, option_and_then, pointwise, Vec, append-nil, and_parts, cases_Bool, nat_tests, Data, dictionary, Entries, no_entries, entry, data_of, entries_of, first_value_of, HasAscendingKeys, EntriesAscend, data_of-Dict, Value, as_dictionary, has_key, dictionary_at, no_dictionary, tree_entries_below, tree_entries_among, is_node, tree_entries_of}
use Rattle.bt_bencode.specs.Dictionary.{field_of}
use Rattle.bt_meta.specs.Fields.{entries_in, is_dictionary, is_single}
use Rattle.bt_bencode.specs.declared.value.Value.TheViews as views

-- ---- entries of a file tree

pub nothing_below : (path : List (List ℕ)) (d : Data) → is_dictionary d ≡ false → tree_entries_below path d ≡ []
unfolding tree_entries_below
nothing_below path (dictionary es) e = cc
nothing_below path _ e = refl

-- the tree entries below a value that is a dictionary of these entries
pub entries_below : (path : List (List ℕ)) (v : Value) (entries : Vec (Vec ℕ × Value)) (es : List (Vec ℕ × Value)) → v ≡ views.Dict entries → es ≡ entries.items
    → tree_entries_below path (data_of v) ≡ tree_entries_among path (entries_of es)
unfolding tree_entries_below
entries_below path v entries es is same = rw (is, data_of-Dict _, same) refl

pub single_entry : (es : List (Vec ℕ × Value)) → (length es == 1) ≡ is_single (dictionary (entries_of es))
single_entry (e ∷ f ∷ es) = let more : (length (e ∷ f ∷ es) == 1) ≡ false = grind (arith, nat_tests) in more
single_entry _ = refl

pub single_below : (path : List (List ℕ)) (d : Data) → is_single d ≡ true → has_key d [] ≡ true → tree_entries_below path d ≡ []
unfolding tree_entries_below tree_entries_among has_key
single_below path (dictionary (entry [] d no_entries)) s h = refl
single_below path (dictionary (entry (byte ∷ bytes) d no_entries)) s h = cc
single_below path _ s h = cc

-- nothing lies below a file
pub file_below : (d : Data) (path : List (List ℕ)) → is_node d ≡ true → has_key d [] ≡ true → tree_entries_below path d ≡ []
unfolding is_node
file_below d path node file = single_below _ d (and_parts _ _ (and_parts _ _ (rw file at node)).1).0 file

pub empty_key : (path : List (List ℕ)) (key : List ℕ) (d : Data) → true ≡ (length key == 0) → tree_entries_of path key d ≡ []
unfolding tree_entries_among
empty_key path [] d e = refl
empty_key path (byte ∷ bytes) d e = absurd (grind (arith, nat_tests))

pub key_entries : (path : List (List ℕ)) (key : List ℕ) (d : Data) → false ≡ (length key == 0)
    → tree_entries_of path key d ≡ (record { path = path ++ key ∷ []; value = d }) ∷ tree_entries_below (path ++ key ∷ []) d
unfolding tree_entries_among
key_entries path [] d e = cc
key_entries path (byte ∷ bytes) d e = rw (append-nil (tree_entries_below (path ++ (byte ∷ bytes) ∷ []) d)) refl

-- ---- what ascends where the whole does

value_ascends : (es : Entries) (key : List ℕ) (d : Data) → EntriesAscend es → first_value_of es key ≡ Some d → HasAscendingKeys d
unfolding EntriesAscend
value_ascends no_entries key d h e = cc
value_ascends (entry k v es) key d h e = elim (cases_Bool (pointwise nat_eq k key)) [
  | inl same ↦ let value : v ≡ d = cc (rw same at e) in rw value at h.1
  | inr other ↦ value_ascends es key d h.2 (rw other at e)
]

pub field_ascends : (d : Data) (key : List ℕ) (v : Data) → HasAscendingKeys d → field_of d key ≡ Some v → HasAscendingKeys v
unfolding HasAscendingKeys
field_ascends (dictionary es) key v h e = value_ascends _ _ v h e
field_ascends _ key v h e = cc

pub entries_ascend : (d : Data) → HasAscendingKeys d → EntriesAscend (entries_in d)
unfolding HasAscendingKeys EntriesAscend
entries_ascend (dictionary es) h = h
entries_ascend _ h = tt

pub at_key : (d : Data) (key : List ℕ) → HasAscendingKeys d → HasAscendingKeys (unwrap_or (dictionary_at d key) no_dictionary)
unfolding dictionary_at HasAscendingKeys EntriesAscend
at_key d key h = of_field _ (λ v e. field_ascends d _ v h e)
  where
    of_field : (o : Option Data) → ((v : Data) → o ≡ Some v → HasAscendingKeys v) → HasAscendingKeys (unwrap_or (option_and_then as_dictionary o) no_dictionary)
    of_field (Some (dictionary es)) h = h (dictionary es) refl
    of_field _ h = tt

pub nothing_ascends : EntriesAscend no_entries
unfolding EntriesAscend
nothing_ascends = tt
