-- The data of a value of each kind, and the spelling of one part more.
use Rattle.bt_bencode.proofs.Base.{◌≡◌, ℕ, ℤ, List, [], ◌∷◌, ◌++◌, sym, append_assoc, Vec, append-nil, integer, string, list, dictionary, Data, data_of, data_step, items_of, entries_of, string_spelling, spelling_of, Value, Int, Bytes}
use Rattle.bt_bencode.specs.Spelling.{items_spelling, entries_spelling}
use Rattle.bt_bencode.specs.declared.value.Value.TheOpen.{Value-F}
use Rattle.bt_bencode.specs.declared.value.Value.TheFolds.{fold-roll-Value}
use Rattle.bt_bencode.specs.declared.value.Value.TheViews as views

pub data_of-Int : (z : ℤ) → data_of (Int z) ≡ integer z
unfolding views.roll-Value denote.Hole.Carrier.roll
data_of-Int z = fold-roll-Value Data data_step (Value-F.Int z)

pub data_of-Bytes : (v : Vec ℕ) → data_of (Bytes v) ≡ string v.items
unfolding views.roll-Value denote.Hole.Carrier.roll
data_of-Bytes v = fold-roll-Value Data data_step (Value-F.Bytes v)

pub data_of-List : (v : Vec Value) → data_of (views.List v) ≡ list (items_of v.items)
unfolding views.roll-Value denote.Hole.Carrier.roll
data_of-List v = fold-roll-Value Data data_step (Value-F.List v)

pub data_of-Dict : (v : Vec (Vec ℕ × Value)) → data_of (views.Dict v) ≡ dictionary (entries_of v.items)
unfolding views.roll-Value denote.Hole.Carrier.roll
data_of-Dict v = fold-roll-Value Data data_step (Value-F.Dict v)

pub items_spelling-push : (vs : List Value) (v : Value) → items_spelling (items_of (vs ++ v ∷ [])) ≡ items_spelling (items_of vs) ++ spelling_of (data_of v)
unfolding items_spelling
items_spelling-push [] v = append-nil (spelling_of (data_of v))
items_spelling-push (w ∷ vs) v =
    rw (items_spelling-push vs v) (sym (append_assoc (spelling_of (data_of w)) (items_spelling (items_of vs)) (spelling_of (data_of v))))

pub entries_spelling-push : (es : List (Vec ℕ × Value)) (e : Vec ℕ × Value)
    → entries_spelling (entries_of (es ++ e ∷ [])) ≡ entries_spelling (entries_of es) ++ (string_spelling e.0.items ++ spelling_of (data_of e.1))
unfolding entries_spelling
entries_spelling-push [] e = append-nil (string_spelling e.0.items ++ spelling_of (data_of e.1))
entries_spelling-push (f ∷ es) e =
    rw (entries_spelling-push es e) (sym (append_assoc (string_spelling f.0.items ++ spelling_of (data_of f.1)) _ _))
