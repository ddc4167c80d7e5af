-- A bencoded value as plain data (BEP 3, "bencoding"), and the data that a `Value` holds.
use Rattle.std.specs.Prelude.{ℕ, ℤ, List, [], ◌∷◌, map}
use Rattle.std.specs.Global.{Vec}
use Rattle.bt_bencode.specs.declared.value.Value.{Value}
use Rattle.bt_bencode.specs.declared.value.Value.TheOpen.{Value-F}
use Rattle.bt_bencode.specs.declared.value.Value.TheFolds.{fold-Value}

mutual
  pub data Data : Type 0 where
    integer : ℤ → Data
    string : List ℕ → Data
    list : Items → Data
    dictionary : Entries → Data

  pub data Items : Type 0 where
    no_items : Items
    item : Data → Items → Items

  -- keys and their values, in the order in which they stand
  pub data Entries : Type 0 where
    no_entries : Entries
    entry : List ℕ → Data → Entries → Entries

abbrev pub items_from : List Data → Items
items_from [] = no_items
items_from (d ∷ ds) = item d (items_from ds)

abbrev pub entries_from : List (Vec ℕ × Data) → Entries
entries_from [] = no_entries
entries_from (e ∷ es) = entry e.0.items e.1 (entries_from es)

-- one level, with the values inside it already seen as data
abbrev pub data_step : Value-F Data → Data
data_step (Value-F.Int z) = integer z
data_step (Value-F.Bytes v) = string v.items
data_step (Value-F.List v) = list (items_from v.items)
data_step (Value-F.Dict v) = dictionary (entries_from v.items)

abbrev pub data_of : Value → Data
data_of = fold-Value Data data_step

abbrev pub items_of : List Value → Items
items_of vs = items_from (map data_of vs)

abbrev pub entry_data : Vec ℕ × Value → Vec ℕ × Data
entry_data e = (e.0, data_of e.1)

abbrev pub entries_of : List (Vec ℕ × Value) → Entries
entries_of es = entries_from (map entry_data es)
