-- Digests at nodes of a tree. A node is named by its layer and its index there.
use Rattle.std.specs.Prelude.{◌≡◌, ℕ, zero, suc, ◌/◌, ◌%◌, ◌<◌, ◌≤◌, List, [], length, slice_index_or, Option, Some, None}
use Rattle.std.specs.FinMap as finite
use Rattle.std.specs.Ordering.{nat_cmp, ordering_then}
use Rattle.std.specs.declared.cmp.Ordering.{Ordering}
use Rattle.std.specs.Coded.{Coded, coded×, coded_ℕ, coded_list}
use Rattle.bt_sparse.specs.Page.{page_length}
use Rattle.bt_sparse.specs.LayerPages.{Tables, table_length, entry_at}

-- a node's layer and index
abbrev pub NodeIndex : Type 0
NodeIndex = ℕ × ℕ

-- by layer, and in one layer by index
abbrev pub node_cmp : NodeIndex → NodeIndex → Ordering
node_cmp p q = ordering_then (nat_cmp p.0 q.0) (nat_cmp p.1 q.1)

abbrev pub Nodes : Type 0
Nodes = finite.FinMap node_cmp (List ℕ)

abbrev pub nodes_code : Coded Nodes
nodes_code = finite.code (coded× coded_ℕ coded_ℕ) (coded_list coded_ℕ)

-- the digest at a node
abbrev pub digest_at : Nodes → ℕ → ℕ → Option (List ℕ)
digest_at nodes layer i = finite.get nodes (layer, i)

-- each digest has 32 bytes
abbrev pub HasDigests : Nodes → Type 0
HasDigests nodes = (layer i : ℕ) (d : List ℕ) → digest_at nodes layer i ≡ Some d → length d ≡ 32

-- the layers, and what they have at a node
abbrev pub Layers : Type 0
Layers = List Tables

abbrev pub slot_of : Layers → ℕ → ℕ → Option (List ℕ)
slot_of layers layer i = entry_at (slice_index_or layers layer []) i

-- the page of the node is made
abbrev pub HasPlace : Layers → ℕ → ℕ → Type 0
HasPlace layers layer i = i % table_length % page_length
    < length (slice_index_or (slice_index_or (slice_index_or layers layer []) (i / table_length) [])
    (i % table_length / page_length) [])

-- each page is as long as it was, or longer
abbrev pub KeepsPlaces : Layers → Layers → Type 0
KeepsPlaces old new = (layer t p : ℕ)
    → length (slice_index_or (slice_index_or (slice_index_or old layer []) t []) p [])
    ≤ length (slice_index_or (slice_index_or (slice_index_or new layer []) t []) p [])

-- to a map, what there is at the first `width` indices of a layer
abbrev pub with_some : Option (List ℕ) → ℕ → ℕ → Nodes → Nodes
with_some None layer i nodes = nodes
with_some (Some d) layer i nodes = finite.insert nodes (layer, i) d

unfoldable pub with_row : (ℕ → Option (List ℕ)) → ℕ → ℕ → Nodes → Nodes
with_row f layer zero nodes = nodes
with_row f layer (suc width) nodes = with_some (f width) layer width (with_row f layer width nodes)

-- the map of what there is at the first indices of the first layers
unfoldable pub map_of : (ℕ → ℕ → Option (List ℕ)) → ℕ → ℕ → Nodes
map_of f zero width = finite.empty
map_of f (suc layer) width = with_row (f layer) layer width (map_of f layer width)

-- layers and indices are numbers of four bytes
abbrev pub number_limit : ℕ
number_limit = 4294967296

-- the map of what the pages have
abbrev pub nodes_in : Layers → Nodes
nodes_in layers = map_of (slot_of layers) number_limit number_limit
