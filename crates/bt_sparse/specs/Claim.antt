-- What a claim says of the nodes of a tree (BEP 52, the message "hashes"): a run of nodes of one layer that
-- lie below one node, the run's top, and uncles, the siblings on the path from that node up.
use Rattle.std.specs.Prelude.{◌≡◌, ℕ, zero, suc, ◌+◌, ◌-◌, ◌/◌, ◌%◌, ◌^◌, ◌<◌, ◌≤◌, ◌==◌, List, ◌++◌, length, slice_index_or, [], if◌then◌else◌}
use Rattle.bt_tree.specs.TreeShape.{height_of}
use Rattle.bt_tree.specs.Peaks.{row_node}
use Rattle.bt_sparse.specs.declared.claim.Claim.{Claim}

-- how many layers lie between the run and its top
abbrev pub run_height : Claim → ℕ
run_height c = height_of (length c.run)

-- the layer of the run's top, and its index there
abbrev pub run_top : Claim → ℕ
run_top c = c.base + run_height c

abbrev pub run_node : Claim → ℕ
run_node c = c.index / 2 ^ run_height c

-- the run's digest at an index of its layer
abbrev pub run_digest : Claim → ℕ → List ℕ
run_digest c i = slice_index_or c.run (i - c.index) []

-- the node of the path this many layers above the run's top
abbrev pub path_node : Claim → ℕ → ℕ
path_node c above = run_node c / 2 ^ above

abbrev pub sibling_of : ℕ → ℕ
sibling_of i = if i % 2 == 0 then i + 1 else i - 1

-- the digest of node i and its sibling, the left one first
abbrev pub parent_digest : (List ℕ → List ℕ) → ℕ → List ℕ → List ℕ → List ℕ
parent_digest dig i own sibling = if i % 2 == 0 then dig (own ++ sibling) else dig (sibling ++ own)

-- the digest of that node of the path, by the run and the uncles below it
unfoldable pub path_digest : (List ℕ → List ℕ) → Claim → ℕ → List ℕ
path_digest dig c zero = row_node dig (run_digest c) (run_height c) (run_node c)
path_digest dig c (suc above) =
    parent_digest dig (path_node c above) (path_digest dig c above) (slice_index_or c.uncles above [])

-- a node at or below the run's top: one of the run, or above it the digest of its two children
pub record IsInRun (dig : List ℕ → List ℕ) (c : Claim) (layer i : ℕ) (d : List ℕ) : Type 0 where
  pub above : ℕ
  pub here : layer ≡ c.base + above
  pub low : above ≤ run_height c
  pub under : i / 2 ^ (run_height c - above) ≡ run_node c
  pub digest : d ≡ row_node dig (run_digest c) above i

-- a node of the path
pub record IsOnPath (dig : List ℕ → List ℕ) (c : Claim) (layer i : ℕ) (d : List ℕ) : Type 0 where
  pub above : ℕ
  pub here : layer ≡ run_top c + above
  pub within : above ≤ length c.uncles
  pub node : i ≡ path_node c above
  pub digest : d ≡ path_digest dig c above

-- an uncle, which stands beside a node of the path
pub record IsUncle (c : Claim) (layer i : ℕ) (d : List ℕ) : Type 0 where
  pub above : ℕ
  pub here : layer ≡ run_top c + above
  pub within : above < length c.uncles
  pub node : i ≡ sibling_of (path_node c above)
  pub digest : d ≡ slice_index_or c.uncles above []

-- the claim says this digest of this node
pub data Claims (dig : List ℕ → List ℕ) (c : Claim) (layer i : ℕ) (d : List ℕ) : Type 0 where
  in_run : IsInRun dig c layer i d → Claims dig c layer i d
  on_path : IsOnPath dig c layer i d → Claims dig c layer i d
  uncle : IsUncle c layer i d → Claims dig c layer i d

-- the last node of the path, which the claim hangs from
abbrev pub top_layer : Claim → ℕ
top_layer c = run_top c + length c.uncles

abbrev pub top_node : Claim → ℕ
top_node c = path_node c (length c.uncles)

abbrev pub top_digest : (List ℕ → List ℕ) → Claim → List ℕ
top_digest dig c = path_digest dig c (length c.uncles)

-- Two nodes or more, a power of two of them that lie below one node, within a tree of height h; and the
-- uncles are within it too.
pub record HasShape (h : ℕ) (c : Claim) : Type 0 where
  pub some : 2 ≤ length c.run
  pub power : length c.run ≡ 2 ^ run_height c
  pub aligned : c.index % length c.run ≡ 0
  pub in_width : c.index + length c.run ≤ 2 ^ (h - c.base)
  pub in_height : top_layer c ≤ h
