-- What is known of the hash tree of a file (BEP 52).
use Rattle.std.specs.Prelude.{◌≡◌, ℕ, ◌+◌, ◌-◌, ◌*◌, ◌/◌, ◌^◌, ◌<◌, List, ◌++◌, Option, Some, None, refl, nat_lt, nat_le, ◌&&◌, if◌then◌else◌}
use Rattle.std.specs.FinMap as finite
use Rattle.std.specs.Coded.{Coded, code_by, coded×, coded_ℕ, coded_list}
use Rattle.bt_tree.specs.Blocks.{IsFileLength, block_count}
use Rattle.bt_tree.specs.TreeShape.{height_of, real_width, CoversBlock}
use Rattle.bt_tree.specs.Tree.{padding_digest}
use Rattle.bt_sparse.specs.NodeMap.{Nodes, nodes_code, digest_at, HasDigests}

-- the file's length in bytes, the pieces root, and the nodes that are held: only such as cover a block
pub record Facts : Type 0 where
  pub file_length : ℕ
  pub root : List ℕ
  pub nodes : Nodes

abbrev pub facts_code : Coded Facts
facts_code = code_by (ℕ × (List ℕ × Nodes)) (coded× coded_ℕ (coded× (coded_list coded_ℕ) nodes_code))
    (λ k. (k.file_length, (k.root, k.nodes)))
    (λ p. record { file_length = p.0; root = p.1.0; nodes = p.1.1 }) (λ _. refl)

abbrev pub blocks_of : Facts → ℕ
blocks_of k = block_count k.file_length

abbrev pub height : Facts → ℕ
height k = height_of (blocks_of k)

-- the digest that is held at a node
abbrev pub held_at : Facts → ℕ → ℕ → Option (List ℕ)
held_at k layer i = digest_at k.nodes layer i

-- what is known of a node: the padding digest where it covers no block, else what is held; nothing outside
-- the tree
unfoldable pub value_at : (List ℕ → List ℕ) → Facts → ℕ → ℕ → Option (List ℕ)
value_at dig k layer i =
    if nat_le layer (height k) && nat_lt i (2 ^ (height k - layer))
    then (if nat_lt i (real_width (blocks_of k) layer)
    then held_at k layer i
    else Some (padding_digest dig layer))
    else None

-- the root alone is held
abbrev pub root_facts : ℕ → List ℕ → Facts
root_facts bytes root =
    record {
      file_length = bytes;
      root = root;
      nodes = finite.insert finite.empty (height_of (block_count bytes), 0) root;
    }

-- Both children of node i of the layer above have a value, and that node is held with their digest.
pub record HasParent (dig : List ℕ → List ℕ) (k : Facts) (layer i : ℕ) : Type 0 where
  pub left : List ℕ
  pub right : List ℕ
  pub left_value : value_at dig k layer (2 * i) ≡ Some left
  pub right_value : value_at dig k layer (2 * i + 1) ≡ Some right
  pub parent : held_at k (layer + 1) i ≡ Some (dig (left ++ right))

-- The root is held, and each other held node has a sibling with a value and a held parent with the digest of
-- the two.
pub record IsRooted (dig : List ℕ → List ℕ) (k : Facts) : Type 0 where
  pub top : held_at k (height k) 0 ≡ Some k.root
  pub covers : (layer i : ℕ) (d : List ℕ) → held_at k layer i ≡ Some d → CoversBlock (blocks_of k) layer i
  pub below : (layer i : ℕ) (d : List ℕ) → held_at k layer i ≡ Some d → layer < height k
      → HasParent dig k layer (i / 2)

-- The digest is known at the node, and the node is the root, or its sibling has a value and their parent is
-- checked with the digest of the two.
pub data IsChecked (dig : List ℕ → List ℕ) (k : Facts) : ℕ → ℕ → List ℕ → Type 0 where
  at_root : held_at k (height k) 0 ≡ Some k.root → IsChecked dig k (height k) 0 k.root
  on_path : (layer i : ℕ) (left right d : List ℕ) → value_at dig k layer i ≡ Some d
      → value_at dig k layer (2 * (i / 2)) ≡ Some left → value_at dig k layer (2 * (i / 2) + 1) ≡ Some right
      → IsChecked dig k (layer + 1) (i / 2) (dig (left ++ right)) → IsChecked dig k layer i d

-- what holds of every sparse tree
pub record IsSound (dig : List ℕ → List ℕ) (k : Facts) : Type 0 where
  pub lawful : IsFileLength k.file_length
  pub rooted : IsRooted dig k
  pub digests : HasDigests k.nodes
