-- What follows from the definitions of trees.
use Rattle.std.specs.Prelude.{◌≡◌, ℕ, ◌⊎◌, List, length}
use Rattle.bt_tree.specs.TreeShape.{height_of, IsHeight}
use Rattle.bt_tree.specs.Tree.{file_root}
use Rattle.bt_tree.specs.Clash.{IsClash}

-- a tree has the least height at which it has a leaf for each block
abbrev pub HeightsAreLeast : Type 0
HeightsAreLeast = (n : ℕ) → IsHeight n (height_of n)

-- Two files of one length and one root are one file, or at one node of their trees two different inputs have
-- one digest.
abbrev pub RootsTellFiles : (List ℕ → List ℕ) → Type 0
RootsTellFiles dig = (a b : List ℕ) → length a ≡ length b → file_root dig a ≡ file_root dig b
    → (a ≡ b) ⊎ ((layer : ℕ) × (index : ℕ) × IsClash dig a b layer index)
