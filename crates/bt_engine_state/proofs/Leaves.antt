-- Leaves that are known stay so where trees grow, and files keep their trees.
use Rattle.bt_machine.proofs.Base.{◌≡◌, ℕ, inl, inr, true, Bool, List, map, Option, Some, None, is_some, refl, sym, ap, ◌∙◌, subst, IsSome, slice_get, slice_set, option_and_then, length-set, Facts, held_at, BlockId, Metainfo, total_pieces}
use Rattle.bt_meta.specs.PieceBlocks.{HasBlock}
use Rattle.bt_sparse.specs.Acceptance.{IsJoined}
use Rattle.bt_sparse.specs.declared.claim.Claim.{Claim}
use Rattle.bt_machine.proofs.Lists.{and_then_some, set_cases}
use Rattle.bt_machine.specs.State.{EngineState, FileState}
use Rattle.bt_machine.specs.Blocks.{tree_of, piece_of, with_file}
use Rattle.bt_machine.proofs.Shape.{map_set as set_map}
use Rattle.bt_engine_state.specs.Ties.{KnowsLeaves, StillKnows, LeavesStay, root_and_length}

pub still : (k : Facts) → StillKnows k k
still k = record { root = refl; long = refl; leaves = λ i there. there }

pub still_then : {k l m : Facts} → StillKnows k l → StillKnows l m → StillKnows k m
still_then a b = record { root = b.root ∙ a.root; long = b.long ∙ a.long; leaves = λ i there. b.leaves i (a.leaves i there) }

-- ---- from engine to engine

pub leaves_then : (s t u : EngineState) → LeavesStay s t → LeavesStay t u → LeavesStay s u
leaves_then s t u first second file j at =
    let b = second file j at in
    let a = first file b.0 b.1 in
    (a.0, a.1, still_then a.2 b.2)

pub leaves_same : (s t : EngineState) → ((file : ℕ) → tree_of t file ≡ tree_of s file) → LeavesStay s t
leaves_same s t same file j at = (j, sym (same file) ∙ at, still j)

pub leaves_alike : (s t : EngineState) → t.trees ≡ s.trees → t.files ≡ s.files → LeavesStay s t
leaves_alike s t trees files = leaves_same s t (λ file.
    ap (λ (ks : List Facts). option_and_then (λ (f : FileState). slice_get ks f.tree) (slice_get t.files file)) trees
    ∙ ap (λ (fs : List FileState). option_and_then (λ (f : FileState). slice_get s.trees f.tree) (slice_get fs file)) files)

-- one file is another of the same tree
module _ (s : EngineState) (file : ℕ) (f g : FileState) (here : slice_get s.files file ≡ Some f) (same : g.tree ≡ f.tree) where
  tree_with : (other : ℕ) (j : Facts) → tree_of (with_file s file g) other ≡ Some j → tree_of s other ≡ Some j
  tree_with other j at =
      let x = and_then_some (λ (h : FileState). slice_get s.trees h.tree) (slice_get (slice_set s.files file g) other) at in
      elim (set_cases s.files file other x.1) [
        | inl own ↦
            ap (λ n. tree_of s n) own.0 ∙ ap (option_and_then (λ (h : FileState). slice_get s.trees h.tree)) here
            ∙ ap (slice_get s.trees) (sym same ∙ ap (λ (h : FileState). h.tree) (sym own.1)) ∙ x.2
        | inr there ↦ ap (option_and_then (λ (h : FileState). slice_get s.trees h.tree)) there ∙ x.2
      ]

  pub leaves_with_file : LeavesStay s (with_file s file g)
  leaves_with_file other j at = (j, tree_with other j at, still j)

-- the files have the trees that they had, and each tree still knows what it knew
pub leaves_by : (s t : EngineState)
    → ((file : ℕ) (g : FileState) → slice_get t.files file ≡ Some g → (f : FileState) × (slice_get s.files file ≡ Some f) × (g.tree ≡ f.tree))
    → ((tree : ℕ) (j : Facts) → slice_get t.trees tree ≡ Some j → (k : Facts) × (slice_get s.trees tree ≡ Some k) × StillKnows k j)
    → LeavesStay s t
leaves_by s t files trees file j at =
    let g = and_then_some (λ (h : FileState). slice_get t.trees h.tree) (slice_get t.files file) at in
    let f = files file g.0 g.1 in
    let k = trees g.0.tree j g.2 in (
      k.0,
      ap (option_and_then (λ (h : FileState). slice_get s.trees h.tree)) f.1 ∙ ap (slice_get s.trees) (sym f.2) ∙ k.1,
      k.2,
    )

-- one tree has grown
pub one_grown : (ks : List Facts) (tree : ℕ) {k grown : Facts} → slice_get ks tree ≡ Some k → StillKnows k grown
    → (t : ℕ) (j : Facts) → slice_get (slice_set ks tree grown) t ≡ Some j → (m : Facts) × (slice_get ks t ≡ Some m) × StillKnows m j
one_grown ks tree {k} {grown} here more t j at = elim (set_cases ks tree t at) [
  | inl own ↦ (k, ap (slice_get ks) own.0 ∙ here, subst (λ (m : Facts). StillKnows k m) (sym own.1) more)
  | inr there ↦ (j, there, still j)
]

-- and has the root and the length that it had
pub same_names : (ks : List Facts) (tree : ℕ) {k : Facts} (grown : Facts) → slice_get ks tree ≡ Some k → StillKnows k grown
    → map root_and_length (slice_set ks tree grown) ≡ map root_and_length ks
same_names ks tree {k} grown here more = set_map root_and_length ks tree grown here
    (ap (λ root. (root, grown.file_length)) more.root ∙ ap (λ n. (k.root, n)) more.long)

-- by a claim that was accepted
pub still_joined : {dig : List ℕ → List ℕ} {k j : Facts} {c : Claim} → IsJoined dig k c j → StillKnows k j
still_joined {k = k} {j = j} joins = record { root = joins.root; long = joins.file_length; leaves = λ i there. by i (held_at k 0 i) refl there }
  where
    by : (i : ℕ) (o : Option (List ℕ)) → held_at k 0 i ≡ o → IsSome o → IsSome (held_at j 0 i)
    by i None at there = absurd cc
    by i (Some d) at there = ap (λ x. is_some x) (joins.kept 0 i d at)

-- ---- what is known

pub knows_still : {s t : EngineState} {pieces : List Bool} → t.torrent ≡ s.torrent → LeavesStay s t → KnowsLeaves s pieces → KnowsLeaves t pieces
knows_still {s} {t} {pieces} torrent stay knows = record {
  size = knows.size ∙ ap (λ (m : Metainfo). total_pieces m) (sym torrent);
  each = λ b j has among at. (
      let k = stay b.file j at in
      k.2.leaves b.block (knows.each b k.0 (subst (λ (m : Metainfo). HasBlock m b.file b.block) torrent has)
      (ap (λ (m : Metainfo). option_and_then (λ piece. slice_get pieces piece) (piece_of m b)) (sym torrent) ∙ among) k.1)
      );
}

-- one more piece
module _ (s : EngineState) (pieces : List Bool) (piece : ℕ) (knows : KnowsLeaves s pieces)
    (all : (b : BlockId) (k : Facts) → HasBlock s.torrent b.file b.block → piece_of s.torrent b ≡ Some piece → tree_of s b.file ≡ Some k → IsSome (held_at k 0 b.block)) where
  pub knows_more : KnowsLeaves s (slice_set pieces piece true)
  knows_more = record {
    size = length-set pieces piece true ∙ knows.size;
    each = λ b k has among at. (
        let q = and_then_some (λ n. slice_get (slice_set pieces piece true) n) (piece_of s.torrent b) among in
        elim (set_cases pieces piece q.0 q.2) [
          | inl own ↦ all b k has (q.1 ∙ ap (λ n. Some n) own.0) at
          | inr there ↦ knows.each b k has (ap (option_and_then (λ n. slice_get pieces n)) q.1 ∙ there) at
        ]
        );
  }
