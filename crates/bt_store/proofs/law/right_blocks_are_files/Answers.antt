use Rattle.std.proofs.Common.{◌≡◌, ◌≢◌, ℕ, ◌<◌, ◌⊎◌, inl, inr, List, length, Some, refl, sym, ◌∙◌, subst, arith}
use Rattle.std.specs.Prelude.{nat_eq}
use Rattle.std.proofs.lemmas.Grind.{div_ceil_times}
use Rattle.std.proofs.lemmas.Bool.{lt-ltb, cases_Bool}
use Rattle.std.specs.Cmp.Lexicographic.{pointwise, same_text, other_text}
use Rattle.bt_tree.specs.Blocks.{block_count, block_at}
use Rattle.bt_tree.specs.TreeShape.{CoversBlock}
use Rattle.bt_tree.specs.Tree.{node_digest}
use Rattle.bt_sparse.specs.SparseTree.{Facts, blocks_of, held_at, value_at}
use Rattle.bt_sparse.proofs.Values.{value_covers, value_inside}
use Rattle.bt_store.specs.Law.{same, at_leaf, above}
use Rattle.bt_store.proofs.law.right_blocks_are_files.Goals as goal

-- a leaf with a value is held
leaf_held : (dig : List ℕ → List ℕ) (k : Facts) (i : ℕ) (d : List ℕ) → i < blocks_of k → value_at dig k 0 i ≡ Some d → held_at k 0 i ≡ Some d
leaf_held dig k i d within value =
    let covers : CoversBlock (blocks_of k) 0 i = record {
      inside = value_inside dig k 0 i d value;
      real = omega (arith, (div_ceil_times (blocks_of k) 1 (omega arith)).0);
    } in
    sym (value_covers dig k 0 i covers) ∙ value

-- the digest at a leaf of a file
leaf_digest : (dig : List ℕ → List ℕ) (file : List ℕ) (i : ℕ) → i < block_count (length file) → node_digest dig file 0 i ≡ dig (block_at file i)
unfolding node_digest
leaf_digest dig file i within = rw (lt-ltb i (block_count (length file)) within) refl

-- two lists of numbers are equal or not
decided : (xs ys : List ℕ) → (xs ≡ ys) ⊎ (xs ≢ ys)
decided xs ys = elim (cases_Bool (pointwise nat_eq xs ys)) [ inl e ↦ inl (same_text xs ys (sym e)) | inr e ↦ inr (other_text xs ys (sym e)) ]

pub returns : goal.returns
returns g c = λ k file i bytes sound within size root right.
    let dig = g.H.NodeHash.digest in
    let held = leaf_held dig k i (dig bytes) within right.leaf in
    let inside : i < block_count (length file) = subst (λ n. i < block_count n) (sym size) within in
    elim (c.leaves_are_files.ensures k file i (dig bytes) sound.rooted sound.digests size root held) [
      | inl digest ↦ elim (decided bytes (block_at file i)) [
        | inl e ↦ same e
        | inr apart ↦ at_leaf apart (digest ∙ leaf_digest dig file i inside)
      ]
      | inr clash ↦ above clash
    ]
