-- What a check finds of a file.
use Rattle.std.proofs.Common.{◌≡◌, ℕ, ◌+◌, ◌<◌, ◌≤◌, ◌↔◌, ◌⊎◌, ◌||◌, ◌&&◌, not, Bool, true, false, true≢false, is_some, IsTrue, IsSomeAnd, Option, None, Some, [], ◌∷◌, List, map, take, ◌*◌, ◌^◌, inl, inr, arith, refl, sym, ap, subst}
use Rattle.std.proofs.lemmas.Bool.{cases_lt, false≢true}
use Rattle.bt_tree.specs.Blocks.{IsFileLength, block_count}
use Rattle.bt_tree.specs.Limits.{max_file_length}
use Rattle.bt_disk.specs.Conduct.{Conduct}
use Rattle.bt_disk.specs.Calls.{HasCalls}
use Rattle.bt_disk.proofs.CallLists.{has_then}
use Rattle.bt_store.specs.BlockReads.{BlockRead, call_of, fault_count}
use Rattle.bt_sparse.specs.SparseTree.{Facts}
use Rattle.bt_check.specs.CheckSteps.{HoldsLeaves, IsBlockCheck, ChecksTree, IsKnownTree, leaves_after}
use Rattle.bt_check.specs.declared.entry_check.EntryCheck.{EntryCheck}
use Rattle.bt_check.specs.EntryCheck.{Answers, len_call_of, IsEntryCheck, is_node_read}
use Rattle.bt_check.specs.Finding.{KnownLayer, IsFindingOf, is_right_block, by_leaf, piece_of, digest_of}
use Rattle.bt_check.specs.declared.entry_check.BlockCheck.{BlockCheck}
use Rattle.std.specs.Prelude.{nat_eq}
use Rattle.std.specs.Cmp.Lexicographic.{pointwise}
use Rattle.std.specs.List.{count_by, range_with_len}
use Rattle.std.proofs.lemmas.Nat.{pow_pos}
use Rattle.std.proofs.lemmas.Bool.Decides.{leb_tells}
use Rattle.sha2.specs.Sha256.{sha256}
use Rattle.bt_tree.specs.Tree.{node_digest}
use Rattle.bt_sparse.proofs.Values.{none_some}
use Rattle.bt_check.specs.Pieces.{piece_start, piece_size, has_piece}
use Rattle.bt_check.proofs.AdoptedGroups.{piece_begins}
use Rattle.bt_check.proofs.RightBlocks.{count_const}

-- a file that has no tree, and is not too long, is empty
pub unshaped : (n : ℕ) → n ≤ max_file_length → (IsFileLength n → false ≡ true) → n ≡ 0
unshaped n short none = elim (cases_lt 0 n) [ inl some ↦ absurd (false≢true (none (record { some = some; limit = short }))) | inr empty ↦ omega (arith, empty) ]

either : (a b : Bool) (P Q : Type 0) → (IsTrue a ↔ P) → (IsTrue b ↔ Q) → IsTrue (a || b) ↔ (P ⊎ Q)
either true b P Q p q = (λ _. inl (p.0 refl), λ _. refl)
either false b P Q p q = (λ t. inr (q.0 t), λ h. elim h [ inl x ↦ absurd (true≢false (sym (p.1 x))) | inr y ↦ q.1 y ])

-- the length is not known
is_unknown : (len : Option ℕ) (b : Bool) → is_some len ≡ not b → IsTrue b ↔ (len ≡ None)
is_unknown None true e = (λ _. refl, λ _. refl)
is_unknown None false e = absurd (true≢false (sym e))
is_unknown (Some l) true e = absurd (true≢false e)
is_unknown (Some l) false e = (λ t. absurd (true≢false (sym t)), λ none. absurd (none_some l (sym none)))

module _ {D : Type 0} (conduct : Conduct D) (n : ℕ) (known : KnownLayer) (leaves : ℕ → Option (List ℕ)) (old mid : D)
    (len : Option ℕ) (longer unknown : Bool) (asked : HasCalls conduct old (len_call_of len ∷ []) mid)
    (is_longer : IsTrue longer ↔ IsSomeAnd len (λ l. n < l)) (unknown_is : is_some len ≡ not unknown) where
  pub blocks_found : (blocks : ℕ) (reads : List BlockRead) (check : BlockCheck D) → IsBlockCheck conduct n known leaves mid reads check
      → blocks ≡ block_count n → IsEntryCheck conduct n known leaves old (record { len = len; reads = reads }) check.disk
      (record { blocks = blocks; marked = check.marked; longer = longer; faulty = unknown || check.faulty })
  blocks_found blocks reads check is blocks_are = record {
    calls = has_then conduct old mid check.disk (len_call_of len ∷ []) (map (call_of n) reads) asked is.calls;
    found = record {
      each = is.each;
      marks = record { blocks = blocks_are; marked = is.marked };
      longer = is_longer;
      faulty = either unknown check.faulty (len ≡ None) (0 < fault_count reads) (is_unknown len unknown unknown_is) is.faulty;
    };
  }

  pub nothing_found : n ≡ 0 → IsEntryCheck conduct n known leaves old (record { len = len; reads = [] }) mid
      (record { blocks = 0; marked = 0; longer = longer; faulty = unknown })
  nothing_found empty =
      let none : block_count n ≡ 0 = omega (arith, empty) in
      let is = is_unknown len unknown unknown_is in
      record {
        calls = asked;
        found = record {
          each = ap (range_with_len 0) (sym none);
          marks = record { blocks = sym none; marked = sym (ap (λ m. count_by (is_right_block (is_node_read [] n) known leaves) (range_with_len 0 m)) none) };
          longer = is_longer;
          faulty = (λ t. inl (is.0 t), λ h. elim h [ inl e ↦ is.1 e | inr lt ↦ absurd (omega (arith, lt)) ]);
        };
      }

-- what holds of the tree of a file, whose length is told by the tree
pub is_known : {n : ℕ} {known : KnownLayer} {leaves : ℕ → Option (List ℕ)} {k : Facts} → HoldsLeaves n known leaves k → IsKnownTree k
is_known {known = known} {leaves} {k} holds = (known, leaves, subst (λ m. HoldsLeaves m known leaves k) (sym holds.length_is) holds)

pub checked_at : {D : Type 0} {conduct : Conduct D} {n : ℕ} {known : KnownLayer} {leaves : ℕ → Option (List ℕ)}
    {k grown : Facts} {old : D} {check : EntryCheck D} → ChecksTree conduct k old check grown → HoldsLeaves n known leaves k
    → (answers : Answers) × IsEntryCheck conduct n known leaves old answers check.disk check.finding
    × HoldsLeaves n known (leaves_after leaves answers.reads n known) grown
checked_at {D} {conduct} {n} {known} {leaves} {k} {grown} {old} {check} checks holds =
    subst (λ m. HoldsLeaves m known leaves k → (answers : Answers) × IsEntryCheck conduct m known leaves old answers check.disk check.finding
    × HoldsLeaves m known (leaves_after leaves answers.reads m known) grown) holds.length_is (checks known leaves) holds

-- there is no data file
pub absent_found : (n : ℕ) (known : KnownLayer) (leaves : ℕ → Option (List ℕ)) (blocks : ℕ) → blocks ≡ block_count n
    → IsFindingOf [] n known leaves (record { blocks = blocks; marked = 0; longer = false; faulty = false })
absent_found n known leaves blocks blocks_are = record {
  marks = record {
    blocks = blocks_are;
    marked = sym (count_const (is_right_block (has_piece [] n) known leaves) false 0 (block_count n) (λ i low high. wrong i (omega (arith, high))));
  };
  longer = (λ t. absurd (true≢false (sym t)), λ lt. absurd (omega (arith, lt)));
}
  where
    no_piece : (layer index : ℕ) (digest : List ℕ) → index * 2 ^ layer < block_count n → has_piece [] n layer index digest ≡ false
    no_piece layer index digest real =
        let some = pow_pos layer in
        elim (leb_tells (piece_start layer index + piece_size n layer index) 0) [
          | inl is ↦ absurd (omega (arith, is.1, real, some))
          | inr is ↦ ap (λ b. b && pointwise nat_eq digest (node_digest sha256 (take n []) layer index)) is.0
        ]

    by_either : (leaf : Option (List ℕ)) (f : List ℕ → Bool) {b : Bool} → ((d : List ℕ) → f d ≡ false) → b ≡ false → by_leaf leaf f b ≡ false
    by_either None f none e = e
    by_either (Some d) f none e = none d

    wrong : (i : ℕ) → i < block_count n → is_right_block (has_piece [] n) known leaves i ≡ false
    wrong i lt =
        let begins = piece_begins known i (piece_of known i) refl in
        by_either (leaves i) (has_piece [] n 0 i) (λ d. no_piece 0 i d (omega (arith, lt)))
        (no_piece known.layer (piece_of known i) (digest_of known (piece_of known i)) (omega (arith, begins, lt)))
