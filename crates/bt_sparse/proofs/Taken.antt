-- What one tree answers, another one takes.
use Rattle.std.proofs.Common.{◌≡◌, ℕ, ◌-◌, ◌^◌, inl, inr, List, Option, Some, None, refl, sym, ap, ◌∙◌, subst, arith}
use Rattle.std.specs.FinMap as finite
use Rattle.std.specs.Option.{IsSome}
use Rattle.std.proofs.lemmas.Bool.{false≢true}
use Rattle.bt_tree.specs.Blocks.{block_count}
use Rattle.bt_tree.specs.TreeShape.{height_of, IsPadding}
use Rattle.bt_sparse.specs.declared.claim.Claim.{Claim}
use Rattle.bt_sparse.specs.SparseTree.{Facts, blocks_of, height, held_at, value_at, root_facts, IsRooted}
use Rattle.bt_sparse.specs.Claim.{Claims, HasShape, top_layer, top_node, top_digest}
use Rattle.bt_sparse.specs.Acceptance.{Agrees, IsAcceptable}
use Rattle.bt_sparse.specs.Answer.{IsRequest, IsAnswer, IsMadeOf, claim_of}
use Rattle.bt_sparse.proofs.NodeMaps.{digest_at_new, digest_at_cases, digest_at_empty}
use Rattle.bt_sparse.proofs.Values.{same_value, none_some, value_padding}
use Rattle.bt_sparse.proofs.Claims.{claim_inside, top_claim}
use Rattle.bt_sparse.proofs.Differences.{left_value}
use Rattle.bt_sparse.proofs.Requests.{request_shape, made_of}
use Rattle.bt_sparse.proofs.Answers.{answers_agree}

module _ (dig : List ℕ → List ℕ) (k : Facts) (c : Claim) (rooted : IsRooted dig k) (shape : HasShape (height k) c) (made : IsMadeOf dig k c) where
  taken : (other : Facts) → other.file_length ≡ k.file_length → IsSome (held_at other (top_layer c) (top_node c))
      → Agrees dig other c → IsAcceptable dig other c
  taken other same some agrees = record {
    shape = subst (λ h. HasShape h c) (ap (λ n. height_of (block_count n)) (sym same)) shape;
    padding = λ layer i d claim past.
        let here : IsPadding (blocks_of k) layer i = subst (λ n. IsPadding (block_count n) layer i) same past in
        same_value _ _ _ (answers_agree dig k c rooted shape made layer i d claim) (value_padding dig k layer i here);
    top = go (held_at other (top_layer c) (top_node c)) refl some;
    agrees = agrees;
  }
    where
      go : (o : Option (List ℕ)) → held_at other (top_layer c) (top_node c) ≡ o → IsSome o → held_at other (top_layer c) (top_node c) ≡ Some (top_digest dig c)
      go None e s = absurd (false≢true s)
      go (Some d) e s = e ∙ ap (λ x. Some x) (agrees _ _ _ d (top_claim dig c) e)

  reaches_root : top_layer c ≡ height k → IsAcceptable dig (root_facts k.file_length k.root) c
  reaches_root reaches = taken (root_facts k.file_length k.root) refl there agrees
    where
      first : top_node c ≡ 0
      first =
          let none : height k - top_layer c ≡ 0 = omega (arith, reaches) in
          omega (arith, (claim_inside shape (top_claim dig c)).in_width, ap (λ n. 2 ^ n) none)

      there : IsSome (held_at (root_facts k.file_length k.root) (top_layer c) (top_node c))
      there = rw (reaches, first, digest_at_new finite.empty (height k) 0 k.root) refl

      agrees : Agrees dig (root_facts k.file_length k.root) c
      agrees layer i d e claim held = elim (digest_at_cases finite.empty (height k) 0 layer i k.root e held) [
        | inl is ↦
            let value = answers_agree dig k c rooted shape made layer i d claim in
            let root = left_value _ _ _ _ _ rooted rooted.top in
            cc
        | inr was ↦ absurd (none_some e (sym (digest_at_empty layer i) ∙ was))
      ]

-- the claim's digest of each node is the answering tree's
pub agree : (dig : List ℕ → List ℕ) (k : Facts) (base index count layers : ℕ) (ds : List (List ℕ)) → IsRooted dig k
    → IsRequest (height k) base index count layers → IsAnswer dig k base index count layers ds
    → (layer i : ℕ) (d : List ℕ) → Claims dig (claim_of base index count ds) layer i d → value_at dig k layer i ≡ Some d
agree dig k base index count layers ds rooted request answer = answers_agree dig k _ rooted (request_shape request ds answer.size) (made_of answer)

pub answers_are_taken : (dig : List ℕ → List ℕ) (k other : Facts) (base index count layers : ℕ) (ds : List (List ℕ)) → IsRooted dig k
    → IsRequest (height k) base index count layers → IsAnswer dig k base index count layers ds → other.file_length ≡ k.file_length
    → IsSome (held_at other (top_layer (claim_of base index count ds)) (top_node (claim_of base index count ds)))
    → Agrees dig other (claim_of base index count ds) → IsAcceptable dig other (claim_of base index count ds)
answers_are_taken dig k other base index count layers ds rooted request answer =
    taken dig k _ rooted (request_shape request ds answer.size) (made_of answer) other

pub answers_reach_roots : (dig : List ℕ → List ℕ) (k : Facts) (base index count layers : ℕ) (ds : List (List ℕ)) → IsRooted dig k
    → IsRequest (height k) base index count layers → IsAnswer dig k base index count layers ds → top_layer (claim_of base index count ds) ≡ height k
    → IsAcceptable dig (root_facts k.file_length k.root) (claim_of base index count ds)
answers_reach_roots dig k base index count layers ds rooted request answer = reaches_root dig k _ rooted (request_shape request ds answer.size) (made_of answer)
