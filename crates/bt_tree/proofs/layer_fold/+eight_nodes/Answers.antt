use Rattle.std.proofs.Common.{rules, ◌≡◌, ◌≢◌, ℕ, List, [], suc, ◌+◌, ◌-◌, ◌*◌, ◌^◌, ◌≤◌, length, get_or, inl, inr, arith, sym, ap, ◌∙◌}
use Rattle.std.proofs.Math.Nat.{pow-suc}
use Rattle.std.proofs.lemmas.Nat.{pow-add}
use Rattle.std.proofs.lemmas.Bool.{cases_lt}
use Rattle.std.proofs.lemmas.List.{get_or-take, get_or-drop, get_or-replicate}
use Rattle.std.proofs.lemmas.Grind.{common_steps}
use Rattle.bt_tree.specs.Peaks.{row_node}
use Rattle.bt_tree.specs.Tree.{padding_digest}
use Rattle.bt_tree.proofs.TreeShape.{pow_le}
use Rattle.bt_tree.proofs.LayerNodes.{row_zero, padding_node, nodes_up, nodes_beside}
use Rattle.bt_tree.proofs.layer_fold.+eight_nodes.Goals as goal

-- a node's width, by its children's
twice : (below : ℕ) → below ≢ 0 → 2 ^ below ≡ 2 ^ (below - 1) * 2
twice below some =
    let up : below ≡ suc (below - 1) = omega arith in
    ap (λ k. 2 ^ k) up ∙ pow-suc 2 (below - 1)

pub eight_nodes-left-requires : goal.eight_nodes-left-requires
eight_nodes-left-requires g t c = λ κs lives.
    let small : 2 ^ c.args.below ≤ 2 ^ 26 = pow_le c.args.below 26 (omega (arith, c.requires.high)) in
    let wide : 2 ^ c.args.below ≡ 2 ^ (c.args.below - 1) * 2 = twice c.args.below c.if-below-eq0.false in
    (omega arith, (lives, (omega arith, (omega (arith, c.split_at.ensures.front_len), λ k low. c.requires.pads k (omega arith)))))

pub eight_nodes-right-requires : goal.eight_nodes-right-requires
eight_nodes-right-requires g t c = λ κs lives.
    let small : 2 ^ c.args.below ≤ 2 ^ 26 = pow_le c.args.below 26 (omega (arith, c.requires.high)) in
    let wide : 2 ^ c.args.below ≡ 2 ^ (c.args.below - 1) * 2 = twice c.args.below c.if-below-eq0.false in
    (omega arith, (lives, (omega arith, (omega (arith, c.split_at.ensures.back_len), λ k low. c.requires.pads k (omega arith)))))

pub returns-then-is_empty : goal.returns-then-is_empty
returns-then-is_empty g t c = λ row same past j lt.
    let dig = g.H.NodeHash.digest in
    let layer : ℕ = c.args.layer in
    let below : ℕ = c.args.below in
    let none : length c.args.digests.now ≡ 0 = search (rules, common_steps) in
    let up : layer + below + 1 ≡ layer + (below + 1) = omega arith in
    get_or-replicate 8 j (get_or c.args.pads.now (layer + below + 1) []) [] lt
    ∙ c.requires.pads (layer + below + 1) (omega arith) ∙ ap (padding_digest dig) up
    ∙ sym (padding_node dig row layer (below + 1) j lt (λ i low. past i (omega arith) (omega (arith, pow-add 2 below 1))))

pub returns-then-below-eq0 : goal.returns-then-below-eq0
returns-then-below-eq0 g t c = λ row same past j lt.
    let dig = g.H.NodeHash.digest in
    let none : c.args.below ≡ 0 = c.if-below-eq0.true in
    let one : 2 ^ c.args.below ≡ 1 = ap (λ k. 2 ^ k) none in
    nodes_up dig row c.args.below j c.sixteen.result _ lt
    (λ i low. elim (cases_lt i (length c.args.digests.now)) [
      | inl given ↦ c.sixteen.ensures.given i given ∙ same i given ∙ sym (row_zero dig row i) ∙ ap (λ k. row_node dig row k i) (sym none)
      | inr padding ↦
          c.sixteen.ensures.padding i padding low ∙ c.requires.pads c.args.layer (omega arith) ∙ sym (past i padding (omega arith))
          ∙ sym (row_zero dig row i) ∙ ap (λ k. row_node dig row k i) (sym none)
    ])
    (c.eight_parents.ensures j lt)

pub returns : goal.returns
returns g t c = λ row same past j lt.
    let dig = g.H.NodeHash.digest in
    let below : ℕ = c.args.below in
    let digests = c.args.digests.now in
    let small : 2 ^ below ≤ 2 ^ 26 = pow_le below 26 (omega (arith, c.requires.high)) in
    let wide : 2 ^ below ≡ 2 ^ (below - 1) * 2 = twice below c.if-below-eq0.false in
    let level : below - 1 + 1 ≡ below = omega arith in
    let half : ℕ = 8 * 2 ^ below in
    let m : ℕ = c.min.result in
    let front : length c.split_at.result.0.now ≡ m = c.split_at.ensures.front_len in
    let back : length c.split_at.result.1.now + m ≡ length digests = c.split_at.ensures.back_len in
    let lows = c.eight_nodes-left.ensures row
    (λ i low. ap (λ (xs : List (List ℕ)). get_or xs i []) c.split_at.ensures.front ∙ get_or-take m digests i [] (omega arith) ∙ same i (omega arith))
    (λ i low high. past i (omega arith) (omega arith)) in
    let highs = c.eight_nodes-right.ensures (λ q. row (half + q))
    (λ i low.
    let at : m + i ≡ half + i = omega arith in
    ap (λ (xs : List (List ℕ)). get_or xs i []) c.split_at.ensures.back ∙ get_or-drop m digests i [] ∙ same (m + i) (omega arith) ∙ ap row at)
    (λ i low high. past (half + i) (omega arith) (omega arith)) in
    nodes_up dig row below j c.side_by_side.result _ lt
    (nodes_beside dig row below half c.side_by_side.result c.eight_nodes-left.result c.eight_nodes-right.result (omega arith) c.side_by_side.ensures.left c.side_by_side.ensures.right
    (λ i low. lows i low ∙ ap (λ k. row_node dig row k i) level) (λ i low. highs i low ∙ ap (λ k. row_node dig (λ q. row (half + q)) k i) level))
    (c.eight_parents-2.ensures j lt)
