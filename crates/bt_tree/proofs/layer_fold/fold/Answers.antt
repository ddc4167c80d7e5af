use Rattle.std.proofs.Common.{rules, ◌≡◌, ℕ, List, [], ◌+◌, ◌-◌, ◌*◌, ◌^◌, ◌≤◌, ◌++◌, length, get_or, replicate, refl, arith, sym, ap, ◌∙◌}
use Rattle.std.proofs.lemmas.Nat.{pow-add}
use Rattle.std.proofs.lemmas.List.{get_or_append_left, get_or-append_right, get_or-replicate}
use Rattle.bt_tree.specs.Tree.{padding_digest}
use Rattle.bt_tree.specs.Peaks.{row_node}
use Rattle.bt_tree.proofs.LayerNodes.{top_fold}
use Rattle.bt_tree.proofs.layer_fold.fold.Goals as goal

-- the nodes of a layer in sixteens
sixteens : (layers : ℕ) → 4 ≤ layers → 2 ^ layers ≡ 16 * 2 ^ (layers - 4)
sixteens layers high =
    let split : layers ≡ (layers - 4) + 4 = omega arith in
    ap (λ k. 2 ^ k) split ∙ pow-add 2 (layers - 4) 4 ∙ omega arith

pub eight_nodes-eight-requires-clause-within : goal.eight_nodes-eight-requires-clause-within
eight_nodes-eight-requires-clause-within g c =
    omega (arith, c.requires.within, sixteens (c.args.height - c.args.layer) c.if-layers-lt4.false)

pub returns : goal.returns
returns g c =
    let dig = g.H.NodeHash.digest in
    let digests = c.args.digests.now in
    let layers : ℕ = c.args.height - c.args.layer in
    let padding : List ℕ = padding_digest dig c.args.layer in
    let n : ℕ = 2 ^ layers - length digests in
    let whole : List (List ℕ) = digests ++ replicate n padding in
    let row : ℕ → List ℕ = λ i. get_or whole i [] in
    let wide : 2 ^ layers ≡ 16 * 2 ^ (layers - 4) = sixteens layers c.if-layers-lt4.false in
    let eight : length c.eight_nodes-eight.result ≡ 8 = search rules in
    let level : layers - 4 + 1 ≡ layers - 3 = omega arith in
    c.fold_pairs-2.ensures
    ∙ top_fold dig whole c.eight_nodes-eight.result _ layers _ eight (omega arith)
    (λ j lt. c.eight_nodes-eight.ensures row
    (λ i low. sym (get_or_append_left digests (replicate n padding) [] i low))
    (λ i low high. get_or-append_right digests (replicate n padding) (length digests) i [] refl low
    ∙ get_or-replicate n (i - length digests) padding [] (omega arith))
    j lt ∙ ap (λ k. row_node dig row k j) level)
