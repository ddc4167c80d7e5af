use Rattle.std.proofs.Common.{◌≡◌, ◌/◌, ◌≤◌, inl, inr, [], get_or, sym, ap, ◌∙◌, arith}
use Rattle.std.proofs.lemmas.Bool.{cases_lt}
use Rattle.bt_tree.specs.Blocks.{block_count}
use Rattle.bt_tree.specs.TreeShape.{real_width}
use Rattle.bt_tree.specs.Tree.{padding_digest}
use Rattle.bt_sparse.specs.Claim.{sibling_of}
use Rattle.bt_sparse.proofs.Expansions.{path_up}
use Rattle.bt_sparse.proofs.Acceptances.{equal_bytes}
use Rattle.bt_sparse.proofs.padding.are_uncles_padded.Goals as goal
use Rattle.bt_sparse.proofs.padding.are_uncles_padded.Goals.{else-sibling-real-via-then-sibling-real+else-ne, else-sibling-real-via-else-sibling-real}

pub loop-uncle-preserved : goal.loop-uncle-preserved
loop-uncle-preserved g c =
    let w = c.loop-uncle.invariant in
    record {
      node = ap (λ n. n / 2) w.node ∙ path_up c.args.claim.now c.loop-uncle.uncle-index;
      layer = omega (arith, w.layer);
      low = elim c.else-sibling-real.branch [
        | else-sibling-real-via-then-sibling-real+else-ne v ↦ omega (arith, v.padding-is, v.rise.ensures.layer)
        | else-sibling-real-via-else-sibling-real v ↦ omega (arith, v.padding-is, w.low)
      ];
      padded = λ t lt past. elim (cases_lt t c.loop-uncle.uncle-index) [
        | inl below ↦ w.padded t below past
        | inr le ↦
            let last : t ≡ c.loop-uncle.uncle-index = omega arith in
            elim c.else-sibling-real.branch [
              | else-sibling-real-via-then-sibling-real+else-ne v ↦
                  rw last (ap (λ us. get_or us c.loop-uncle.uncle-index []) (sym c.as_slice-uncle-items.ensures) ∙ equal_bytes _ _ _ v.ne.ensures v.if-ne.false
                  ∙ v.rise.ensures.digest ∙ ap (padding_digest g.H.NodeHash.digest) w.layer)
              | else-sibling-real-via-else-sibling-real v ↦
                  let here : real_width (block_count c.args.geometry) c.loop-uncle.layer ≤ sibling_of c.loop-uncle.node = rw (w.layer, w.node, sym last) past in
                  absurd (omega (arith, c.sibling.ensures, c.real.ensures.value, v.if-sibling-real.false, here))
            ]
      ];
    }
