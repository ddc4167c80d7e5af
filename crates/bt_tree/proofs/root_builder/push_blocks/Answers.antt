use Rattle.std.proofs.Common.{rules, ◌≡◌, ℕ, ◌+◌, length, arith, ap, sym, ◌∙◌}
use Rattle.bt_tree.specs.Blocks.{block_at}
use Rattle.bt_tree.specs.Tree.{node_digest}
use Rattle.bt_tree.specs.RootBuilder.{file_peaks}
use Rattle.bt_tree.proofs.TreeNodes.{leaf_is}
use Rattle.bt_tree.proofs.BuilderRuns.{eight_of_run}
use Rattle.bt_tree.proofs.root_builder.push_blocks.Goals as goal

pub eights-preserved : goal.eights-preserved
eights-preserved g c =
    let dig = g.H.NodeHash.digest in
    let rest = c.eights.rest.now in
    let eight : length c.blocks8.result ≡ 8 = search rules in
    record {
      count = omega (arith, c.eights.invariant.count);
      size = rw eight at c.add_all.ensures.size;
      peaks = λ file first held has.
          let before = c.eights.invariant.peaks file first held has in
          let block : ℕ = first + c.eights.count in
          let begins = eight_of_run file rest block (omega arith) before.0 in
          let next_is : block + 8 ≡ first + (c.eights.count + 8) = omega arith in (
            rw (c.split_at.ensures.back, ← next_is) begins.rest,
            rw eight at (c.add_all.ensures.peaks (λ i. node_digest dig file 0 (first + i)) before.1 (λ j low.
                let here : block + j ≡ first + (c.eights.count + j) = omega arith in
                c.blocks8.ensures j (omega arith) ∙ ap (λ run. dig (block_at run j)) c.split_at.ensures.front
                ∙ ap dig (begins.same j (omega arith)) ∙ sym (leaf_is dig file (block + j) (begins.real j (omega arith)))
                ∙ ap (λ i. node_digest dig file 0 i) here)),
          );
    }

pub returns-clause-peaks : goal.returns-clause-peaks
returns-clause-peaks g c = λ file first held has.
    let after = c.eights.invariant.peaks file first held has in
    c.push_each.ensures.peaks file first after.1 after.0
    ∙ ap (file_peaks g.H.NodeHash.digest file first) c.eights.invariant.count
