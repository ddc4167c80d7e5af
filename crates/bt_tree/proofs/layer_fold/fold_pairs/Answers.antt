use Rattle.std.proofs.Common.{ℕ, ◌-◌, ◌^◌, ◌++◌, [], length, get_or, replicate, arith, ap, refl, sym, ◌∙◌}
use Rattle.std.proofs.lemmas.List.{get_or_append_left, get_or-append_right, get_or-replicate}
use Rattle.bt_tree.specs.Peaks.{peaks_of, row_node}
use Rattle.bt_tree.proofs.TreeShape.{pow_le}
use Rattle.bt_tree.proofs.TreeNodes.{fold_is}
use Rattle.bt_tree.proofs.PeaksList.{peaks_none, peak_count_none}
use Rattle.bt_tree.proofs.layer_fold.fold_pairs.Goals as goal

pub add_all-requires-clause-room : goal.add_all-requires-clause-room
add_all-requires-clause-room g c = omega (arith, c.requires.within, pow_le c.args.layers 26 c.requires.high)

pub add_all-requires-clause-size : goal.add_all-requires-clause-size
add_all-requires-clause-size g c = ap length c.new-peaks.ensures ∙ sym (peak_count_none 26)

pub returns : goal.returns
returns g c =
    let digests = c.args.digests.now in
    let rest : ℕ = 2 ^ c.args.layers - length digests in
    let whole = digests ++ replicate rest c.args.padding in
    c.close.ensures (λ i. get_or whole i [])
    (c.as_slice.ensures.value ∙ c.add_all.ensures.peaks (λ i. get_or whole i [])
    (c.new-peaks.ensures ∙ sym (peaks_none (row_node g.H.NodeHash.digest (λ i. get_or whole i [])) 0 26))
    (λ i low. sym (get_or_append_left digests (replicate rest c.args.padding) [] i low) ∙ ap (λ j. get_or whole j []) (omega arith))
    ∙ ap (λ n. peaks_of g.H.NodeHash.digest (λ i. get_or whole i []) n) (omega arith))
    (λ i low high. get_or-append_right digests (replicate rest c.args.padding) (length digests) i [] refl (omega arith)
    ∙ get_or-replicate rest (i - length digests) c.args.padding [] (omega arith))
    ∙ sym (fold_is g.H.NodeHash.digest c.args.layers whole)
