use Rattle.std.proofs.Common.{◌≡◌, ◌/◌, ◌^◌, ◌<◌, ◌≤◌, None, [], refl, sym, ap, ◌∙◌, subst, arith}
use Rattle.std.proofs.lemmas.Result.{IfOk-weaker, IfErr-weaker}
use Rattle.std.specs.Prelude.{IsSome}
use Rattle.bt_tree.specs.Blocks.{block_count}
use Rattle.bt_disk.proofs.CallLists.{has_none}
use Rattle.bt_sparse.specs.SparseTree.{blocks_of, held_at, value_at}
use Rattle.bt_store.specs.Adoption.{none}
use Rattle.bt_sparse.proofs.Anchors.{known_above}
use Rattle.bt_store.proofs.Adoptions.{adopts_on}
use Rattle.bt_store.proofs.file_store.FileStore.adopt.Goals as goal

pub returns-then-from-blocks-clause-ok : goal.returns-then-from-blocks-clause-ok
returns-then-from-blocks-clause-ok g c =
    let d = g.D.Disk in
    let same : c.self.inside.geometry ≡ c.args.tree.now.file_length = ap (λ s. s.file_length) c.self.view_is ∙ sym c.requires.geometry in
    let past : c.args.from ≡ blocks_of c.args.tree.now = c.if-from-blocks.true ∙ c.blocks-2.ensures.value ∙ ap (λ n. block_count n) same in
    ([], record { calls = has_none d.conduct c.args.self.now.disk; adopts = none past; same_file = refl })

pub adopt_known-requires-clause-known : goal.adopt_known-requires-clause-known
adopt_known-requires-clause-known g c =
    let k = c.args.tree.now in
    let from = c.args.from in
    let dig = g.H.NodeHash.digest in
    let same : c.self.inside.geometry ≡ k.file_length = ap (λ s. s.file_length) c.self.view_is ∙ sym c.requires.geometry in
    let count : blocks_of k ≡ c.blocks-2.result = sym (c.blocks-2.ensures.value ∙ ap (λ n. block_count n) same) in
    let up_to : from ≤ blocks_of k = subst (λ n. from ≤ block_count n) (sym c.requires.geometry) c.requires.inside in
    let inside : from < blocks_of k = omega (arith, count, up_to, c.if-from-blocks.false) in
    let held : IsSome (held_at k 0 (from / 2 ^ 0)) = subst (λ a. IsSome (held_at k a (from / 2 ^ a))) c.if-anchor-eq0.true c.anchor-anchor.ensures.nearest.held in
    let value : IsSome (value_at dig k 0 (from / 2 ^ 0)) = subst (λ o. IsSome o) (sym (known_above dig k from 0 inside (omega arith))) held in
    let whole : from / 2 ^ 0 ≡ from = omega arith in
    subst (λ i. IsSome (value_at dig k 0 i)) whole value

pub returns-clause-unknown : goal.returns-clause-unknown
returns-clause-unknown g c =
    let k = c.args.tree.now in
    let from = c.args.from in
    let dig = g.H.NodeHash.digest in
    let same : c.self.inside.geometry ≡ k.file_length = ap (λ s. s.file_length) c.self.view_is ∙ sym c.requires.geometry in
    let count : blocks_of k ≡ c.blocks-2.result = sym (c.blocks-2.ensures.value ∙ ap (λ n. block_count n) same) in
    let up_to : from ≤ blocks_of k = subst (λ n. from ≤ block_count n) (sym c.requires.geometry) c.requires.inside in
    let inside : from < blocks_of k = omega (arith, count, up_to, c.if-from-blocks.false) in
    let unheld : held_at k 0 (from / 2 ^ 0) ≡ None = c.anchor-anchor.ensures.nearest.nearest 0 (omega (arith, c.if-anchor-eq0.false)) in
    let whole : from / 2 ^ 0 ≡ from = omega arith in
    let unknown : value_at dig k 0 from ≡ None = subst (λ i. value_at dig k 0 i ≡ None) whole (known_above dig k from 0 inside (omega arith) ∙ unheld) in
    IfErr-weaker c.adopt_unknown.result _ _ (λ _ _. unknown) c.adopt_unknown.ensures.tree

pub returns-clause-onward : goal.returns-clause-onward
returns-clause-onward g c = λ inside. IfOk-weaker c.adopt_unknown.result _ _ (λ adopted done.
    (adopts_on g.H.NodeHash.digest c.args.tree.now _ c.args.from _ _ done.0 adopted done.1.adopts).onward
    (subst (λ n. c.args.from < block_count n) (sym c.requires.geometry) inside)) c.adopt_unknown.ensures.ok

pub returns-clause-within : goal.returns-clause-within
returns-clause-within g c = IfOk-weaker c.adopt_unknown.result _ _ (λ adopted done.
    subst (λ n. adopted.next ≤ block_count n) c.requires.geometry
    (adopts_on g.H.NodeHash.digest c.args.tree.now _ c.args.from _ _ done.0 adopted done.1.adopts).within) c.adopt_unknown.ensures.ok
