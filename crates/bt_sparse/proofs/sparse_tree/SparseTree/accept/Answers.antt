use Rattle.std.proofs.Common.{sym, ap, subst}
use Rattle.bt_sparse.specs.NodeMap.{nodes_in}
use Rattle.bt_sparse.specs.SparseTree.{Facts, blocks_of, IsSound}
use Rattle.bt_sparse.specs.Acceptance.{Accepts}
use Rattle.bt_sparse.proofs.Acceptances.{grown_all, grown_accepts, grown_sound, refused_memory}
use Rattle.bt_sparse.proofs.sparse_tree.SparseTree.accept.Goals as goal

pub returns-in_err-make_pages-clause-refused : goal.returns-in_err-make_pages-clause-refused
returns-in_err-make_pages-clause-refused g c =
    refused_memory g.H.NodeHash.digest c.args.self.now c.args.claim.now _ c.from_residual-in_err-make_pages.ensures.1 c.in_ok-expansion.ensures.ok.conditions.shape

pub invariant_of-self-2 : goal.invariant_of-self-2
invariant_of-self-2 g c =
    let grown = grown_all g.H.NodeHash.digest c.args.self.now c.args.claim.now c.in_ok-expansion.expansion _ _ _ (nodes_in c.put_pairs.new.nodes) c.put_pairs.result c.as_slice-pairs.result.now
    c.in_ok-expansion.ensures.ok (ap blocks_of c.self.view_is) c.make_pages.ensures.nodes (ap (λ (k : Facts). k.nodes) c.self.view_is) c.as_slice-pairs.ensures.value (c.put_pairs.ensures g.H.NodeHash.digest) in
    subst (λ (k : Facts). IsSound g.H.NodeHash.digest record { file_length = k.file_length; root = k.root; nodes = nodes_in c.put_pairs.new.nodes }) (sym c.self.view_is)
    (grown_sound g.H.NodeHash.digest c.args.self.now c.args.claim.now (nodes_in c.put_pairs.new.nodes) c.put_pairs.result
    (subst (IsSound g.H.NodeHash.digest) c.self.view_is c.self.invariant) c.in_ok-expansion.ensures.ok.conditions grown)

pub returns-clause-ok : goal.returns-clause-ok
returns-clause-ok g c =
    let grown = grown_all g.H.NodeHash.digest c.args.self.now c.args.claim.now c.in_ok-expansion.expansion _ _ _ (nodes_in c.put_pairs.new.nodes) c.put_pairs.result c.as_slice-pairs.result.now
    c.in_ok-expansion.ensures.ok (ap blocks_of c.self.view_is) c.make_pages.ensures.nodes (ap (λ (k : Facts). k.nodes) c.self.view_is) c.as_slice-pairs.ensures.value (c.put_pairs.ensures g.H.NodeHash.digest) in
    subst (λ (k : Facts). Accepts g.H.NodeHash.digest c.args.self.now c.args.claim.now record { file_length = k.file_length; root = k.root; nodes = nodes_in c.put_pairs.new.nodes })
    (sym c.self.view_is)
    (grown_accepts g.H.NodeHash.digest c.args.self.now c.args.claim.now (nodes_in c.put_pairs.new.nodes) c.put_pairs.result c.in_ok-expansion.ensures.ok.conditions grown)

pub returns-clause-count : goal.returns-clause-count
returns-clause-count g c =
    (grown_all g.H.NodeHash.digest c.args.self.now c.args.claim.now c.in_ok-expansion.expansion _ _ _ (nodes_in c.put_pairs.new.nodes) c.put_pairs.result c.as_slice-pairs.result.now
    c.in_ok-expansion.ensures.ok (ap blocks_of c.self.view_is) c.make_pages.ensures.nodes (ap (λ (k : Facts). k.nodes) c.self.view_is) c.as_slice-pairs.ensures.value (c.put_pairs.ensures g.H.NodeHash.digest)).grown.size_is
