use Rattle.std.proofs.Common.{ℕ, ◌==◌, List, length, sym, ap, ◌∙◌}
use Rattle.std.proofs.lemmas.Bool.{eqb-true, false≢true}
use Rattle.std.proofs.lemmas.List.{nil_from_length}
use Rattle.std.proofs.lemmas.Result.{IfOk-weaker}
use Rattle.bt_sparse.specs.Layer.{IsToldTree, of_layer, of_root}
use Rattle.bt_sparse.proofs.sparse_tree.SparseTree.from_torrent.Goals as goal

pub returns-then-is_empty : goal.returns-then-is_empty
returns-then-is_empty g c =
    let none = nil_from_length c.args.bytes.now (eqb-true _ 0 (sym c.is_empty.ensures ∙ c.if-is_empty.true)) in
    IfOk-weaker c.new.result _ (IsToldTree g.H.NodeHash.digest c.args.geometry c.args.root c.args.layer c.args.bytes.now) (λ tree is. of_root none is) c.new.ensures

pub from_layer-requires : goal.from_layer-requires
from_layer-requires g c = c.requires (λ none. false≢true (sym c.if-is_empty.false ∙ c.is_empty.ensures ∙ ap (λ (bytes : List ℕ). length bytes == 0) none))

pub returns : goal.returns
returns g c =
    IfOk-weaker c.from_layer.result _ (IsToldTree g.H.NodeHash.digest c.args.geometry c.args.root c.args.layer c.args.bytes.now)
    (λ tree holds. of_layer (λ none. false≢true (sym c.if-is_empty.false ∙ c.is_empty.ensures ∙ ap (λ (bytes : List ℕ). length bytes == 0) none)) holds) c.from_layer.ensures
