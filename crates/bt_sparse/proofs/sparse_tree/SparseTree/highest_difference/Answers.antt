use Rattle.std.proofs.Common.{get_or, subst}
use Rattle.std.proofs.lemmas.List.{take_all}
use Rattle.std.proofs.lemmas.List.Elements.{All-nil}
use Rattle.bt_sparse.specs.AcceptanceSteps.{IsHighestOf, HasNoDifference}
use Rattle.bt_sparse.proofs.Differences.{no_pair, highest_more, next_is}
use Rattle.bt_sparse.proofs.sparse_tree.SparseTree.highest_difference.Goals as goal

pub loop-pair-init : goal.loop-pair-init
loop-pair-init g c = All-nil (HasNoDifference g.H.NodeHash.digest c.args.self.now)

pub loop-pair-preserved : goal.loop-pair-preserved
loop-pair-preserved g c =
    rw c.higher-highest.ensures
    (highest_more g.H.NodeHash.digest c.args.self.now c.args.pairs.now c.loop-pair.pair-index no_pair c.loop-pair.highest c.difference.result c.loop-pair-test.true c.loop-pair.invariant
    (next_is g.H.NodeHash.digest c.args.self.now (get_or c.args.pairs.now c.loop-pair.pair-index no_pair) c.difference.result c.difference.ensures.pair c.difference.ensures.differs))

pub returns : goal.returns
returns g c =
    subst (λ ps. IsHighestOf g.H.NodeHash.digest c.args.self.now ps c.loop-pair.highest) (take_all c.loop-pair.pair-index c.args.pairs.now c.loop-pair-test.false)
    c.loop-pair.invariant
