-- The pieces so far came, and their digests are kept.
use Rattle.bt_check.proofs.DigestLayer.{IsLayering}
use Rattle.bt_check.proofs.digests.read_layer.Given as goal

abbrev pub invariant-loop-rest : goal.invariant-loop-rest
invariant-loop-rest g l =
    IsLayering (g.R.Read.remaining l.initial.reader) (g.R.Read.remaining l.reader) l.fn.geometry l.fn.size.layer l.index l.rest l.layer.items

abbrev pub decreases-loop-rest : goal.decreases-loop-rest
decreases-loop-rest g l = l.rest
