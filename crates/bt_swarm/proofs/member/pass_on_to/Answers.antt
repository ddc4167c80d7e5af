use Rattle.std.proofs.Common.{◌≡◌, true, Result, Ok, Err, refl, sym, ◌∙◌}
use Rattle.std.specs.Prelude.{OnErr, is_err}
use Rattle.bt_swarm.specs.Causes.{IsFaultOf}
use Rattle.bt_swarm.proofs.Moving.{moves_kept, moves_amiss}
use Rattle.bt_swarm.proofs.member.pass_on_to.Goals as goal

-- what holds where there is an error
of_error : {T E : Type 0} (r : Result T E) (P : Type 0) → is_err r ≡ true → OnErr r P → P
of_error (Ok x) P is h = absurd cc
of_error (Err e) P is h = h

pub returns-else-is_err : goal.returns-else-is_err
returns-else-is_err g c = moves_kept g.G.R.Read.remaining g.G.W.QueuedWriter.contents (IsFaultOf g.G.R.WatchedReader.has_failed g.G.W.QueuedWriter.has_failed g.G.Gate.is_troubled) c.args.member.now _ refl refl refl refl c.drain.ensures.kept

pub returns-then-is_err : goal.returns-then-is_err
returns-then-is_err g c =
    moves_amiss g.G.R.Read.remaining g.G.W.QueuedWriter.contents (IsFaultOf g.G.R.WatchedReader.has_failed g.G.W.QueuedWriter.has_failed g.G.Gate.is_troubled) _ _ c.args.member.now _ c.put_end.new.member
    (c.drain.new.self, of_error c.drain.result _ (sym c.is_err.ensures.value ∙ c.if-is_err.true) c.drain.ensures.failed)
    (moves_kept g.G.R.Read.remaining g.G.W.QueuedWriter.contents (IsFaultOf g.G.R.WatchedReader.has_failed g.G.W.QueuedWriter.has_failed g.G.Gate.is_troubled) c.args.member.now _ refl refl refl refl c.drain.ensures.kept) c.put_end.ensures.moves
