use Rattle.std.proofs.Common.{List, subst, sym, ◌∙◌}
use Rattle.std.proofs.lemmas.List.{with_items_is}
use Rattle.bt_session.specs.Failures.{OneFailed}
use Rattle.bt_swarm.specs.Causes.{ReadFailed}
use Rattle.bt_swarm.specs.declared.member.Member.{Member}
use Rattle.bt_swarm.specs.Moves.{GoesOn}
use Rattle.bt_swarm.specs.Swarm.{SwarmsOn}
use Rattle.bt_swarm.proofs.Moving.{goes_flushed}
use Rattle.bt_swarm.proofs.Keys.{keyed_goes}
use Rattle.bt_swarm.proofs.Ending.{if_map, refused_after, refused_on}
use Rattle.bt_swarm.proofs.Going.{on_goes, on_nowhere, on_trans}
use Rattle.bt_swarm.proofs.run.round.Goals as goal

pub let_go-pace-requires : goal.let_go-pace-requires
let_go-pace-requires g c = record {
  keyed = rw (with_items_is c.admit.new.members c.give_turns-turns.new.members (c.give_turns-turns.ensures.goes.moves.same_length ∙ c.as_mut_slice.ensures.len))
      (keyed_goes g.G.R.Read.remaining g.G.W.QueuedWriter.contents g.D.Disk.conduct g.H.NodeHash.digest (ReadFailed g.G.R.WatchedReader.has_failed g.G.Gate.is_troubled) (OneFailed g.G.W.QueuedWriter.has_failed) c.give_turns-turns.new.engine c.flush_if_due-flushed.new.engine c.give_turns-turns.new.members c.give_turns-turns.new.members
      (goes_flushed g.G.R.Read.remaining g.G.W.QueuedWriter.contents g.D.Disk.conduct g.H.NodeHash.digest (ReadFailed g.G.R.WatchedReader.has_failed g.G.Gate.is_troubled) (OneFailed g.G.W.QueuedWriter.has_failed) c.give_turns-turns.new.engine c.flush_if_due-flushed.new.engine c.give_turns-turns.new.members c.flush_if_due-flushed.ensures.step)
      (keyed_goes g.G.R.Read.remaining g.G.W.QueuedWriter.contents g.D.Disk.conduct g.H.NodeHash.digest (ReadFailed g.G.R.WatchedReader.has_failed g.G.Gate.is_troubled) (OneFailed g.G.W.QueuedWriter.has_failed) c.admit.new.engine c.give_turns-turns.new.engine c.admit.new.members.items c.give_turns-turns.new.members
      (subst (λ (l : List (Member g.row.G-R.Denot g.row.G-W.Denot)). GoesOn g.D.Disk.conduct g.H.NodeHash.digest (ReadFailed g.G.R.WatchedReader.has_failed g.G.Gate.is_troubled) (OneFailed g.G.W.QueuedWriter.has_failed) g.G.R.Read.remaining g.G.W.QueuedWriter.contents c.admit.new.engine l c.give_turns-turns.new.engine c.give_turns-turns.new.members) c.as_mut_slice.ensures.value c.give_turns-turns.ensures.goes) c.admit.ensures.keyed));
}

pub returns : goal.returns
returns g c =
    let served =
    subst (λ (l : List (Member g.row.G-R.Denot g.row.G-W.Denot)). SwarmsOn g.D.Disk.conduct g.H.NodeHash.digest (ReadFailed g.G.R.WatchedReader.has_failed g.G.Gate.is_troubled) (OneFailed g.G.W.QueuedWriter.has_failed) g.G.Gate.gives g.G.R.Read.remaining g.G.W.QueuedWriter.contents g.G.Gate.leads c.admit.new.engine c.admit.new.members.items c.admit.new.gate c.give_turns-turns.new.engine l c.admit.new.gate)
    (sym (with_items_is c.admit.new.members c.give_turns-turns.new.members (c.give_turns-turns.ensures.goes.moves.same_length ∙ c.as_mut_slice.ensures.len)))
    (on_goes g.D.Disk.conduct g.H.NodeHash.digest (ReadFailed g.G.R.WatchedReader.has_failed g.G.Gate.is_troubled) (OneFailed g.G.W.QueuedWriter.has_failed) g.G.Gate.gives g.G.R.Read.remaining g.G.W.QueuedWriter.contents g.G.Gate.leads c.admit.new.engine c.give_turns-turns.new.engine c.admit.new.members.items c.give_turns-turns.new.members c.admit.new.gate c.admit.new.gate (g.met.G.Gate.leads_nowhere c.admit.new.gate)
    (subst (λ (l : List (Member g.row.G-R.Denot g.row.G-W.Denot)). GoesOn g.D.Disk.conduct g.H.NodeHash.digest (ReadFailed g.G.R.WatchedReader.has_failed g.G.Gate.is_troubled) (OneFailed g.G.W.QueuedWriter.has_failed) g.G.R.Read.remaining g.G.W.QueuedWriter.contents c.admit.new.engine l c.give_turns-turns.new.engine c.give_turns-turns.new.members) c.as_mut_slice.ensures.value c.give_turns-turns.ensures.goes)) in
    let before = on_trans g.D.Disk.conduct g.H.NodeHash.digest (ReadFailed g.G.R.WatchedReader.has_failed g.G.Gate.is_troubled) (OneFailed g.G.W.QueuedWriter.has_failed) g.G.Gate.gives g.G.R.Read.remaining g.G.W.QueuedWriter.contents g.G.Gate.leads g.met.G.Gate.leads_on _ _ _ _ _ _ _ _ _
    (on_trans g.D.Disk.conduct g.H.NodeHash.digest (ReadFailed g.G.R.WatchedReader.has_failed g.G.Gate.is_troubled) (OneFailed g.G.W.QueuedWriter.has_failed) g.G.Gate.gives g.G.R.Read.remaining g.G.W.QueuedWriter.contents g.G.Gate.leads g.met.G.Gate.leads_on _ _ _ _ _ _ _ _ _ (on_nowhere g.D.Disk.conduct g.H.NodeHash.digest (ReadFailed g.G.R.WatchedReader.has_failed g.G.Gate.is_troubled) (OneFailed g.G.W.QueuedWriter.has_failed) g.G.Gate.gives g.G.R.Read.remaining g.G.W.QueuedWriter.contents g.G.Gate.leads c.args.engine.now c.args.members.now.items c.args.gate.now c.wait-due.new.self c.wait-due.ensures.led) c.admit.ensures.swarm)
    served in
    let kept = on_trans g.D.Disk.conduct g.H.NodeHash.digest (ReadFailed g.G.R.WatchedReader.has_failed g.G.Gate.is_troubled) (OneFailed g.G.W.QueuedWriter.has_failed) g.G.Gate.gives g.G.R.Read.remaining g.G.W.QueuedWriter.contents g.G.Gate.leads g.met.G.Gate.leads_on _ _ _ _ _ _ _ _ _ before
    (on_goes g.D.Disk.conduct g.H.NodeHash.digest (ReadFailed g.G.R.WatchedReader.has_failed g.G.Gate.is_troubled) (OneFailed g.G.W.QueuedWriter.has_failed) g.G.Gate.gives g.G.R.Read.remaining g.G.W.QueuedWriter.contents g.G.Gate.leads c.give_turns-turns.new.engine c.flush_if_due-flushed.new.engine _ _ c.admit.new.gate c.admit.new.gate
    (g.met.G.Gate.leads_nowhere c.admit.new.gate) (goes_flushed g.G.R.Read.remaining g.G.W.QueuedWriter.contents g.D.Disk.conduct g.H.NodeHash.digest (ReadFailed g.G.R.WatchedReader.has_failed g.G.Gate.is_troubled) (OneFailed g.G.W.QueuedWriter.has_failed) c.give_turns-turns.new.engine c.flush_if_due-flushed.new.engine _ c.flush_if_due-flushed.ensures.step)) in
    record {
      keyed = c.let_go-pace.ensures.keyed;
      swarm = on_trans g.D.Disk.conduct g.H.NodeHash.digest (ReadFailed g.G.R.WatchedReader.has_failed g.G.Gate.is_troubled) (OneFailed g.G.W.QueuedWriter.has_failed) g.G.Gate.gives g.G.R.Read.remaining g.G.W.QueuedWriter.contents g.G.Gate.leads g.met.G.Gate.leads_on _ _ _ _ _ _ _ _ _ kept c.let_go-pace.ensures.swarm;
      waits = c.let_go-pace.ensures.waits ∙ c.admit.ensures.waits ∙ c.wait-due.ensures.counted;
      refused = if_map c.flush_if_due-flushed.result _ _
          (λ e refused. refused_on g.D.Disk.conduct g.H.NodeHash.digest _ _ _ _ e (refused_after g.D.Disk.conduct g.H.NodeHash.digest _ _ _ _ e before.runs refused) c.let_go-pace.ensures.swarm.runs)
          c.flush_if_due-flushed.ensures.refused;
    }
