use Rattle.std.proofs.Common.{ℕ, List, inl, sym, subst}
use Rattle.bt_session.specs.Failures.{OneFailed}
use Rattle.bt_swarm.specs.Causes.{ReadFailed}
use Rattle.bt_swarm.specs.declared.member.Member.{Member}
use Rattle.bt_swarm.specs.Moves.{AreKeyed}
use Rattle.bt_swarm.specs.Swarm.{SwarmsOn, ReadFailedOrCut}
use Rattle.bt_swarm.proofs.Ending.{on_map, if_map, over_at, end_for_all, refused_on}
use Rattle.bt_swarm.proofs.Keys.{keyed_none, none_held}
use Rattle.bt_swarm.proofs.Going.{served}
use Rattle.bt_swarm.proofs.run.serve_all.Goals as goal

pub take_rounds-answer-requires : goal.take_rounds-answer-requires
take_rounds-answer-requires g c = record { unwaited = c.requires.unwaited; keyed = rw c.new-members.ensures.items (keyed_none c.args.engine.now.state c.requires.no_peer) }

pub disband-requires : goal.disband-requires
disband-requires g c = record {
  cause = end_for_all (ReadFailed g.G.R.WatchedReader.has_failed g.G.Gate.is_troubled) (OneFailed g.G.W.QueuedWriter.has_failed) c.args.until_complete c.take_rounds-answer.result c.take_rounds-answer.new.engine
      c.take_rounds-answer.new.members.items _ _ c.end_of_all-end.result c.take_rounds-answer.ensures.over c.end_of_all-end.ensures;
  keyed = c.take_rounds-answer.ensures.keyed;
}

pub returns : goal.returns
returns g c = record {
  swarm = served g.D.Disk.conduct g.H.NodeHash.digest (ReadFailed g.G.R.WatchedReader.has_failed g.G.Gate.is_troubled) (OneFailed g.G.W.QueuedWriter.has_failed) (ReadFailedOrCut g.G.R.WatchedReader.has_failed g.G.Gate.is_troubled c.take_rounds-answer.result (g.G.Gate.waits c.disband.new.gate)) (OneFailed g.G.W.QueuedWriter.has_failed) (λ f. inl f) (λ f. f) g.G.Gate.gives g.G.R.Read.remaining g.G.W.QueuedWriter.contents g.G.Gate.leads
      g.met.G.Gate.leads_on c.args.engine.now c.take_rounds-answer.new.engine c.disband.new.engine _ c.take_rounds-answer.new.members.items c.disband.new.members.items _ _ _
      c.new-members.ensures.items c.disband.ensures.nobody c.take_rounds-answer.ensures.swarm
      (subst (λ (n : ℕ). SwarmsOn g.D.Disk.conduct g.H.NodeHash.digest (ReadFailedOrCut g.G.R.WatchedReader.has_failed g.G.Gate.is_troubled c.take_rounds-answer.result n) (OneFailed g.G.W.QueuedWriter.has_failed) g.G.Gate.gives g.G.R.Read.remaining g.G.W.QueuedWriter.contents g.G.Gate.leads c.take_rounds-answer.new.engine c.take_rounds-answer.new.members.items c.take_rounds-answer.new.gate
      c.disband.new.engine c.disband.new.members.items c.disband.new.gate) (sym c.disband.ensures.waits) c.disband.ensures.swarm);
  over = on_map c.take_rounds-answer.result _ _
      (over_at c.args.until_complete c.take_rounds-answer.new.engine c.disband.new.engine c.take_rounds-answer.new.members.items _ _ _ _
      (λ none. none_held c.take_rounds-answer.new.engine.state (subst (λ (l : List (Member g.row.G-R.Denot g.row.G-W.Denot)). AreKeyed c.take_rounds-answer.new.engine.state l) none c.take_rounds-answer.ensures.keyed))
      c.disband.ensures.still c.disband.ensures.complete c.disband.ensures.shut c.disband.ensures.waits) c.take_rounds-answer.ensures.over;
  refused = if_map c.take_rounds-answer.result _ _ (λ e r. refused_on g.D.Disk.conduct g.H.NodeHash.digest _ _ _ _ e r c.disband.ensures.swarm.runs) c.take_rounds-answer.ensures.refused;
  gone = none_held c.disband.new.engine.state (subst (λ (l : List (Member g.row.G-R.Denot g.row.G-W.Denot)). AreKeyed c.disband.new.engine.state l) c.disband.ensures.nobody c.disband.ensures.keyed);
}
