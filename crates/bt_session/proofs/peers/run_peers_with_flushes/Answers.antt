use Rattle.std.proofs.Common.{◌≡◌, sym, ◌∙◌, arith, rules}
use Rattle.std.proofs.lemmas.List.{set-get_or}
use Rattle.std.proofs.lemmas.List.Elements.{All-set}
use Rattle.std.proofs.lemmas.Result.{err_from_is_err_and}
use Rattle.bt_engine.specs.Leads.{none, both}
use Rattle.bt_session.specs.declared.end.SessionEnd.TheVariants.{ReadFault, WriteFault}
use Rattle.bt_session.specs.declared.peer_end.PeerEnd.TheVariants.{Session}
use Rattle.bt_session.specs.Failures.{OnlyAfterFailure, OneFailed}
use Rattle.bt_session.proofs.Turns.{All-first, All-later, untried_later, went_on, all_tried, completed, refused, told_are_tried}
use Rattle.bt_session.proofs.Meetings.{not_cut}
use Rattle.bt_session.proofs.peers.run_peers_with_flushes.Goals as goal

pub try_peer-requires-clause-undialled : goal.try_peer-requires-clause-undialled
try_peer-requires-clause-undialled g c =
    All-first (λ link. g.L.Link.dials link ≡ 0) c.loop-i.links c.loop-i.i c.index-links-i.result (omega arith) c.loop-i.invariant.undialled

pub loop-i-init : goal.loop-i-init
loop-i-init g c = record {
  no_peer = c.requires.no_peer;
  undialled = c.requires.undialled;
  untried = search rules;
  leads = λ later rest answer new turns. turns;
  read = search rules;
  written = search rules;
  run = none c.args.engine.now;
}

pub loop-i-preserved : goal.loop-i-preserved
loop-i-preserved g c = record {
  no_peer = c.in_ok-try_peer.ensures.gone;
  undialled = All-later (λ link. g.L.Link.dials link ≡ 0) c.loop-i.links c.loop-i.i c.try_peer.new.link c.loop-i.invariant.undialled;
  untried = untried_later c.loop-i.ends c.loop-i.links c.loop-i.i c.try_peer.new.end c.try_peer.new.link c.loop-i.invariant.untried;
  leads = went_on _ _ _ c.loop-i.i _ _ c.loop-i.links c.loop-i.ends c.index-links-i.result _ _ (omega arith) (omega arith)
      (sym c.is_complete.ensures ∙ c.if-is_complete.false) c.in_ok-try_peer.ensures.tried c.loop-i.invariant.leads;
  read = All-set (OnlyAfterFailure (Session ReadFault) (OneFailed g.L.R.WatchedReader.has_failed)) c.loop-i.ends c.loop-i.i c.try_peer.new.end (not_cut _ c.in_ok-try_peer.ensures.tried.read_fault) c.loop-i.invariant.read;
  written = All-set (OnlyAfterFailure (Session WriteFault) (OneFailed g.L.W.WatchedWriter.has_failed)) c.loop-i.ends c.loop-i.i c.try_peer.new.end c.in_ok-try_peer.ensures.write_fault c.loop-i.invariant.written;
  run = both _ c.loop-i.engine _ c.loop-i.invariant.run c.in_ok-try_peer.ensures.run;
}

pub returns-after-loop-i-clause-told : goal.returns-after-loop-i-clause-told
returns-after-loop-i-clause-told g c = all_tried _ _ _ c.loop-i.i _ _ _ (omega arith) (omega arith) c.loop-i.invariant.leads

pub returns-then-is_complete-clause-told : goal.returns-then-is_complete-clause-told
returns-then-is_complete-clause-told g c =
    rw set-get_or (completed _ _ _ c.loop-i.i _ c.loop-i.links c.loop-i.ends (sym c.is_complete.ensures ∙ c.if-is_complete.true) c.loop-i.invariant.untried
    c.loop-i.invariant.leads)

pub returns-in_err-try_peer-clause-told : goal.returns-in_err-try_peer-clause-told
returns-in_err-try_peer-clause-told g c =
    let p = err_from_is_err_and c.from_residual.result c.from_residual.ensures.1 in
    rw (p.1, p.2)
    (refused _ _ _ c.loop-i.i _ _ c.loop-i.links c.loop-i.ends c.index-links-i.result _ _ _ (omega arith) (omega arith)
    (sym c.is_complete.ensures ∙ c.if-is_complete.false) c.in_err-try_peer.ensures.tried c.loop-i.invariant.untried c.loop-i.invariant.leads)

pub returns-after-loop-i-clause-peers : goal.returns-after-loop-i-clause-peers
returns-after-loop-i-clause-peers g c =
    told_are_tried (OneFailed g.L.R.WatchedReader.has_failed) g.D.Disk.conduct g.H.NodeHash.digest g.L.Link.dials g.L.Link.failures
    g.L.Link.gives g.L.R.Read.remaining g.L.W.Write.contents c.args.flushing c.args.turns
    (all_tried _ _ _ c.loop-i.i _ _ _ (omega arith) (omega arith) c.loop-i.invariant.leads)

pub returns-then-is_complete-clause-peers : goal.returns-then-is_complete-clause-peers
returns-then-is_complete-clause-peers g c =
    told_are_tried (OneFailed g.L.R.WatchedReader.has_failed) g.D.Disk.conduct g.H.NodeHash.digest g.L.Link.dials g.L.Link.failures
    g.L.Link.gives g.L.R.Read.remaining g.L.W.Write.contents c.args.flushing c.args.turns
    (rw set-get_or (completed _ _ _ c.loop-i.i _ c.loop-i.links c.loop-i.ends (sym c.is_complete.ensures ∙ c.if-is_complete.true) c.loop-i.invariant.untried
    c.loop-i.invariant.leads))

pub returns-in_err-try_peer-clause-peers : goal.returns-in_err-try_peer-clause-peers
returns-in_err-try_peer-clause-peers g c =
    let p = err_from_is_err_and c.from_residual.result c.from_residual.ensures.1 in
    rw (p.1, p.2)
    (told_are_tried (OneFailed g.L.R.WatchedReader.has_failed) g.D.Disk.conduct g.H.NodeHash.digest g.L.Link.dials g.L.Link.failures
    g.L.Link.gives g.L.R.Read.remaining g.L.W.Write.contents c.args.flushing c.args.turns
    (refused _ _ _ c.loop-i.i _ _ c.loop-i.links c.loop-i.ends c.index-links-i.result _ _ _ (omega arith) (omega arith)
    (sym c.is_complete.ensures ∙ c.if-is_complete.false) c.in_err-try_peer.ensures.tried c.loop-i.invariant.untried c.loop-i.invariant.leads))

pub returns-in_err-try_peer-clause-write_fault : goal.returns-in_err-try_peer-clause-write_fault
returns-in_err-try_peer-clause-write_fault g c =
    All-set (OnlyAfterFailure (Session WriteFault) (OneFailed g.L.W.WatchedWriter.has_failed)) c.loop-i.ends c.loop-i.i c.try_peer.new.end
    c.in_err-try_peer.ensures.write_fault c.loop-i.invariant.written

pub returns-in_err-try_peer-clause-run : goal.returns-in_err-try_peer-clause-run
returns-in_err-try_peer-clause-run g c = both _ c.loop-i.engine _ c.loop-i.invariant.run c.in_err-try_peer.ensures.run

pub returns-after-loop-i-clause-stands : goal.returns-after-loop-i-clause-stands
returns-after-loop-i-clause-stands g c =
    c.what_leads_on_stands.ensures c.args.engine.now c.loop-i.engine c.keeps_laws.ensures.sound c.loop-i.invariant.run

pub returns-then-is_complete-clause-stands : goal.returns-then-is_complete-clause-stands
returns-then-is_complete-clause-stands g c =
    c.what_leads_on_stands.ensures c.args.engine.now c.loop-i.engine c.keeps_laws.ensures.sound c.loop-i.invariant.run

pub returns-in_err-try_peer-clause-stands : goal.returns-in_err-try_peer-clause-stands
returns-in_err-try_peer-clause-stands g c =
    c.what_leads_on_stands.ensures c.args.engine.now c.try_peer.new.engine c.keeps_laws.ensures.sound
    (both _ c.loop-i.engine _ c.loop-i.invariant.run c.in_err-try_peer.ensures.run)
