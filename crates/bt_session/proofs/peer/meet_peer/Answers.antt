use Rattle.std.proofs.Common.{inr, rules, refl}
use Rattle.bt_machine.specs.declared.event.Event.TheVariants.{Connect}
use Rattle.bt_engine.specs.Leads.{none, one, both}
use Rattle.bt_session.specs.declared.end.SessionEnd.TheVariants.{ReadFault}
use Rattle.bt_session.specs.Peer.{behind, within}
use Rattle.bt_session.proofs.Meetings.{had_session, cut_short, told_of_reader}
use Rattle.bt_session.proofs.Sessions.{session_leads}
use Rattle.bt_session.proofs.peer.meet_peer.Goals as goal

pub returns-in_default-clause-ended : goal.returns-in_default-clause-ended
returns-in_default-clause-ended g c = search rules

pub returns-in_default-clause-run : goal.returns-in_default-clause-run
returns-in_default-clause-run g c = none c.args.engine.now

pub returns-in_default-clause-stands : goal.returns-in_default-clause-stands
returns-in_default-clause-stands g c =
    c.what_leads_on_stands.ensures c.args.engine.now c.args.engine.now c.keeps_laws.ensures.sound (none c.args.engine.now)

pub returns-in-Ok-Ok-clause-ended : goal.returns-in-Ok-Ok-clause-ended
returns-in-Ok-Ok-clause-ended g c =
    had_session g.D.Disk.conduct g.H.NodeHash.digest g.R.Read.remaining g.W.Write.contents _ _ _ c.args.reached _ _ _ c.in-Ok-Ok.end _ c.in-Some.is
    (behind c.run_session_with_flushes.new.engine (record { left = _; written = _; session = rw c.in-Ok-Ok.field-0-is at c.in-Ok-Ok.ensures.session })
    c.flush_behind.ensures.flushed)

pub returns-in-Ok-Ok-clause-run : goal.returns-in-Ok-Ok-clause-run
returns-in-Ok-Ok-clause-run g c =
    both c.args.engine.now c.run_session_with_flushes.new.engine c.flush_behind.new.engine
    (session_leads g.D.Disk.conduct g.H.NodeHash.digest _ _ _ c.args.engine.now c.run_session_with_flushes.new.engine _ _ _ _ _
    c.in-Ok-Ok.ensures.session)
    c.flush_behind.ensures.run

pub returns-in-Ok-Ok-clause-stands : goal.returns-in-Ok-Ok-clause-stands
returns-in-Ok-Ok-clause-stands g c =
    c.what_leads_on_stands.ensures c.args.engine.now c.flush_behind.new.engine c.keeps_laws.ensures.sound
    (both c.args.engine.now c.run_session_with_flushes.new.engine c.flush_behind.new.engine
    (session_leads g.D.Disk.conduct g.H.NodeHash.digest _ _ _ c.args.engine.now c.run_session_with_flushes.new.engine _ _ _ _ _
    c.in-Ok-Ok.ensures.session)
    c.flush_behind.ensures.run)

pub returns-in-Ok-Err-clause-ended : goal.returns-in-Ok-Err-clause-ended
returns-in-Ok-Err-clause-ended g c =
    had_session g.D.Disk.conduct g.H.NodeHash.digest g.R.Read.remaining g.W.Write.contents _ _ _ c.args.reached _ _ _ ReadFault _ c.in-Some.is
    (within c.in-Ok-Err.error (record { left = _; written = _; session = rw c.in-Ok-Err.field-0-is at c.in-Ok-Err.ensures.session }) refl refl)

pub returns-in-Ok-Err-clause-run : goal.returns-in-Ok-Err-clause-run
returns-in-Ok-Err-clause-run g c =
    session_leads g.D.Disk.conduct g.H.NodeHash.digest _ _ _ c.args.engine.now c.run_session_with_flushes.new.engine _ _ _ _ _
    c.in-Ok-Err.ensures.session

pub returns-in-Ok-Err-clause-stands : goal.returns-in-Ok-Err-clause-stands
returns-in-Ok-Err-clause-stands g c = c.in-Ok-Err.ensures.stands

pub returns-clause-run : goal.returns-clause-run
returns-clause-run g c = one c.args.engine.now c.run_session_with_flushes.new.engine Connect _ (λ e. absurd cc) c.in-Err.ensures.refused

pub returns-clause-stands : goal.returns-clause-stands
returns-clause-stands g c = c.in-Err.ensures.stands

pub returns-in-Ok-Ok-clause-read_fault : goal.returns-in-Ok-Ok-clause-read_fault
returns-in-Ok-Ok-clause-read_fault g c =
    told_of_reader g.R.WatchedReader.has_failed c.run_session_with_flushes.new.reader c.in-Ok-Ok.end
    (rw c.in-Ok-Ok.field-0-is at c.in-Ok-Ok.ensures.read_fault)

pub returns-in-Ok-Err-clause-read_fault : goal.returns-in-Ok-Err-clause-read_fault
returns-in-Ok-Err-clause-read_fault g c = λ is.
    inr (cut_short g.D.Disk.conduct g.H.NodeHash.digest g.R.Read.remaining g.W.Write.contents _ _ _ c.args.reached _ _ _ c.in-Ok-Err.error c.in-Some.is
    (record { left = _; written = _; session = rw c.in-Ok-Err.field-0-is at c.in-Ok-Err.ensures.session }))
