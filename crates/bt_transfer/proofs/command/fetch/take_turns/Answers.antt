use Rattle.std.proofs.Common.{◌≡◌, sym, ◌∙◌, arith, rules}
use Rattle.std.proofs.lemmas.List.{set-get_or}
use Rattle.bt_engine.specs.Leads.{none, both}
use Rattle.bt_files.specs.Ending.{IsEndFault}
use Rattle.bt_files.proofs.Faults.{call_ends, err_weaker, passed_on}
use Rattle.bt_files.proofs.Unlogged.{end_fault_before}
use Rattle.bt_session.proofs.Turns.{All-first, All-later}
use Rattle.bt_transfer.proofs.EndFaults.{call_not_full, of_fault}
use Rattle.bt_transfer.proofs.FullLogs.{found_later}
use Rattle.bt_transfer.proofs.Turns.{all_told, done_early, none_left_of, none_yet, not_all_told, not_written, one_ends, one_more}
use Rattle.bt_transfer.proofs.command.fetch.take_turns.Goals as goal

pub try_peer-end-requires-clause-undialled : goal.try_peer-end-requires-clause-undialled
try_peer-end-requires-clause-undialled g c =
    All-first (λ link. g.L.Link.dials link ≡ 0) c.loop-i.links c.loop-i.i c.index-links-i.result (omega arith) c.loop-i.invariant.undialled

pub loop-i-init : goal.loop-i-init
loop-i-init g c = record {
  no_peer = c.requires.no_peer;
  undialled = c.requires.undialled;
  tried = none_yet _ _ _ _ _ (search rules);
  call = tt;
  run = none c.args.engine.now;
}

pub loop-i-preserved : goal.loop-i-preserved
loop-i-preserved g c = record {
  no_peer = c.try_peer-end.ensures.gone;
  undialled = All-later (λ link. g.L.Link.dials link ≡ 0) c.loop-i.links c.loop-i.i c.try_peer-end.new.link c.loop-i.invariant.undialled;
  tried = one_more _ _ _ _ _ c.loop-i.i c.loop-i.engine c.try_peer-end.new.engine c.loop-i.links c.index-links-i.result c.try_peer-end.new.link
      _ c.try_peer-end.result.0 c.try_peer-end.result.1 c.loop-i.written c.tell_peer-written.result
      (g.W.Write.contents c.loop-i.writer) (g.W.Write.contents c.tell_peer-written.new.writer) (omega arith) (omega arith)
      (sym c.is_complete.ensures ∙ c.if-is_complete.false) c.try_peer-end.ensures.tried c.in_ok-kept.was c.tell_peer-written.ensures.before
      c.tell_peer-written.ensures.text c.loop-i.invariant.tried;
  call = not_written c.loop-i.written c.tell_peer-written.result c.loop-i.invariant.call c.tell_peer-written.ensures.fault;
  run = both _ _ _ c.loop-i.invariant.run c.try_peer-end.ensures.run;
}

pub returns-after-loop-i-clause-told : goal.returns-after-loop-i-clause-told
returns-after-loop-i-clause-told g c =
    all_told _ _ _ _ _ _ _ _ _ (none_left_of _ _ _ _ _ c.loop-i.i _ _ _ _ (omega arith) c.loop-i.invariant.tried)

pub returns-after-loop-i-clause-stopped : goal.returns-after-loop-i-clause-stopped
returns-after-loop-i-clause-stopped g c =
    not_all_told _ _ _ _ _ _ _ _ _ (none_left_of _ _ _ _ _ c.loop-i.i _ _ _ _ (omega arith) c.loop-i.invariant.tried) c.loop-i.invariant.call

pub returns-after-loop-i-clause-fault : goal.returns-after-loop-i-clause-fault
returns-after-loop-i-clause-fault g c = err_weaker c.loop-i.written _ _ (call_ends c.args.engine.now.log) c.loop-i.invariant.call

pub returns-after-loop-i-clause-full : goal.returns-after-loop-i-clause-full
returns-after-loop-i-clause-full g c =
    err_weaker c.loop-i.written _ _ (λ fault call full. absurd (call_not_full fault call full)) c.loop-i.invariant.call

pub returns-then-is_complete-clause-told : goal.returns-then-is_complete-clause-told
returns-then-is_complete-clause-told g c =
    rw set-get_or
    (all_told _ _ _ _ _ _ _ _ _
    (done_early _ _ _ _ _ c.loop-i.i _ c.loop-i.links _ _ (sym c.is_complete.ensures ∙ c.if-is_complete.true) c.loop-i.invariant.tried))

pub returns-then-is_complete-clause-stopped : goal.returns-then-is_complete-clause-stopped
returns-then-is_complete-clause-stopped g c =
    rw set-get_or
    (not_all_told _ _ _ _ _ _ _ _ _
    (done_early _ _ _ _ _ c.loop-i.i _ c.loop-i.links _ _ (sym c.is_complete.ensures ∙ c.if-is_complete.true) c.loop-i.invariant.tried)
    c.loop-i.invariant.call)

pub returns-then-is_complete-clause-fault : goal.returns-then-is_complete-clause-fault
returns-then-is_complete-clause-fault g c = err_weaker c.loop-i.written _ _ (call_ends c.args.engine.now.log) c.loop-i.invariant.call

pub returns-then-is_complete-clause-full : goal.returns-then-is_complete-clause-full
returns-then-is_complete-clause-full g c =
    err_weaker c.loop-i.written _ _ (λ fault call full. absurd (call_not_full fault call full)) c.loop-i.invariant.call

pub returns-in_err-kept-clause-stopped : goal.returns-in_err-kept-clause-stopped
returns-in_err-kept-clause-stopped g c =
    passed_on c.from_residual.result _ _ c.from_residual.ensures.1
    (one_ends _ _ _ _ _ c.loop-i.i c.loop-i.engine c.try_peer-end.new.engine c.loop-i.links c.index-links-i.result c.try_peer-end.new.link
    c.try_peer-end.result.0 c.try_peer-end.result.1 c.loop-i.written _ (g.W.Write.contents c.loop-i.writer) (omega arith)
    (sym c.is_complete.ensures ∙ c.if-is_complete.false) c.try_peer-end.ensures.tried c.in_err-kept.was c.loop-i.invariant.tried)

pub returns-in_err-kept-clause-run : goal.returns-in_err-kept-clause-run
returns-in_err-kept-clause-run g c =
    both _ _ _ c.loop-i.invariant.run c.try_peer-end.ensures.run

pub returns-in_err-kept-clause-fault : goal.returns-in_err-kept-clause-fault
returns-in_err-kept-clause-fault g c =
    passed_on c.from_residual.result _ (IsEndFault c.args.engine.now.log) c.from_residual.ensures.1
    (end_fault_before _ _ c.loop-i.invariant.run _
    (of_fault c.try_peer-end.result.1 _ _ c.in_err-kept.was c.try_peer-end.ensures.fault))

pub returns-in_err-kept-clause-full : goal.returns-in_err-kept-clause-full
returns-in_err-kept-clause-full g c =
    passed_on c.from_residual.result _ _ c.from_residual.ensures.1
    (λ full. found_later c.loop-i.invariant.run (of_fault c.try_peer-end.result.1 _ _ c.in_err-kept.was c.try_peer-end.ensures.full full))
