use Rattle.std.proofs.Common.{inl, inr, refl}
use Rattle.bt_engine.specs.Leads.{none}
use Rattle.bt_files.specs.Ending.{IsEndFault}
use Rattle.bt_files.proofs.Faults.{call_ends, err_weaker, passed_on}
use Rattle.bt_transfer.proofs.Listening.{listened}
use Rattle.bt_transfer.proofs.command.seed.listen_and_serve.Goals as goal

pub returns-in_err-listener-clause-run : goal.returns-in_err-listener-clause-run
returns-in_err-listener-clause-run g c = none c.args.engine.now

pub returns-in_err-announce-clause-run : goal.returns-in_err-announce-clause-run
returns-in_err-announce-clause-run g c = none c.args.engine.now

pub returns-in_err-announce-clause-fault : goal.returns-in_err-announce-clause-fault
returns-in_err-announce-clause-fault g c =
    passed_on c.from_residual-in_err-announce.result _ (IsEndFault c.args.engine.now.log) c.from_residual-in_err-announce.ensures.1
    (call_ends c.args.engine.now.log _ c.in_err-announce.ensures.fault)

pub returns-clause-served : goal.returns-clause-served
returns-clause-served g c =
    listened g.D.Disk.conduct g.H.NodeHash.digest c.args.service c.args.engine.now c.serve_all.new.engine
    (g.W.Write.contents c.args.writer.now) (g.W.Write.contents c.announce.new.writer) (g.W.Write.contents c.serve_all.new.writer) c.serve_all.result
    c.in_ok-announce.ensures.told c.serve_all.ensures.served

pub returns-in_err-listener-clause-stopped : goal.returns-in_err-listener-clause-stopped
returns-in_err-listener-clause-stopped g c =
    passed_on c.from_residual.result _ _ c.from_residual.ensures.1 (inl (refl, inl c.in_err-listener.ensures))

pub returns-in_err-announce-clause-stopped : goal.returns-in_err-announce-clause-stopped
returns-in_err-announce-clause-stopped g c =
    passed_on c.from_residual-in_err-announce.result _ _ c.from_residual-in_err-announce.ensures.1 (inl (refl, c.in_err-announce.ensures.fault))

pub returns-clause-stopped : goal.returns-clause-stopped
returns-clause-stopped g c = err_weaker c.serve_all.result _ _ (λ fault fails. inr fails) c.serve_all.ensures.kept
