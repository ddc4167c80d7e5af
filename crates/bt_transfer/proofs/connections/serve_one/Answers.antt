use Rattle.bt_files.proofs.Faults.{ok_weaker}
use Rattle.bt_transfer.proofs.OverTcp.{served_by_bytes}
use Rattle.bt_transfer.proofs.connections.serve_one.Goals as goal

pub returns-clause-served : goal.returns-clause-served
returns-clause-served g c = ok_weaker c.serve.result _ _
    (λ end served. served_by_bytes _ _ _ _ _
    c.args.engine.now end c.serve.new.engine served)
    c.serve.ensures.served
