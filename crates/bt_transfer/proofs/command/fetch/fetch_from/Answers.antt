use Rattle.std.proofs.Common.{inl}
use Rattle.bt_files.proofs.Faults.{passed_on}
use Rattle.bt_transfer.proofs.EndFaults.{call_not_full, of_fault}
use Rattle.bt_transfer.proofs.OverTcp.{fetched_over_tcp, links_undialled}
use Rattle.bt_transfer.proofs.command.fetch.fetch_from.Goals as goal

pub fetch_over-requires-clause-undialled : goal.fetch_over-requires-clause-undialled
fetch_over-requires-clause-undialled g c =
    links_undialled c.args.engine.now.state.torrent c.args.peers.now c.args.links.now c.requires.own_links

pub returns-clause-fetched : goal.returns-clause-fetched
returns-clause-fetched g c = record {
  rest = c.fetch_over.new.links;
  fetched = fetched_over_tcp _ _ _ _ _ _ c.args.engine.now.state.torrent c.args.peers.now c.args.log
      c.requires.own_links c.fetch_flushing-flushing.ensures c.in_ok-status.ensures.fetched;
}

pub returns-in_err-hear-clause-full : goal.returns-in_err-hear-clause-full
returns-in_err-hear-clause-full g c =
    passed_on c.from_residual-in_err-hear.result _ _ c.from_residual-in_err-hear.ensures.1
    (λ full. absurd (call_not_full _ (inl (of_fault c.hear.result _ _ c.in_err-hear.was c.hear.ensures.fault).0) full))
