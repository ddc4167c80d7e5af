use Rattle.std.proofs.Common.{ap, inl, inr, refl, ◌∙◌}
use Rattle.bt_connection.specs.ShortBlocks.{short_blocks_of}
use Rattle.bt_engine.specs.Leads.{both}
use Rattle.bt_files.specs.Ending.{IsEndFault}
use Rattle.bt_files.proofs.Faults.{err_weaker, ok_weaker, passed_on}
use Rattle.bt_files.proofs.Unlogged.{end_fault_before}
use Rattle.bt_machine.specs.State.{EngineState}
use Rattle.bt_meta.specs.Torrent.{total_pieces}
use Rattle.bt_transfer.proofs.EndFaults.{call_not_full}
use Rattle.bt_transfer.proofs.FullLogs.{found_later}
use Rattle.bt_transfer.proofs.WholeRuns.{ends_fetch}
use Rattle.bt_transfer.proofs.command.fetch.fetch_store.Goals as goal

pub fetch_from_all-requires-clause-no_peer : goal.fetch_from_all-requires-clause-no_peer
fetch_from_all-requires-clause-no_peer g c = ap (λ (s : EngineState). s.peers) c.flush_first.ensures.same ∙ c.requires.no_peer

pub fetch_from_all-requires-clause-own_short_blocks : goal.fetch_from_all-requires-clause-own_short_blocks
fetch_from_all-requires-clause-own_short_blocks g c = c.in_ok-short_blocks.ensures.of_torrent ∙ ap short_blocks_of c.torrent-torrent.ensures

pub fetch_from_all-requires-clause-own_pieces : goal.fetch_from_all-requires-clause-own_pieces
fetch_from_all-requires-clause-own_pieces g c = c.pieces.ensures.counted ∙ ap total_pieces c.torrent-torrent.ensures

pub returns-clause-fetched : goal.returns-clause-fetched
returns-clause-fetched g c = λ torrent given attached filled begun. ok_weaker c.fetch_from_all.result _ _
    (λ status fetched. ends_fetch _ _ c.whole_runs_keep_promises.ensures.leads
    c.args.engine c.fetch_from_all.new.engine c.keeps_laws.ensures.lawful
    (both _ _ _ c.flush_first.ensures.run c.fetch_from_all.ensures.run)
    (g.W.Write.contents c.args.writer.now) (g.W.Write.contents c.fetch_from_all.new.writer) status torrent given attached filled begun c.args.named.are_together
    c.args.named.peers.now c.args.log c.flush_first.new.engine c.in_ok-flush_first.ensures.flushed fetched)
    c.fetch_from_all.ensures.fetched

pub returns-clause-fault : goal.returns-clause-fault
returns-clause-fault g c =
    err_weaker c.fetch_from_all.result _ _ (end_fault_before _ _ c.flush_first.ensures.run)
    c.fetch_from_all.ensures.fault

pub returns-in_err-flush_first-clause-fault : goal.returns-in_err-flush_first-clause-fault
returns-in_err-flush_first-clause-fault g c =
    passed_on c.from_residual.result _ (IsEndFault c.args.engine.log) c.from_residual.ensures.1 (inl c.in_err-flush_first.ensures.fault)

pub returns-in_err-flush_first-clause-full : goal.returns-in_err-flush_first-clause-full
returns-in_err-flush_first-clause-full g c =
    passed_on c.from_residual.result _ _ c.from_residual.ensures.1 c.in_err-flush_first.ensures.full

pub returns-in_err-short_blocks-clause-full : goal.returns-in_err-short_blocks-clause-full
returns-in_err-short_blocks-clause-full g c =
    passed_on c.from_residual-in_err-short_blocks.result _ _ c.from_residual-in_err-short_blocks.ensures.1 (λ full. absurd (call_not_full _ (inr refl) full))

pub returns-clause-full : goal.returns-clause-full
returns-clause-full g c =
    err_weaker c.fetch_from_all.result _ _ (λ fault found full. found_later c.flush_first.ensures.run (found full)) c.fetch_from_all.ensures.full
