use Rattle.std.proofs.Common.{inl, inr, ap, ◌∙◌, refl}
use Rattle.bt_connection.specs.ShortBlocks.{short_blocks_of}
use Rattle.bt_meta.specs.Torrent.{total_pieces}
use Rattle.bt_files.proofs.Faults.{passed_on}
use Rattle.bt_transfer.proofs.WholeRuns.{ends_seed}
use Rattle.bt_transfer.proofs.command.seed.seed_store.Goals as goal

pub listen_and_serve-requires-clause-own_short_blocks : goal.listen_and_serve-requires-clause-own_short_blocks
listen_and_serve-requires-clause-own_short_blocks g c = c.in_ok-short_blocks.ensures.of_torrent ∙ ap short_blocks_of c.torrent-torrent.ensures

pub listen_and_serve-requires-clause-own_pieces : goal.listen_and_serve-requires-clause-own_pieces
listen_and_serve-requires-clause-own_pieces g c = c.pieces.ensures.counted ∙ ap total_pieces c.torrent-torrent.ensures

pub returns-clause-listened : goal.returns-clause-listened
returns-clause-listened g c = λ torrent given attached filled begun.
    ends_seed _ _ c.whole_runs_keep_promises.ensures.leads
    c.args.engine c.listen_and_serve.new.engine c.keeps_laws.ensures.lawful c.listen_and_serve.ensures.run (g.W.Write.contents c.args.writer.now)
    (g.W.Write.contents c.listen_and_serve.new.writer) 0 torrent given attached filled begun c.args.service c.in_ok-listen_and_serve.ensures.served refl

pub returns-in_err-short_blocks-clause-stopped : goal.returns-in_err-short_blocks-clause-stopped
returns-in_err-short_blocks-clause-stopped g c =
    passed_on c.from_residual.result _ _ c.from_residual.ensures.1 (c.args.engine, inl (refl, inr refl))

pub returns-in_err-listen_and_serve-clause-stopped : goal.returns-in_err-listen_and_serve-clause-stopped
returns-in_err-listen_and_serve-clause-stopped g c =
    passed_on c.from_residual-in_err-listen_and_serve.result _ _ c.from_residual-in_err-listen_and_serve.ensures.1
    (c.listen_and_serve.new.engine, c.in_err-listen_and_serve.ensures.stopped)
