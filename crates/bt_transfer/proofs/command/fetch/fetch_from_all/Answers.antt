use Rattle.std.proofs.Common.{ap, ◌∙◌}
use Rattle.bt_connection.specs.ShortBlocks.{short_blocks_of}
use Rattle.bt_engine.specs.Leads.{none}
use Rattle.bt_files.proofs.Faults.{err_weaker}
use Rattle.bt_transfer.specs.Fetch.{links_by}
use Rattle.bt_transfer.proofs.AtOnce.{fetched_in_turn, fetched_together}
use Rattle.bt_transfer.proofs.FullLogs.{full_at_once}
use Rattle.bt_transfer.proofs.command.fetch.fetch_from_all.Goals as goal

pub fetch_from-requires-clause-own_links : goal.fetch_from-requires-clause-own_links
fetch_from-requires-clause-own_links g c =
    c.deref_mut.ensures.value ∙ c.in_ok-links.ensures
    ∙ ap (λ short. links_by short c.args.passage.pieces c.args.named.peers.now) c.requires.own_short_blocks
    ∙ ap (λ pieces. links_by (short_blocks_of c.args.engine.now.state.torrent) pieces c.args.named.peers.now) c.requires.own_pieces

pub returns-in_err-links-clause-run : goal.returns-in_err-links-clause-run
returns-in_err-links-clause-run g c = none c.args.engine.now

pub returns-then-named-clause-fetched : goal.returns-then-named-clause-fetched
returns-then-named-clause-fetched g c =
    fetched_together g.D.Disk.conduct g.H.NodeHash.digest _ _ _ _ _ _ c.fetch_together.result c.args.named.are_together c.if-named.true
    c.fetch_together.ensures.fetched

pub returns-then-named-clause-full : goal.returns-then-named-clause-full
returns-then-named-clause-full g c =
    err_weaker c.fetch_together.result _ _ full_at_once c.fetch_together.ensures.cause

pub returns-clause-fetched : goal.returns-clause-fetched
returns-clause-fetched g c =
    fetched_in_turn g.D.Disk.conduct g.H.NodeHash.digest _ _ _ _ _ _ c.fetch_from.result c.args.named.are_together c.if-named.false c.fetch_from.ensures.fetched
