use Rattle.std.proofs.Common.{inl, inr, refl, ap, sym, ◌∙◌}
use Rattle.bt_book.specs.Book.{BookState}
use Rattle.bt_book.proofs.AskedAll.{peers_with_pairs}
use Rattle.bt_engine_state.proofs.Lists.{get_read}
use Rattle.bt_engine_state.proofs.Ties.{tied_again}
use Rattle.bt_engine_after.proofs.OpenBlocks.{shut_asks, asks}
use Rattle.bt_engine_after.proofs.asking.ask_blocks.Goals as goal
use Rattle.bt_engine_after.proofs.asking.ask_blocks.Goals.{then-peer-via-then-peer, then-peer-via-else-peer+then-not-peer}

pub returns-then-peer-clause-asked : goal.returns-then-peer-clause-asked
returns-then-peer-clause-asked g c =
    let old = c.args.parts.now in
    let p = c.index-peer.result.now in
    let here = get_read old.peers.items c.args.index p c.requires.there c.index-peer.ensures in
    elim c.then-peer.branch [
      | then-peer-via-then-peer w ↦ rw (w.parts-is, c.new.ensures) (shut_asks old c.args.index p c.requires.tied c.keeps_laws.ensures here (inl w.if-peer.true))
      | then-peer-via-else-peer+then-not-peer w ↦ rw (w.parts-is, c.new.ensures) (shut_asks old c.args.index p c.requires.tied c.keeps_laws.ensures here (inr w.if-not-peer.true))
    ]

pub returns-then-peer-clause-rest : goal.returns-then-peer-clause-rest
returns-then-peer-clause-rest g c =
    elim c.then-peer.branch [
      | then-peer-via-then-peer w ↦ rw w.parts-is (record { devices = refl; torrent = refl; log = refl; tied = c.requires.tied })
      | then-peer-via-else-peer+then-not-peer w ↦ rw w.parts-is (record { devices = refl; torrent = refl; log = refl; tied = c.requires.tied })
    ]

pub returns-clause-rest : goal.returns-clause-rest
returns-clause-rest g c =
    let tied = c.requires.tied in
    let now = c.ask_all-blocks.ensures.now in
    let same = peers_with_pairs c.index-peer.result.now.key c.args.parts.now.book c.ask_all-blocks.new.self c.ask_all-blocks.result.items now in
    record {
      devices = refl;
      torrent = refl;
      log = refl;
      tied = tied_again c.args.parts.now _ tied refl refl refl refl refl refl (ap (λ (b : BookState). b.wanted) now) (tied.joined ∙ sym same) tied.in_order tied.room;
    }

pub returns-clause-asked : goal.returns-clause-asked
returns-clause-asked g c =
    let old = c.args.parts.now in
    let p = c.index-peer.result.now in
    let here = get_read old.peers.items c.args.index p c.requires.there c.index-peer.ensures in
    let e = c.ask_all-blocks.ensures in
    asks old c.args.index p c.requires.tied c.keeps_laws.ensures here c.requires.shaped c.if-peer.false c.if-not-peer.false
    (λ b r inside h. h.1) c.ask_all-blocks.result.items c.ask_all-blocks.new.self e.now e.can e.turns e.all c.keeps_laws-2.ensures
