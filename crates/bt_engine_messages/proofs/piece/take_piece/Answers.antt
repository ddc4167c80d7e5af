use Rattle.std.proofs.Common.{[], List, ap, ◌∙◌, refl, map, arith}
use Rattle.std.specs.Global.{Vec}
use Rattle.bt_book.specs.Book.{BookState}
use Rattle.bt_machine.proofs.Lists.{set_id}
use Rattle.bt_machine.specs.Arrival.{stale}
use Rattle.bt_engine_state.specs.Parts.{disks_of}
use Rattle.bt_engine_state.specs.declared.peer.Peer.{Peer}
use Rattle.bt_engine_state.proofs.Lists.{get_read}
use Rattle.bt_engine_state.proofs.DeviceCalls.{have_none}
use Rattle.bt_engine_messages.proofs.Arrivals.{is_block_of, tied_mid, shaped_mid, keys_mid, arrives_so, pair_missing, tied_still, stale_so}
use Rattle.bt_engine_messages.proofs.KeptHints.{keeps_none}
use Rattle.bt_engine_messages.proofs.piece.take_piece.Goals as goal

pub returns-in_default-clause-takes : goal.returns-in_default-clause-takes
returns-in_default-clause-takes g c = record {
  calls = [];
  proofs = [];
  made = have_none g.D.Disk.conduct (disks_of c.args.parts.now);
  handles = λ p at. stale (λ b whole. absurd ((rw c.in_default.is at c.block_of.ensures.none) b whole)) refl refl refl;
  keeps = keeps_none c.args.parts.now refl;
}

pub put_block-requires : goal.put_block-requires
put_block-requires g c =
    let old = c.args.parts.now in
    let p = c.index_mut-peer.result.now in
    let here = get_read old.peers.items c.args.index p c.requires.there c.index_mut-peer.ensures.value in
    let b = c.in-Some.block in
    record {
      sound = record {
        tied = tied_mid old c.args.index b c.came.new.self c.saturating_add-peer.result c.requires.tied here c.came.ensures.others
            (ap (λ (book : BookState). book.wanted) c.came.ensures.now) c.came.ensures.peers;
        shaped = shaped_mid old c.args.index b c.came.new.self c.saturating_add-peer.result c.requires.tied here c.came.ensures.others c.requires.shaped;
      };
      missing = pair_missing old p.key b c.requires.tied c.keeps_laws.ensures (c.if-not-came.ensures.was.0 refl);
      whole = is_block_of old.torrent c.args.piece c.args.begin c.args.bytes.now b c.in-Some.ensures.some;
    }

pub returns : goal.returns
returns g c =
    let old = c.args.parts.now in
    let here = get_read old.peers.items c.args.index c.index_mut-peer.result.now c.requires.there c.index_mut-peer.ensures.value in
    let b = c.in-Some.block in
    let puts = c.put_block.ensures.puts in
    record {
      takes = record {
        calls = puts.calls;
        proofs = [];
        made = puts.made;
        handles = λ x at. arrives_so old c.args.index b c.came.new.self c.saturating_add-peer.result c.requires.tied here c.came.ensures.others g.H.NodeHash.digest
            c.args.piece c.args.begin c.args.bytes.now puts.calls _ _ x at c.in-Some.ensures.some (c.if-not-came.ensures.was.0 refl) c.came.ensures.asked
            (omega (arith, c.saturating_add-peer.ensures)) puts.others puts.askers (puts.puts x);
        keeps = keeps_none old c.put_block.ensures.no_proof;
      };
      few = c.put_block.ensures.few;
      rest = record { torrent = c.put_block.ensures.rest.torrent; log = c.put_block.ensures.rest.log; tied = c.put_block.ensures.rest.tied };
      keys = record {
        keys = ap (λ (peers : Vec Peer). map (λ (p : Peer). p.key) peers.items) c.put_block.ensures.peers
            ∙ keys_mid old c.args.index b c.came.new.self c.saturating_add-peer.result c.requires.tied here c.came.ensures.others;
        len = ap (λ (peers : Vec Peer). peers.len) c.put_block.ensures.peers;
      };
    }

pub returns-then-not-came : goal.returns-then-not-came
returns-then-not-came g c =
    let old = c.args.parts.now in
    let here = get_read old.peers.items c.args.index c.index_mut-peer.result.now c.requires.there c.index_mut-peer.ensures.value in
    let b = c.in-Some.block in
    record {
      takes = record {
        calls = [];
        proofs = [];
        made = have_none g.D.Disk.conduct (disks_of old);
        handles = λ x at. stale_so old c.args.index c.came.new.self c.requires.tied here c.if-not-came.ensures.kept g.H.NodeHash.digest c.args.piece c.args.begin
            c.args.bytes.now b x at (λ d whole. c.block_of.ensures.one d b whole c.in-Some.ensures.some)
            (λ pair. absurd (let f = c.if-not-came.ensures.was.1 pair in cc));
        keeps = keeps_none old refl;
      };
      few = omega arith;
      rest = record { torrent = refl; log = refl; tied = tied_still old c.args.index c.came.new.self c.requires.tied here c.if-not-came.ensures.kept };
      keys = record { keys = ap (λ (ps : List Peer). map (λ (p : Peer). p.key) ps) (set_id old.peers.items c.args.index here); len = refl };
    }
