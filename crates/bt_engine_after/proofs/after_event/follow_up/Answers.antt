use Rattle.std.proofs.Common.{List, length, map, ap, sym, subst, ◌∙◌, ◌≡◌, arith, All}
use Rattle.std.specs.Global.{Vec}
use Rattle.bt_machine.proofs.Lists.{some_is}
use Rattle.bt_book.specs.declared.names.BlockId.{BlockId}
use Rattle.bt_meta.specs.PieceBlocks.{HasBlock}
use Rattle.bt_meta.specs.Torrent.{Metainfo}
use Rattle.bt_machine.specs.State.{PeerState}
use Rattle.bt_engine_state.specs.Parts.{state_of, peer_of}
use Rattle.bt_engine_state.specs.declared.peer.Peer.{Peer}
use Rattle.bt_engine_state.proofs.Lists.{get_mapped, get_read}
use Rattle.bt_engine_after.specs.SendingSteps.{AreRequestsSent}
use Rattle.bt_engine_after.proofs.FollowUps.{shaped_again, open_have, sends_follow_up}
use Rattle.bt_engine_after.proofs.after_event.follow_up.Goals as goal

pub request_hashes-hashes-requires : goal.request_hashes-hashes-requires
request_hashes-hashes-requires g c = record {
  tied = c.tell_interest-interest.ensures.rest.tied;
  shaped = shaped_again _ _ c.requires.peer.shaped c.tell_interest-interest.ensures.told.now;
  inside = omega (arith, c.requires.peer.inside, c.tell_interest-interest.ensures.keys.len);
  there = omega (arith, c.requires.peer.inside, c.tell_interest-interest.ensures.keys.len, c.tell_interest-interest.new.parts.peers.ok.0);
}

pub ask_blocks-blocks-requires : goal.ask_blocks-blocks-requires
ask_blocks-blocks-requires g c =
    let asks = c.request_hashes-hashes in
    record {
      tied = asks.ensures.rest.tied;
      shaped = shaped_again _ _ (shaped_again _ _ c.requires.peer.shaped c.tell_interest-interest.ensures.told.now) asks.ensures.requested.now;
      inside = omega (arith, c.requires.peer.inside, c.tell_interest-interest.ensures.keys.len, asks.ensures.keys.len);
      there = omega (arith, c.requires.peer.inside, c.tell_interest-interest.ensures.keys.len, asks.ensures.keys.len, asks.new.parts.peers.ok.0);
    }

pub send_requests-requires-clause-have : goal.send_requests-requires-clause-have
send_requests-requires-clause-have g c =
    let s = state_of c.request_hashes-hashes.new.parts in
    let asked = c.ask_blocks-blocks.ensures.asked in
    let shaped = shaped_again _ _ (shaped_again _ _ c.requires.peer.shaped c.tell_interest-interest.ensures.told.now) c.request_hashes-hashes.ensures.requested.now in
    subst (λ (bs : List BlockId). All (λ b. HasBlock c.ask_blocks-blocks.new.parts.torrent b.file b.block) bs) (sym c.as_slice.ensures.value)
    (subst (λ (t : Metainfo). All (λ b. HasBlock t b.file b.block) c.ask_blocks-blocks.result.items) (sym c.ask_blocks-blocks.ensures.rest.torrent)
    (open_have s shaped asked.peer c.ask_blocks-blocks.result.items asked.asks))

pub send_requests-requires-clause-room : goal.send_requests-requires-clause-room
send_requests-requires-clause-room g c =
    omega (
      arith,
      c.requires.room,
      c.send_message.ensures.few,
      c.send_message-2.ensures.few,
      c.send_message.ensures.capacity,
      c.send_message-2.ensures.capacity,
      c.ask_blocks-blocks.ensures.asked.asks.few,
      ap length c.as_slice.ensures.value,
    )

pub returns-clause-follows : goal.returns-clause-follows
returns-clause-follows g c =
    let old = c.args.parts.now in
    let p = c.index.result.now in
    let told = c.tell_interest-interest.ensures.told in
    let here = get_mapped (peer_of old.book) old.peers.items c.args.index (get_read old.peers.items c.args.index p c.requires.peer.there c.index.ensures) in
    let same_key : told.peer.key ≡ p.key = ap (λ (q : PeerState). q.key) (some_is (sym told.here ∙ here)) in
    let torrent = c.ask_blocks-blocks.new.parts.torrent in
    sends_follow_up g.H.NodeHash.digest (state_of old) c.args.index c.tell_interest-interest.result c.request_hashes-hashes.result told
    c.request_hashes-hashes.ensures.requested c.ask_blocks-blocks.ensures.asked torrent p.key c.args.send.now.items c.send_message.new.send.items
    c.send_message-2.new.send.items c.send_requests.new.send.items same_key
    (sym (c.ask_blocks-blocks.ensures.rest.torrent ∙ c.request_hashes-hashes.ensures.rest.torrent ∙ c.tell_interest-interest.ensures.rest.torrent))
    c.send_message.ensures.sent c.send_message-2.ensures.sent
    (subst (λ (bs : List BlockId). AreRequestsSent torrent p.key bs c.send_message-2.new.send.items c.send_requests.new.send.items)
    c.as_slice.ensures.value c.send_requests.ensures.sent)

pub returns-clause-rest : goal.returns-clause-rest
returns-clause-rest g c =
    let told = c.tell_interest-interest.ensures.rest in
    let requested = c.request_hashes-hashes.ensures.rest in
    let asked = c.ask_blocks-blocks.ensures.rest in
    record {
      devices = asked.devices ∙ requested.devices ∙ told.devices;
      torrent = asked.torrent ∙ requested.torrent ∙ told.torrent;
      log = asked.log ∙ requested.log ∙ told.log;
      tied = asked.tied;
    }

pub returns-clause-keys : goal.returns-clause-keys
returns-clause-keys g c =
    let told = c.tell_interest-interest.ensures.keys in
    let requested = c.request_hashes-hashes.ensures.keys in
    let same = c.ask_blocks-blocks.ensures.peers in
    record {
      keys = ap (λ (peers : Vec Peer). map (λ (p : Peer). p.key) peers.items) same ∙ requested.keys ∙ told.keys;
      len = ap (λ (peers : Vec Peer). peers.len) same ∙ requested.len ∙ told.len;
    }

pub returns-clause-few : goal.returns-clause-few
returns-clause-few g c =
    omega (
      arith,
      c.send_message.ensures.few,
      c.send_message-2.ensures.few,
      c.send_requests.ensures.few,
      c.ask_blocks-blocks.ensures.asked.asks.few,
      ap length c.as_slice.ensures.value,
    )

pub returns-clause-capacity : goal.returns-clause-capacity
returns-clause-capacity g c = omega (arith, c.send_message.ensures.capacity, c.send_message-2.ensures.capacity, c.send_requests.ensures.capacity)
