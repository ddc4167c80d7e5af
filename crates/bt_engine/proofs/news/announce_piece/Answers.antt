use Rattle.std.proofs.Common.{[], ◌∷◌, ◌≡◌, ◌++◌, ◌<◌, ◌≤◌, List, map, take, length, get_or, sym, ap, ◌∙◌, arith, true, false, if◌then◌else◌, append_assoc}
use Rattle.std.proofs.lemmas.Bool.{eq-eqb, ne_eqb}
use Rattle.std.proofs.lemmas.List.{append-nil, map_more, take_all}
use Rattle.bt_machine.specs.Output.{Sent, sent_to}
use Rattle.bt_machine.specs.Blocks.{is_whole}
use Rattle.bt_wire.specs.declared.message.Message.TheVariants.{Have}
use Rattle.bt_engine_state.specs.Parts.{state_of}
use Rattle.bt_engine_state.specs.declared.peer.Peer.{Peer}
use Rattle.bt_engine_state.proofs.Lists.{get_at}
use Rattle.bt_engine.proofs.Announcements.{have_to, haves_alike, whole_is}
use Rattle.bt_engine.proofs.news.announce_piece.Goals as goal

pub returns-then-left-gt0-clause-sent : goal.returns-then-left-gt0-clause-sent
returns-then-left-gt0-clause-sent g c =
    let parts = c.args.parts.now in
    let some : 0 < get_or parts.counts.unmarked.items c.args.piece 0 = rw (← c.as_slice-unmarked.ensures.value) c.if-left-gt0.true in
    let below : c.args.piece < length parts.counts.unmarked.items = omega (arith, c.requires.tied.counted.unmarked.size, c.requires.inside) in
    let whole = whole_is (state_of parts) parts.counts.unmarked.items c.args.piece c.requires.tied.counted.unmarked c.requires.inside (get_at parts.counts.unmarked.items c.args.piece 0 below) in
    let part : is_whole (state_of parts) c.args.piece ≡ false = whole ∙ ne_eqb _ 0 (λ e. absurd (omega (arith, some, e))) in
    sym (append-nil c.args.send.now.items)
    ∙ ap (λ t. c.args.send.now.items ++ (if t then map (λ p. sent_to p (Have c.args.piece)) (state_of parts).peers else [])) (sym part)

pub loop-peer-init : goal.loop-peer-init
loop-peer-init g c = (sym (append-nil c.args.send.now.items), omega arith, omega arith)

pub unwrap-requires : goal.unwrap-requires
unwrap-requires g c =
    let size : length c.deref-peer-items.result.now ≡ length c.args.parts.now.peers.items = ap (λ (xs : List Peer). length xs) c.deref-peer-items.ensures.value in
    let lt = c.loop-peer-test.true in
    let room = c.requires.room in
    let so_far = c.loop-peer.invariant in
    c.push.ensures.succeeds (omega (arith, size, lt, room, so_far.1, so_far.2))

pub loop-peer-preserved : goal.loop-peer-preserved
loop-peer-preserved g c =
    let size : length c.deref-peer-items.result.now ≡ length c.args.parts.now.peers.items = ap (λ (xs : List Peer). length xs) c.deref-peer-items.ensures.value in
    let lt = c.loop-peer-test.true in
    let room = c.requires.room in
    let so_far = c.loop-peer.invariant in
    let pushed = c.push.ensures.succeeds (omega (arith, size, lt, room, so_far.1, so_far.2)) in
    let items = rw pushed at c.push.ensures.items in
    let len = rw pushed at c.push.ensures.len in
    let more = map_more (have_to c.args.piece) c.deref-peer-items.result.now c.loop-peer.peer-index c.peer-item.result lt in (
      items ∙ ap (λ (xs : List Sent). xs ++ have_to c.args.piece c.peer-item.result ∷ []) so_far.0
          ∙ append_assoc c.args.send.now.items (map (have_to c.args.piece) (take c.loop-peer.peer-index c.deref-peer-items.result.now)) (have_to c.args.piece c.peer-item.result ∷ [])
          ∙ ap (λ (xs : List Sent). c.args.send.now.items ++ xs)
          (ap (λ (p : Peer). map (have_to c.args.piece) (take c.loop-peer.peer-index c.deref-peer-items.result.now) ++ have_to c.args.piece p ∷ []) c.peer-item.is ∙ sym more),
      omega (arith, len, so_far.1),
      omega (arith, c.push.ensures.capacity, so_far.2),
    )

pub returns-clause-sent : goal.returns-clause-sent
returns-clause-sent g c =
    let parts = c.args.parts.now in
    let none : get_or parts.counts.unmarked.items c.args.piece 0 ≤ 0 = rw (← c.as_slice-unmarked.ensures.value) c.if-left-gt0.false in
    let below : c.args.piece < length parts.counts.unmarked.items = omega (arith, c.requires.tied.counted.unmarked.size, c.requires.inside) in
    let whole = whole_is (state_of parts) parts.counts.unmarked.items c.args.piece c.requires.tied.counted.unmarked c.requires.inside (get_at parts.counts.unmarked.items c.args.piece 0 below) in
    let all : is_whole (state_of parts) c.args.piece ≡ true = whole ∙ eq-eqb _ 0 (omega (arith, none)) in
    let past = c.loop-peer-test.false in
    c.loop-peer.invariant.0
    ∙ ap (λ (xs : List Peer). c.args.send.now.items ++ map (have_to c.args.piece) xs) (take_all c.loop-peer.peer-index c.deref-peer-items.result.now past ∙ c.deref-peer-items.ensures.value)
    ∙ ap (λ (xs : List Sent). c.args.send.now.items ++ xs) (haves_alike parts.book c.args.piece parts.peers.items)
    ∙ ap (λ t. c.args.send.now.items ++ (if t then map (λ p. sent_to p (Have c.args.piece)) (state_of parts).peers else [])) (sym all)

pub returns-clause-few : goal.returns-clause-few
returns-clause-few g c =
    let size : length c.deref-peer-items.result.now ≡ length c.args.parts.now.peers.items = ap (λ (xs : List Peer). length xs) c.deref-peer-items.ensures.value in
    omega (arith, size, c.loop-peer.invariant.1, c.loop-peer.auto.peer-index-end)

pub returns-clause-capacity : goal.returns-clause-capacity
returns-clause-capacity g c = c.loop-peer.invariant.2
