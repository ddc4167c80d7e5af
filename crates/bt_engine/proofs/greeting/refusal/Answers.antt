use Rattle.std.proofs.Common.{◌≡◌, List, length, refl, sym, ap, ◌∙◌, arith}
use Rattle.std.proofs.lemmas.List.{length-map}
use Rattle.bt_machine.specs.Peers.{full}
use Rattle.bt_engine_state.specs.Parts.{state_of, peer_of}
use Rattle.bt_engine_state.specs.declared.peer.Peer.{Peer}
use Rattle.bt_engine.proofs.greeting.refusal.Goals as goal

pub returns-then-as_slice-ge-MAX_PEERS : goal.returns-then-as_slice-ge-MAX_PEERS
returns-then-as_slice-ge-MAX_PEERS g c =
    let parts = c.args.parts.now in
    let count : length (state_of parts).peers ≡ length c.as_slice.result.now =
    length-map parts.peers.items (peer_of parts.book) ∙ sym (ap (λ (xs : List Peer). length xs) c.as_slice.ensures.value) in
    full (omega (arith, count, c.if-as_slice-ge-MAX_PEERS.true)) refl refl
