use Rattle.std.proofs.Common.{set, arith, sym, ap, ◌∙◌}
use Rattle.std.proofs.lemmas.List.Edits.{map_over_more}
use Rattle.bt_engine_after.specs.ServingSteps.{served_peer}
use Rattle.bt_engine_after.proofs.Servings.{told_this, told_nothing}
use Rattle.bt_engine_after.proofs.serving.choke_and_unchoke.Goals as goal
use Rattle.bt_engine_after.proofs.serving.choke_and_unchoke.Goals.{in-Some, in_default}

pub loop-peer-preserved : goal.loop-peer-preserved
loop-peer-preserved c =
    let peers = c.args.peers.now in
    let served = c.args.served.now in
    let now = c.loop-peer.peers in
    let i = c.loop-peer.peer-index in
    let p = c.peer-item.result in
    let so_far = c.loop-peer.invariant in
    let lt = c.loop-peer-test.true in
    let same = ap (set now i) (c.choke_or_unchoke.ensures.peer ∙ ap (served_peer served) (sym c.peer-item.is))
    ∙ map_over_more (served_peer served) peers now i p lt so_far.peers c.peer-item.is in
    elim c.match-choke_or_unchoke.branch [
      | in-Some w ↦ record {
        peers = w.peers-is ∙ same;
        sent = λ book. rw w.send-is (w.push_reserved.ensures.items ∙ told_this book served peers now i p lt so_far.peers c.peer-item.is c.args.send.now.items c.loop-peer.send.items
            (so_far.sent book) c.choke_or_unchoke.result (c.choke_or_unchoke.ensures.told book) w.in-Some.message c.choke_or_unchoke.new.peer w.in-Some.is c.choke_or_unchoke.ensures.peer);
        few = rw w.send-is (omega (arith, so_far.few, w.push_reserved.ensures.len));
        capacity = rw w.send-is (omega (arith, so_far.capacity, w.push_reserved.ensures.capacity));
      }
      | in_default w ↦ record {
        peers = w.peers-is ∙ same;
        sent = λ book. rw w.send-is (told_nothing book served peers now i p lt so_far.peers c.peer-item.is c.args.send.now.items c.loop-peer.send.items
            (so_far.sent book) c.choke_or_unchoke.result (c.choke_or_unchoke.ensures.told book) w.in_default.is);
        few = rw w.send-is (omega (arith, so_far.few));
        capacity = rw w.send-is so_far.capacity;
      }
    ]
