use Rattle.std.proofs.Common.{◌+◌, ◌%◌, ◌^◌, map, refl, ap, ◌∙◌}
use Rattle.std.proofs.lemmas.List.{with_items_is}
use Rattle.std.specs.Vec.{with_items}
use Rattle.bt_engine_after.specs.ServingSteps.{served_peer}
use Rattle.bt_engine_after.proofs.Turns.{turn_begun, sent_begun, turn_tied}
use Rattle.bt_engine_after.proofs.serving.begin_turn.Goals as goal

pub returns-clause-state : goal.returns-clause-state
returns-clause-state g c =
    let old = c.args.parts.now in
    let served = c.args.served.now in
    let items = with_items_is old.peers c.choke_and_unchoke.new.peers (c.choke_and_unchoke.auto.peers ∙ c.deref_mut.ensures.len)
    ∙ c.choke_and_unchoke.ensures.peers ∙ ap (map (served_peer served)) c.deref_mut.ensures.value in
    turn_begun old served c.requires.tied c.requires.choice (record old { peers = with_items old.peers c.choke_and_unchoke.new.peers; turn = (old.turn + 1) % 2 ^ 64 }) items refl

pub returns-clause-sent : goal.returns-clause-sent
returns-clause-sent g c =
    let old = c.args.parts.now in
    sent_begun old c.args.served.now c.requires.tied c.requires.choice c.args.send.now.items c.choke_and_unchoke.new.send.items c.deref_mut.ensures.value (c.choke_and_unchoke.ensures.sent old.book)

pub returns-clause-rest : goal.returns-clause-rest
returns-clause-rest g c =
    let old = c.args.parts.now in
    let served = c.args.served.now in
    let items = with_items_is old.peers c.choke_and_unchoke.new.peers (c.choke_and_unchoke.auto.peers ∙ c.deref_mut.ensures.len)
    ∙ c.choke_and_unchoke.ensures.peers ∙ ap (map (served_peer served)) c.deref_mut.ensures.value in
    record {
      devices = refl;
      torrent = refl;
      log = refl;
      tied = turn_tied old served c.requires.tied c.requires.choice (record old { peers = with_items old.peers c.choke_and_unchoke.new.peers; turn = (old.turn + 1) % 2 ^ 64 }) items
          c.requires.tied.room;
    }
