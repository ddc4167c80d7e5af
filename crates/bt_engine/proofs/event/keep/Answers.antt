use Rattle.std.proofs.Common.{◌≡◌, ◌<◌, ◌++◌, List, Option, option_map, length, refl, sym, ap, ◌∙◌, subst, arith}
use Rattle.std.specs.Option.{option_to_list}
use Rattle.std.specs.Vec.{vec_len}
use Rattle.bt_machine.specs.declared.answer.Note.{Note}
use Rattle.bt_machine.specs.FollowUp.{FollowsUp}
use Rattle.bt_machine.specs.Output.{Sent}
use Rattle.bt_machine.specs.State.{PeerState, EngineState, Hint}
use Rattle.bt_machine.proofs.Lists.{some_is}
use Rattle.bt_engine_state.specs.Parts.{state_of, disks_of, peer_of}
use Rattle.bt_engine_state.specs.Ties.{IsTied}
use Rattle.bt_engine_state.proofs.Lists.{get_read, get_mapped}
use Rattle.bt_engine_state.proofs.Ties.{tied_logged}
use Rattle.bt_engine_state.specs.declared.open_log.OpenLog.{OpenLog}
use Rattle.bt_engine_state.specs.declared.parts.Parts.{Parts}
use Rattle.bt_engine_messages.specs.Outcome.{sent_by, notes_in}
use Rattle.bt_engine.specs.NewsSteps.{haves_by, complete_by}
use Rattle.bt_engine.specs.PendingSteps.{marks_in, with_hints, AreInside}
use Rattle.bt_engine.proofs.Events.{few_replies}
use Rattle.bt_engine.proofs.ToldMarks.{are_inside, same_marks_in, few_hints, inside_alike, shape_recorded}
use Rattle.bt_engine.proofs.event.keep.Goals as goal

pub record_hints-requires-clause-room : goal.record_hints-requires-clause-room
record_hints-requires-clause-room g c = λ opened is.
    let reply = c.args.reply in
    let room = c.requires.room in
    let noted : c.put_reply.new.notes.items ≡ notes_in reply = c.put_reply.ensures.noted ∙ ap (λ (ns : List Note). ns ++ notes_in reply) room.2.nothing_noted in
    let all = c.note_complete_files.ensures.noted ∙ ap (λ (ns : List Note). ns ++ complete_by (state_of c.args.parts.now) ns) noted in
    let marks = ap marks_in (c.deref.ensures.value ∙ all) ∙ same_marks_in (state_of c.args.parts.now) (notes_in reply) in
    let size = ap (λ (hints : List Hint). length (option_to_list c.args.proof ++ hints)) marks in
    omega (arith, size, few_hints c.args.proof (notes_in reply), few_replies reply, room.1, room.3 opened is)

pub record_hints-requires-clause-inside : goal.record_hints-requires-clause-inside
record_hints-requires-clause-inside g c =
    let reply = c.args.reply in
    let room = c.requires.room in
    let noted : c.put_reply.new.notes.items ≡ notes_in reply = c.put_reply.ensures.noted ∙ ap (λ (ns : List Note). ns ++ notes_in reply) room.2.nothing_noted in
    let all = c.note_complete_files.ensures.noted ∙ ap (λ (ns : List Note). ns ++ complete_by (state_of c.args.parts.now) ns) noted in
    subst (λ (ns : List Note). AreInside ns) (sym (c.deref.ensures.value ∙ all))
    (inside_alike (state_of c.args.parts.now) (notes_in reply) (are_inside c.requires.told.1 c.requires.peer.shaped c.keeps_laws.ensures.each))

pub follow_up-requires-clause-peer : goal.follow_up-requires-clause-peer
follow_up-requires-clause-peer g c =
    let same = sym c.record_hints.ensures.others in
    record {
      tied = subst (λ (p : Parts g.row.D.Denot g.row.H.Denot). IsTied p) same (tied_logged c.args.parts.now c.record_hints.new.parts.log c.requires.peer.tied);
      shaped = shape_recorded _ c.record_hints.ensures.state c.requires.peer.shaped;
      inside = subst (λ (p : Parts g.row.D.Denot g.row.H.Denot). c.args.index < vec_len p.peers) same c.requires.peer.inside;
      there = subst (λ (p : Parts g.row.D.Denot g.row.H.Denot). c.args.index < length p.peers.items) same c.requires.peer.there;
    }

pub returns-clause-devices : goal.returns-clause-devices
returns-clause-devices g c =
    c.follow_up.ensures.rest.devices ∙ ap (λ (p : Parts g.row.D.Denot g.row.H.Denot). disks_of p) c.record_hints.ensures.others

pub returns-clause-rest : goal.returns-clause-rest
returns-clause-rest g c = record {
  torrent = c.follow_up.ensures.rest.torrent ∙ ap (λ (p : Parts g.row.D.Denot g.row.H.Denot). p.torrent) c.record_hints.ensures.others;
  log = ap (λ (log : Option (OpenLog g.row.D.Denot)). option_map (λ opened. opened.log) log) c.follow_up.ensures.rest.log
      ∙ c.record_hints.ensures.log;
  tied = c.follow_up.ensures.rest.tied;
}

pub returns-clause-follows : goal.returns-clause-follows
returns-clause-follows g c =
    let parts = c.args.parts.now in
    let reply = c.args.reply in
    let follows = c.follow_up.ensures.follows in
    let room = c.requires.room in
    let noted : c.put_reply.new.notes.items ≡ notes_in reply = c.put_reply.ensures.noted ∙ ap (λ (ns : List Note). ns ++ notes_in reply) room.2.nothing_noted in
    let all = c.note_complete_files.ensures.noted ∙ ap (λ (ns : List Note). ns ++ complete_by (state_of c.args.parts.now) ns) noted in
    let marks = ap marks_in (c.deref.ensures.value ∙ all) ∙ same_marks_in (state_of parts) (notes_in reply) in
    let told = c.record_hints.ensures.state ∙ ap (λ (hints : List Hint). with_hints (state_of parts) (option_to_list c.args.proof ++ hints)) marks in
    record {
      sent = follows.sent;
      follows = subst (λ (s : EngineState). FollowsUp g.H.NodeHash.digest s c.args.index follows.sent (state_of c.follow_up.new.parts)) told follows.follows;
      send = λ peer here.
          let read = get_mapped (peer_of parts.book) parts.peers.items c.args.index (get_read parts.peers.items c.args.index c.index.result.now c.requires.peer.there c.index.ensures) in
          let key : peer.key ≡ c.index.result.now.key = ap (λ (p : PeerState). p.key) (some_is (sym here ∙ read)) in
          let sent : c.put_reply.new.send.items ≡ sent_by peer reply =
          c.put_reply.ensures.sent peer key ∙ ap (λ (ss : List Sent). ss ++ sent_by peer reply) room.2.nothing_sent in
          follows.behind ∙ ap (λ (ss : List Sent). ss ++ follows.sent) (c.announce_pieces.ensures.sent
          ∙ ap (λ (ns : List Note). c.put_reply.new.send.items ++ haves_by (state_of parts) ns) (c.as_slice.ensures.value ∙ noted)
          ∙ ap (λ (ss : List Sent). ss ++ haves_by (state_of parts) (notes_in reply)) sent);
      close = refl;
      notes = all;
    }
