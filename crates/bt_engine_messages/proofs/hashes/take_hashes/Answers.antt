use Rattle.std.proofs.Common.{◌≤◌, List, sym, ◌∙◌, subst, refl}
use Rattle.std.proofs.lemmas.List.{with_items_is}
use Rattle.std.specs.Vec.{with_items, with_item}
use Rattle.bt_machine.proofs.Shape.{map_set}
use Rattle.bt_machine.specs.declared.answer.Note.{Note}
use Rattle.bt_engine_state.proofs.Lists.{get_read}
use Rattle.bt_engine_state.specs.Ties.{IsTied}
use Rattle.bt_engine_state.specs.Parts.{state_of}
use Rattle.bt_engine_state.specs.declared.parts.Parts.{Parts}
use Rattle.bt_engine_state.specs.declared.peer.Peer.{Peer}
use Rattle.bt_engine_messages.specs.HashesSteps.{IsBehind}
use Rattle.bt_engine_messages.proofs.Learnings.{if_err_by}
use Rattle.bt_engine_messages.specs.NoteRooms.{note_count}
use Rattle.bt_engine_messages.specs.declared.learning.Learnt.{Learnt}
use Rattle.bt_engine_messages.specs.declared.learning.Learnt.TheVariants.{Refused, Settled}
use Rattle.bt_engine_messages.proofs.HashEvents.{fits_lent, numbered_lent, leads_lent, idle_lent, changes_of, parts_kept, takes_refused, room_of, notes_behind, tied_learnt, takes_learnt}
use Rattle.bt_engine_messages.proofs.hashes.take_hashes.Goals as goal

pub learn_hashes-requires-clause-fit : goal.learn_hashes-requires-clause-fit
learn_hashes-requires-clause-fit g c =
    fits_lent c.args.parts.now c.deref_mut-2.result.now c.deref_mut.result.now c.deref_mut-2.ensures.value c.deref_mut.ensures.value c.requires.tied

pub learn_hashes-requires-clause-numbered : goal.learn_hashes-requires-clause-numbered
learn_hashes-requires-clause-numbered g c = numbered_lent c.args.parts.now c.deref_mut-2.result.now c.deref_mut-2.ensures.value c.requires.tied

pub learn_hashes-requires-clause-lead : goal.learn_hashes-requires-clause-lead
learn_hashes-requires-clause-lead g c =
    leads_lent c.args.parts.now c.deref_mut-2.result.now c.deref_mut.result.now c.deref_mut-2.ensures.value c.deref_mut.ensures.value c.requires.tied c.requires.shaped

pub learn_hashes-requires-clause-idle : goal.learn_hashes-requires-clause-idle
learn_hashes-requires-clause-idle g c = λ none. idle_lent c.args.parts.now c.deref_mut.result.now c.deref_mut.ensures.value c.requires.tied none

pub returns-in_err-why-clause-kept : goal.returns-in_err-why-clause-kept
returns-in_err-why-clause-kept g c =
    let old = c.args.parts.now in
    let n = c.learn_hashes.new in
    if_err_by c.from_residual-in_err-why.result
    (parts_kept old n.trees n.slots (c.learn_hashes.auto.trees ∙ c.deref_mut-2.ensures.len) (c.in_err-why.ensures.trees ∙ c.deref_mut-2.ensures.value)
    (c.learn_hashes.auto.slots ∙ c.deref_mut.ensures.len) (c.in_err-why.ensures.slots ∙ c.deref_mut.ensures.value))

pub returns-in_err-why-clause-rest : goal.returns-in_err-why-clause-rest
returns-in_err-why-clause-rest g c =
    let old = c.args.parts.now in
    let n = c.learn_hashes.new in
    let same = parts_kept old n.trees n.slots (c.learn_hashes.auto.trees ∙ c.deref_mut-2.ensures.len) (c.in_err-why.ensures.trees ∙ c.deref_mut-2.ensures.value)
    (c.learn_hashes.auto.slots ∙ c.deref_mut.ensures.len) (c.in_err-why.ensures.slots ∙ c.deref_mut.ensures.value) in
    record { torrent = refl; log = refl; tied = subst (λ (x : Parts g.row.D.Denot g.row.H.Denot). IsTied x) (sym same) c.requires.tied }

pub returns-in-Refused-clause-takes : goal.returns-in-Refused-clause-takes
returns-in-Refused-clause-takes g c =
    let d = g.D.Disk in
    let dig = g.H.NodeHash.digest in
    let old = c.args.parts.now in
    let n = c.learn_hashes.new in
    let changes = changes_of d.conduct dig c.args.key.now c.args.digests.now c.in_ok-hint.hint old c.deref_mut-2.result.now c.deref_mut.result.now
    c.in_ok-why.field-0 (Refused c.in-Refused.why) n.trees n.slots c.deref_mut-2.ensures.value c.deref_mut.ensures.value c.in-Refused.is c.in_ok-why.ensures.changes in
    let same = parts_kept old n.trees n.slots (c.learn_hashes.auto.trees ∙ c.deref_mut-2.ensures.len) changes.1
    (c.learn_hashes.auto.slots ∙ c.deref_mut.ensures.len) changes.2 in
    takes_refused d.conduct dig c.args.key.now c.args.digests.now old
    (record old { trees = with_items old.trees n.trees; slots = with_items old.slots n.slots }) c.args.index c.in-Refused.why same changes.0

pub returns-in-Refused-clause-rest : goal.returns-in-Refused-clause-rest
returns-in-Refused-clause-rest g c =
    let d = g.D.Disk in
    let old = c.args.parts.now in
    let n = c.learn_hashes.new in
    let changes = changes_of d.conduct g.H.NodeHash.digest c.args.key.now c.args.digests.now c.in_ok-hint.hint old c.deref_mut-2.result.now c.deref_mut.result.now
    c.in_ok-why.field-0 (Refused c.in-Refused.why) n.trees n.slots c.deref_mut-2.ensures.value c.deref_mut.ensures.value c.in-Refused.is c.in_ok-why.ensures.changes in
    let same = parts_kept old n.trees n.slots (c.learn_hashes.auto.trees ∙ c.deref_mut-2.ensures.len) changes.1
    (c.learn_hashes.auto.slots ∙ c.deref_mut.ensures.len) changes.2 in
    record { torrent = refl; log = refl; tied = subst (λ (x : Parts g.row.D.Denot g.row.H.Denot). IsTied x) (sym same) c.requires.tied }

pub follow_notes-requires : goal.follow_notes-requires
follow_notes-requires g c =
    let d = g.D.Disk in
    let dig = g.H.NodeHash.digest in
    let key = c.args.key.now in
    let digests = c.args.digests.now in
    let old = c.args.parts.now in
    let n = c.learn_hashes.new in
    let notes = c.in-Settled.notes in
    let changes = changes_of d.conduct dig key digests c.in_ok-hint.hint old c.deref_mut-2.result.now c.deref_mut.result.now
    c.in_ok-why.field-0 (Settled notes c.in-Settled.kept) n.trees n.slots c.deref_mut-2.ensures.value c.deref_mut.ensures.value c.in-Settled.is c.in_ok-why.ensures.changes in
    let l = changes.0 in
    let next : Parts g.row.D.Denot g.row.H.Denot = record old { trees = with_items old.trees n.trees; slots = with_items old.slots n.slots } in
    let p = c.index_mut-peer.result.now in
    let q : Peer = record p { hash = c.resolved_hash_state-peer.result } in
    let mid = state_of (record next { peers = with_item old.peers c.args.index q }) in (
      mid,
      refl,
      subst (λ (ns : List Note). IsBehind old.book.wanted old.counts ns mid) (sym c.deref.ensures.value)
          (notes_behind d.conduct dig key digests old c.requires.tied notes n.trees n.slots l next c.args.index q
          (get_read old.peers.items c.args.index p c.requires.there c.index_mut-peer.ensures.value) refl
          (with_items_is old.trees n.trees (c.learn_hashes.auto.trees ∙ c.deref_mut-2.ensures.len))
          (with_items_is old.slots n.slots (c.learn_hashes.auto.slots ∙ c.deref_mut.ensures.len)) c.requires.shaped),
    )

pub returns-in-Settled-clause-takes : goal.returns-in-Settled-clause-takes
returns-in-Settled-clause-takes g c =
    let d = g.D.Disk in
    let dig = g.H.NodeHash.digest in
    let key = c.args.key.now in
    let digests = c.args.digests.now in
    let old = c.args.parts.now in
    let n = c.learn_hashes.new in
    let notes = c.in-Settled.notes in
    let changes = changes_of d.conduct dig key digests c.in_ok-hint.hint old c.deref_mut-2.result.now c.deref_mut.result.now
    c.in_ok-why.field-0 (Settled notes c.in-Settled.kept) n.trees n.slots c.deref_mut-2.ensures.value c.deref_mut.ensures.value c.in-Settled.is c.in_ok-why.ensures.changes in
    let l = changes.0 in
    let next : Parts g.row.D.Denot g.row.H.Denot =
    record old { trees = with_items old.trees n.trees; slots = with_items old.slots n.slots; book = c.follow_notes.new.book; counts = c.follow_notes.new.counts } in
    let p = c.index_mut-peer.result.now in
    let q : Peer = record p { hash = c.resolved_hash_state-peer.result } in
    takes_learnt d.conduct dig key digests old c.requires.tied notes n.trees n.slots l next c.args.index q
    (get_read old.peers.items c.args.index p c.requires.there c.index_mut-peer.ensures.value) refl
    (with_items_is old.trees n.trees (c.learn_hashes.auto.trees ∙ c.deref_mut-2.ensures.len))
    (with_items_is old.slots n.slots (c.learn_hashes.auto.slots ∙ c.deref_mut.ensures.len))
    c.resolved_hash_state-peer.result refl c.resolved_hash_state-peer.ensures c.follow_notes.ensures.asked
    c.in_ok-hint.hint c.in-Settled.kept c.in_ok-hint.ensures.value changes.1

pub returns-in-Settled-clause-few : goal.returns-in-Settled-clause-few
returns-in-Settled-clause-few g c = λ room enough.
    subst (λ (learnt : Learnt). note_count learnt ≤ room) c.in-Settled.is
    (c.in_ok-why.ensures.few room
    (room_of c.args.parts.now c.deref_mut-2.result.now c.deref_mut.result.now c.args.key.now room c.deref_mut-2.ensures.value c.deref_mut.ensures.value enough))

pub returns-in-Settled-clause-keys : goal.returns-in-Settled-clause-keys
returns-in-Settled-clause-keys g c =
    let old = c.args.parts.now in
    let p = c.index_mut-peer.result.now in
    let q : Peer = record p { hash = c.resolved_hash_state-peer.result } in
    record {
      keys = map_set (λ (r : Peer). r.key) old.peers.items c.args.index q (get_read old.peers.items c.args.index p c.requires.there c.index_mut-peer.ensures.value) refl;
      len = refl;
    }

pub returns-in-Settled-clause-rest : goal.returns-in-Settled-clause-rest
returns-in-Settled-clause-rest g c =
    let d = g.D.Disk in
    let dig = g.H.NodeHash.digest in
    let key = c.args.key.now in
    let digests = c.args.digests.now in
    let old = c.args.parts.now in
    let n = c.learn_hashes.new in
    let notes = c.in-Settled.notes in
    let changes = changes_of d.conduct dig key digests c.in_ok-hint.hint old c.deref_mut-2.result.now c.deref_mut.result.now
    c.in_ok-why.field-0 (Settled notes c.in-Settled.kept) n.trees n.slots c.deref_mut-2.ensures.value c.deref_mut.ensures.value c.in-Settled.is c.in_ok-why.ensures.changes in
    let l = changes.0 in
    let next : Parts g.row.D.Denot g.row.H.Denot =
    record old { trees = with_items old.trees n.trees; slots = with_items old.slots n.slots; book = c.follow_notes.new.book; counts = c.follow_notes.new.counts } in
    let p = c.index_mut-peer.result.now in
    let q : Peer = record p { hash = c.resolved_hash_state-peer.result } in
    record {
      torrent = refl;
      log = refl;
      tied = tied_learnt d.conduct dig key digests old c.requires.tied notes n.trees n.slots l next c.args.index q
          (get_read old.peers.items c.args.index p c.requires.there c.index_mut-peer.ensures.value) refl
          (with_items_is old.trees n.trees (c.learn_hashes.auto.trees ∙ c.deref_mut-2.ensures.len))
          (with_items_is old.slots n.slots (c.learn_hashes.auto.slots ∙ c.deref_mut.ensures.len)) c.requires.shaped c.follow_notes.ensures.peers
          (λ s same behind. c.follow_notes.ensures.followed s same (subst (λ (ns : List Note). IsBehind old.book.wanted old.counts ns s) (sym c.deref.ensures.value) behind));
    }
