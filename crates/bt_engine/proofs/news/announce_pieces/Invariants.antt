use Rattle.std.proofs.Common.{◌≡◌, ◌+◌, ◌*◌, ◌≤◌, ◌++◌, drop, length, vec_len, vec_capacity}
use Rattle.bt_engine_state.specs.Parts.{state_of}
use Rattle.bt_engine.specs.NewsSteps.{marked_piece, haves_of, haves_by}
use Rattle.bt_engine.proofs.Announcements.{said}
use Rattle.bt_engine.proofs.news.announce_pieces.Given as goal

abbrev pub invariant-loop-note : goal.invariant-loop-note
invariant-loop-note g l =
    (l.send.items ++ said (haves_of (state_of l.parts)) (marked_piece l.parts.torrent) l.last (drop l.note-index l.notes)
    ≡ l.initial.send.items ++ haves_by (state_of l.parts) l.notes)
    × (vec_len l.send ≤ vec_len l.initial.send + l.note-index * length l.parts.peers.items) × (vec_capacity l.initial.send ≤ vec_capacity l.send)
