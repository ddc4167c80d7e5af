use Rattle.std.proofs.Common.{◌≡◌, ◌+◌, ◌≤◌, ◌++◌, map, take, vec_len, vec_capacity}
use Rattle.bt_engine.proofs.Announcements.{have_to}
use Rattle.bt_engine.proofs.news.announce_piece.Given as goal

abbrev pub invariant-loop-peer : goal.invariant-loop-peer
invariant-loop-peer g l =
    (l.send.items ≡ l.initial.send.items ++ map (have_to l.piece) (take l.peer-index l.peer-items))
    × (vec_len l.send ≡ vec_len l.initial.send + l.peer-index) × (vec_capacity l.initial.send ≤ vec_capacity l.send)
