use Rattle.std.proofs.Common.{◌≡◌, ◌+◌, ◌≤◌, ◌++◌, map, take, drop}
use Rattle.std.specs.Prelude.{flat_map}
use Rattle.std.specs.Vec.{vec_len, vec_capacity}
use Rattle.bt_book.specs.Book.{BookState}
use Rattle.bt_engine_after.specs.ServingSteps.{served_peer, served_sent}
use Rattle.bt_engine_after.proofs.serving.choke_and_unchoke.Given as goal

abbrev pub invariant-loop-peer : goal.invariant-loop-peer
invariant-loop-peer l = record {
  peers : l.peers ≡ map (served_peer l.served) (take l.peer-index l.fn.peers) ++ drop l.peer-index l.fn.peers;
  sent : (book : BookState) → l.send.items ≡ l.fn.send.items ++ flat_map (served_sent book l.served) (take l.peer-index l.fn.peers);
  few : vec_len l.send ≤ vec_len l.fn.send + l.peer-index;
  capacity : vec_capacity l.fn.send ≤ vec_capacity l.send;
}
