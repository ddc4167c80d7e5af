use Rattle.std.proofs.Common.{◌≡◌, drop}
use Rattle.bt_book.specs.Book.{asked_of, peers_of}
use Rattle.bt_book.specs.declared.names.PeerKey.{PeerKey}
use Rattle.bt_machine.specs.State.{EngineState}
use Rattle.bt_engine_messages.specs.HashesSteps.{IsBehind}
use Rattle.bt_engine_messages.proofs.hashes.follow_notes.Given as goal

abbrev pub invariant-loop-note : goal.invariant-loop-note
invariant-loop-note l = record {
  behind : (s : EngineState) → s.torrent ≡ l.torrent → IsBehind l.fn.book.wanted l.fn.counts l.notes s
      → IsBehind l.book.wanted l.counts (drop l.note-index l.notes) s;
  asked : (key : PeerKey) → asked_of l.book key ≡ asked_of l.fn.book key;
  peers : peers_of l.book ≡ peers_of l.fn.book;
}
