-- What is read from a connection at a gate, and what is written to it.
use Rattle.std.specs.Prelude.{◌≡◌, List, []}
use Rattle.bt_wire.specs.declared.message.Ask.{Ask}
use Rattle.bt_connection.specs.ReadAhead.{new_reader as read_ahead, ReaderState as AheadState}
use Rattle.bt_connection.specs.Padded.{new_padded, PaddedState}
use Rattle.bt_connection.specs.Queue.{Waiting}
use Rattle.bt_connection.specs.declared.translation.Side.TheVariants.{Peer, Engine}

-- nothing waits before this writer
abbrev pub no_queue : {S : Type 0} → S → Waiting S
no_queue socket = record { inner = socket; bytes = [] }

-- A reader and a writer are those of a connection's beginning: of its socket nothing has come, waits or was
-- translated, and nothing waits to go out. Both know these short blocks.
pub record AreNew {S : Type 0} (short_blocks : List Ask) (reader : PaddedState (AheadState S))
    (writer : PaddedState (Waiting S)) : Type 0 where
  pub read_from : S
  pub written_to : S
  pub reads : reader ≡ new_padded Peer (read_ahead read_from) short_blocks
  pub writes : writer ≡ new_padded Engine (no_queue written_to) short_blocks
