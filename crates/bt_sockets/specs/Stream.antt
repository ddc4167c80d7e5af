-- What is read from a connection, and what is written to it.
use Rattle.std.specs.Prelude.{◌≡◌, List}
use Rattle.bt_wire.specs.declared.message.Ask.{Ask}
use Rattle.bt_connection.specs.ReadAhead.{new_reader as read_ahead, ReaderState as AheadState}
use Rattle.bt_connection.specs.Padded.{new_padded, PaddedState}
use Rattle.bt_connection.specs.declared.translation.Side.TheVariants.{Peer, Engine}

-- A reader and a writer are those of a connection's beginning: the reader reads this socket, and of it nothing has
-- come, waits or was translated; the writer writes to a socket, and has got nothing. Both know these short
-- blocks.
pub record AreNewWays {S : Type 0} (short_blocks : List Ask) (socket : S)
    (reader : PaddedState (AheadState S)) (writer : PaddedState S) : Type 0 where
  pub written_to : S
  pub reads : reader ≡ new_padded Peer (read_ahead socket) short_blocks
  pub writes : writer ≡ new_padded Engine written_to short_blocks

-- a reader and a writer are those of a connection's beginning, at some socket
abbrev pub AreNew : {S : Type 0} → List Ask → PaddedState (AheadState S) → PaddedState S → Type 0
AreNew {S} short_blocks reader writer = (socket : S) × AreNewWays short_blocks socket reader writer
