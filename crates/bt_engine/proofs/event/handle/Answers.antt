use Rattle.std.proofs.Common.{[], refl}
use Rattle.bt_engine_state.specs.Parts.{disks_of}
use Rattle.bt_engine_state.proofs.DeviceCalls.{have_none}
use Rattle.bt_engine_messages.proofs.KeptHints.{keeps_none}
use Rattle.bt_engine.proofs.event.handle.Goals as goal

pub returns-in-Piece-clause-handled : goal.returns-in-Piece-clause-handled
returns-in-Piece-clause-handled g c = rw (c.in-Message.is, c.in-Piece.is) (rw c.as_slice.ensures at c.take_piece.ensures.takes)

pub returns-in_ok-message-in-HashRequest-clause-handled : goal.returns-in_ok-message-in-HashRequest-clause-handled
returns-in_ok-message-in-HashRequest-clause-handled g c =
    rw (c.in-Message.is, c.in-HashRequest.is) (record {
      calls = [];
      proofs = [];
      made = have_none g.D.Disk.conduct (disks_of c.args.parts.now);
      handles = λ p here. c.in_ok-message-in-HashRequest.ensures c.args.index p;
      keeps = keeps_none c.args.parts.now refl;
    })

pub returns-in-Hashes-clause-handled : goal.returns-in-Hashes-clause-handled
returns-in-Hashes-clause-handled g c = rw (c.in-Message.is, c.in-Hashes.is) (rw c.as_slice-in-Hashes.ensures at c.take_hashes.ensures.takes)
