use Rattle.bt_sockets.proofs.timing.Times.other_came.Goals as goal

pub returns : goal.returns
returns c = (c.note_kind.new.self, c.note_kind.ensures, c.look_for_block.ensures)
