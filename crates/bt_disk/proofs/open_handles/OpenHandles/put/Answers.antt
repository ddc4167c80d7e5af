use Rattle.std.proofs.Common.{rules}
use Rattle.bt_disk.proofs.open_handles.OpenHandles.put.Goals as goal

pub returns : goal.returns
returns g c = record { room = c.make_room.new.self; made = c.make_room.ensures.made; put = search rules }
