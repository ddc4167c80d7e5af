use Rattle.std.proofs.Common.{rules}
use Rattle.bt_disk.specs.OpenHandles.{last_closed}
use Rattle.bt_disk.proofs.open_handles.OpenHandles.make_room.Goals as goal

pub returns-in-Some-clause-made : goal.returns-in-Some-clause-made
returns-in-Some-clause-made g c =
    last_closed c.pop_back.new.self.items c.in-Some.handle (search rules) (search rules) (search rules)
