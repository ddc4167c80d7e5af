use Rattle.std.proofs.Common.{rules}
use Rattle.bt_session.proofs.frames.write_frames.Goals as goal

pub returns-in-Ok : goal.returns-in-Ok
returns-in-Ok g c = search rules
