-- The lines of the files so far are written.
use Rattle.std.proofs.Common.{take}
use Rattle.bt_check.proofs.ShowText.{IsShowing}
use Rattle.bt_check.proofs.show.show_torrent.Given as goal

abbrev pub invariant-loop-file : goal.invariant-loop-file
invariant-loop-file g l = IsShowing (g.W.Write.contents l.fn.writer) (g.W.Write.contents l.writer) l.torrent (take l.file-index l.files)
