use Rattle.std.proofs.Common.{◌+◌, ◌-◌, ◌^◌, vec_len}
use Rattle.bt_check.proofs.TorrentFileText.{IsText}
use Rattle.bt_check.proofs.torrent_file.read_text.Given as goal

abbrev pub invariant-loop-text : goal.invariant-loop-text
invariant-loop-text g l = IsText (g.R.Read.remaining l.initial.reader) (g.R.Read.remaining l.reader) (2 ^ 27 + 1) l.text.items

abbrev pub decreases-loop-text : goal.decreases-loop-text
decreases-loop-text g l = 2 ^ 27 + 1 - vec_len l.text
