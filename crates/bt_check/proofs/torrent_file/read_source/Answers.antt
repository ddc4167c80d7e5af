use Rattle.std.proofs.Common.{rules}
use Rattle.bt_check.proofs.torrent_file.read_source.Goals as goal

pub returns-in_err-read_torrent-clause-refusal : goal.returns-in_err-read_torrent-clause-refusal
returns-in_err-read_torrent-clause-refusal g c = search rules

pub returns-clause-torrent : goal.returns-clause-torrent
returns-clause-torrent g c = search rules
