use Rattle.std.proofs.Common.{◌≡◌, ◌+◌, ◌-◌, ◌^◌, ◌≤◌, rules, length}
use Rattle.bt_check.proofs.TorrentFileText.{text_ended, text_full, text_told}
use Rattle.bt_check.proofs.torrent_file.read_text.Goals as goal

pub returns-then-count-wanted-clause-told : goal.returns-then-count-wanted-clause-told
returns-then-count-wanted-clause-told g c =
    let size : length c.fill.new.buffer ≡ c.min-wanted.result = search rules in
    let room : c.min-wanted.result ≤ (2 ^ 27 + 1) - length c.loop-text.text.items = search rules in
    text_told _ _ (2 ^ 27 + 1) _ (text_ended _ _ _ (2 ^ 27 + 1) c.in_ok-count.count c.min-wanted.result c.loop-text.text.items
    c.fill.new.buffer _ c.loop-text.invariant size room c.if-count-wanted.true c.in_ok-count.ensures.given
    c.in_ok-extend_from_slice.ensures.items)

pub returns-clause-told : goal.returns-clause-told
returns-clause-told g c =
    let full : 2 ^ 27 + 1 ≤ length c.loop-text.text.items = search rules in
    text_told _ _ (2 ^ 27 + 1) _ (text_full _ _ (2 ^ 27 + 1) _ c.loop-text.invariant full)
