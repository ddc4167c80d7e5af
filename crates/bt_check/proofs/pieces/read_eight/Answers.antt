use Rattle.std.proofs.Common.{◌≡◌, length, rules, refl}
use Rattle.bt_check.proofs.PieceRuns.{eight_given}
use Rattle.bt_check.proofs.ReaderNode.{all_came}
use Rattle.bt_check.proofs.pieces.read_eight.Goals as goal

pub returns : goal.returns
returns g c = λ file_length index fits.
    let size : length c.fill.new.buffer ≡ 131072 = search rules in
    let came = all_came _ _ _ _ c.fill.new.buffer size c.if-branch-lt-BUFFER_LEN.false c.in_ok-fill.ensures.given in
    eight_given _ _ file_length c.args.layer index c.fill.new.buffer c.blocks8-blocks.result _ c.requires (search rules) refl size came
    c.blocks8-blocks.ensures c.row_above.ensures fits
