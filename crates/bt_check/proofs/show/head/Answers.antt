use Rattle.std.proofs.Common.{ap, ◌∙◌}
use Rattle.std.proofs.lemmas.Result.{IfOk-weaker}
use Rattle.hex.specs.Hex.{encode_lower}
use Rattle.bt_check.specs.Display.{display_text}
use Rattle.bt_check.proofs.ShowText.{head_printed, count_is}
use Rattle.bt_check.proofs.show.head.Goals as goal

pub returns : goal.returns
returns c =
    let lines = head_printed c.args.torrent.now _ _ _ _ _ (c.in_ok-name.ensures ∙ ap display_text c.name.ensures) (c.in_ok-infohash.ensures ∙ ap encode_lower c.infohash.ensures)
    c.piece_length-piece_length.ensures.said c.pieces-pieces.ensures.counted (count_is c.files.result.now c.args.torrent.now.files c.files.ensures.said) in
    IfOk-weaker c.format.result _ _ (λ s h. h ∙ lines) c.format.ensures.ok
