use Rattle.std.proofs.Common.{◌≡◌, ℕ, List, [], Bor, length, slice_index_or, ap, ◌∙◌, arith}
use Rattle.std.specs.Prelude.{All}
use Rattle.std.proofs.lemmas.List.Elements.{All-get_or}
use Rattle.bt_lanes.proofs.BlockWords.{message_at_is}
use Rattle.bt_lanes.proofs.many.digest_group.Goals as goal

pub digest_eight-requires : goal.digest_eight-requires
digest_eight-requires c = λ j lt.
    let messages = c.args.messages.now in
    let none : Bor (List ℕ) = record { ref_ptr = (0, 0); now = [] } in
    let long : length messages ≡ 8 = c.told-messages in
    let first = length (slice_index_or messages 0 none).now in
    let all : All (λ message. length message.now ≡ first) messages = c.have_length.ensures.0 c.if-have_length.true in
    ap (λ (bytes : List ℕ). length bytes) (message_at_is messages j)
    ∙ All-get_or (λ (message : Bor (List ℕ)). length message.now ≡ first) messages j none (omega arith) all
