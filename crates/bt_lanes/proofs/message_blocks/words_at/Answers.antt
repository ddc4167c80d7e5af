use Rattle.std.proofs.Common.{◌≡◌, ℕ, ◌+◌, ◌*◌, [], ◌∷◌, sym, ap, ◌∙◌}
use Rattle.sha2.specs.Sha256.{word_at}
use Rattle.bt_lanes.specs.LaneSteps.{lane_word, message_at}
use Rattle.bt_lanes.proofs.LaneWords.{below_eight}
use Rattle.bt_lanes.proofs.BlockWords.{message_at_is}
use Rattle.bt_lanes.proofs.message_blocks.words_at.Goals as goal

pub returns : goal.returns
returns c = λ i j lti lt.
    let messages = c.args.messages.now in
    let word = λ (k : ℕ). ap (λ m. word_at m (c.args.at + 4 * i)) (sym (message_at_is messages k)) in
    c.transpose.ensures i j lti lt ∙ below_eight (λ (j : ℕ). lane_word (c.row_at.result ∷ c.row_at-2.result ∷ c.row_at-3.result ∷ c.row_at-4.result ∷ c.row_at-5.result ∷ c.row_at-6.result ∷ c.row_at-7.result ∷ c.row_at-8.result ∷ []) j i ≡ word_at (message_at messages j) (c.args.at + 4 * i))
    (c.row_at.ensures i lti ∙ word 0)
    (c.row_at-2.ensures i lti ∙ word 1)
    (c.row_at-3.ensures i lti ∙ word 2)
    (c.row_at-4.ensures i lti ∙ word 3)
    (c.row_at-5.ensures i lti ∙ word 4)
    (c.row_at-6.ensures i lti ∙ word 5)
    (c.row_at-7.ensures i lti ∙ word 6)
    (c.row_at-8.ensures i lti ∙ word 7) j lt
