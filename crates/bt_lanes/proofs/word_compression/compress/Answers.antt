use Rattle.std.proofs.Common.{◌≡◌, ℕ, ◌+◌, ◌*◌, length, rules, arith, refl, ap}
use Rattle.sha2.specs.Sha256.{add_state, compress, rounds, schedule}
use Rattle.bt_lanes.proofs.SingleRounds.{eight_words, round_more}
use Rattle.bt_lanes.proofs.word_compression.compress.Goals as goal

pub rounds-init : goal.rounds-init
unfolding rounds
rounds-init c = λ block words.
    let size : length c.args.value ≡ 8 = search rules in
    eight_words c.args.value size

pub rounds-preserved : goal.rounds-preserved
rounds-preserved c = λ block words.
    let value = c.args.value in
    let ws = schedule block 48 in
    let t : ℕ = 8 * c.rounds.eight_rounds in
    let one = round_more value ws t (t + 1) refl (c.rounds.invariant block words) (words t (omega arith)) c.temp1-one.ensures c.temp2.ensures in
    let two = round_more value ws (t + 1) (t + 2) (omega arith) one (words (t + 1) (omega arith)) c.temp1-two.ensures c.temp2-in-rounds.ensures in
    let three = round_more value ws (t + 2) (t + 3) (omega arith) two (words (t + 2) (omega arith)) c.temp1-three.ensures c.temp2-in-rounds-2.ensures in
    let four = round_more value ws (t + 3) (t + 4) (omega arith) three (words (t + 3) (omega arith)) c.temp1-four.ensures c.temp2-in-rounds-3.ensures in
    let five = round_more value ws (t + 4) (t + 5) (omega arith) four (words (t + 4) (omega arith)) c.temp1-five.ensures c.temp2-in-rounds-4.ensures in
    let six = round_more value ws (t + 5) (t + 6) (omega arith) five (words (t + 5) (omega arith)) c.temp1-six.ensures c.temp2-in-rounds-5.ensures in
    let seven = round_more value ws (t + 6) (t + 7) (omega arith) six (words (t + 6) (omega arith)) c.temp1-seven.ensures c.temp2-in-rounds-6.ensures in
    round_more value ws (t + 7) (8 * (c.rounds.eight_rounds + 1)) (omega arith) seven (words (t + 7) (omega arith)) c.temp1-eight.ensures c.temp2-in-rounds-7.ensures

pub returns : goal.returns
unfolding compress
returns c = λ block words.
    let done : c.rounds.eight_rounds ≡ 8 = omega arith in
    ap (add_state c.args.value) (rw done at (c.rounds.invariant block words))
