-- The words of a message block, and the bytes of a message.
use Rattle.std.proofs.Common.{◌≡◌, ℕ, ◌<◌, ◌≤◌, ◌+◌, ◌*◌, List, [], length, length-drop, take, drop, slice_index, slice_index_or, Bor, arith, refl, ap, ◌∙◌}
use Rattle.std.proofs.lemmas.List.{get_or-take, get_or-drop, length-take-le}
use Rattle.std.proofs.Math.ListN.{get_or-map}
use Rattle.sha2.specs.Sha256.{word_at}
use Rattle.bt_lanes.specs.LaneSteps.{message_at}

-- what message j refers to
pub message_at_is : (messages : List (Bor (List ℕ))) (j : ℕ)
    → message_at messages j ≡ (slice_index_or messages j (record { ref_ptr = (0, 0); now = [] })).now
message_at_is messages j = get_or-map (λ (message : Bor (List ℕ)). message.now) messages j (record { ref_ptr = (0, 0); now = [] })

byte_at : (message : List ℕ) (at i n : ℕ) → i < 64 → at + i ≡ n → slice_index (take 64 (drop at message)) i ≡ slice_index message n
byte_at message at i n lt e =
    get_or-take 64 (drop at message) i 0 lt ∙ get_or-drop at message i 0 ∙ ap (λ (k : ℕ). slice_index message k) e

-- word k of the message block at a byte
pub word_at-block : (message : List ℕ) (at k : ℕ) → k < 16 → word_at (take 64 (drop at message)) (4 * k) ≡ word_at message (at + 4 * k)
word_at-block message at k lt =
    let b0 = byte_at message at (4 * k) (at + 4 * k) (omega arith) refl in
    let b1 = byte_at message at (4 * k + 1) (at + 4 * k + 1) (omega arith) (omega arith) in
    let b2 = byte_at message at (4 * k + 2) (at + 4 * k + 2) (omega arith) (omega arith) in
    let b3 = byte_at message at (4 * k + 3) (at + 4 * k + 3) (omega arith) (omega arith) in
    rw (b0, b1, b2, b3) refl

pub block_size : (bytes block : List ℕ) (i : ℕ) → block ≡ take 64 (drop (i * 64) bytes) → i * 64 + 64 ≤ length bytes → length block ≡ 64
block_size bytes block i is within = ap length is ∙ length-take-le 64 (drop (i * 64) bytes) (omega (arith, length-drop (i * 64) bytes))
