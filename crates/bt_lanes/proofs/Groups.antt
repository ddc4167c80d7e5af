-- The groups of eight in a list of messages, and the digests that were written for them.
use Rattle.std.proofs.Common.{◌≡◌, ℕ, zero, suc, ◌+◌, ◌*◌, ◌<◌, ◌≤◌, List, [], ◌++◌, Bor, length, take, drop, map, slice_index_or, arith, refl, sym, ap, ◌∙◌}
use Rattle.std.proofs.Math.Seq.{take-add}
use Rattle.std.proofs.lemmas.List.{ext_get_or, get_or-map, length-map, map-append, drop-drop}
use Rattle.std.proofs.lemmas.Slice.{take-put_mid}
use Rattle.std.specs.Simd.{first_chunks}
use borrow.Rule.Slice.PartMut.{put_mid}
use Rattle.sha2.specs.Sha256.{sha256}
use Rattle.bt_lanes.specs.LaneSteps.{message_at}
use Rattle.bt_lanes.proofs.BlockWords.{message_at_is}

-- the digests of messages
abbrev pub digests_of : List (Bor (List ℕ)) → List (List ℕ)
digests_of messages = map (λ message. sha256 message.now) messages

-- group k of eight
pub group_at : {X : Type 0} (count : ℕ) (xs : List X) (k : ℕ) → k < count → slice_index_or (first_chunks 8 count xs) k [] ≡ take 8 (drop (8 * k) xs)
group_at zero xs k lt = absurd (omega arith)
group_at (suc count) xs zero lt = refl
group_at (suc count) xs (suc k) lt =
    let start : 8 + 8 * k ≡ 8 * suc k = omega arith in
    group_at count (drop 8 xs) k (omega arith) ∙ ap (take 8) (drop-drop (8 * k) 8 xs) ∙ ap (λ (n : ℕ). take 8 (drop n xs)) start

-- digests that are each message's own
pub digests_of_each : (messages : List (Bor (List ℕ))) (digests : List (List ℕ)) → length digests ≡ length messages
    → ((j : ℕ) → j < length digests → slice_index_or digests j [] ≡ sha256 (message_at messages j)) → digests ≡ digests_of messages
digests_of_each messages digests count each =
    let digest = λ (message : Bor (List ℕ)). sha256 message.now in
    ext_get_or [] digests (digests_of messages) (count ∙ sym (length-map messages digest)) (λ j lt.
    each j lt ∙ ap sha256 (message_at_is messages j)
    ∙ sym (get_or-map digest messages j (record { ref_ptr = (0, 0); now = [] }) [] (omega arith)))

-- a group more is written
pub group_written : (messages : List (Bor (List ℕ))) (out digests : List (List ℕ)) (k n : ℕ) → length digests ≡ 8 → 8 * k ≤ length out
    → take (8 * k) out ≡ digests_of (take (8 * k) messages) → digests ≡ digests_of (take 8 (drop (8 * k) messages))
    → take (8 * (k + 1)) (put_mid (8 * k) n out digests) ≡ digests_of (take (8 * (k + 1)) messages)
group_written messages out digests k n eight within before now =
    let digest = λ (message : Bor (List ℕ)). sha256 message.now in
    let front = take (8 * k) messages in
    let group = take 8 (drop (8 * k) messages) in
    let next : 8 * k + 8 ≡ 8 * (k + 1) = omega arith in
    take-put_mid (8 * k) n out digests (8 * (k + 1)) (omega arith) within
    ∙ ap (λ (x : List (List ℕ)). x ++ digests) before ∙ ap (λ (x : List (List ℕ)). digests_of front ++ x) now
    ∙ sym (map-append digest front group) ∙ ap digests_of (sym (take-add (8 * k) 8 messages)) ∙ ap (λ (i : ℕ). digests_of (take i messages)) next
