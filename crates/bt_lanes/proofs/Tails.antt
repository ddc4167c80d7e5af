-- The tail of a message: its bytes after the last whole message block and its padding. Its digest from there.
use Rattle.std.proofs.Common.{◌≡◌, ℕ, zero, suc, ◌≤◌, ◌+◌, ◌-◌, ◌*◌, ◌/◌, ◌%◌, ◌^◌, List, [], ◌∷◌, ◌++◌, length, take, drop, replicate, slice_set}
use Rattle.std.proofs.Common.{arith, refl, sym, ap, ◌∙◌, length-append, length-drop, add-zero}
use Rattle.std.proofs.Math.Nat.{add-suc}
use Rattle.std.proofs.lemmas.List.{append_assoc, drop-replicate, replicate-append-replicate, length-replicate, set_at, take_at, drop_at}
use Rattle.std.proofs.lemmas.List.{drop_all, drop-drop, take-append-drop, length-take-le}
use Rattle.std.proofs.lemmas.Slice.{take-put_mid}
use Rattle.std.specs.Int.{w64, to_be_bytes}
use borrow.Rule.Slice.PartMut.{put_mid, post_of}
use Rattle.sha2.specs.Sha256.{final_hash, hash_after, padded_message, padding}
use Rattle.sha2.proofs.Absorbing256.{hash_after-append}
use Rattle.bt_lanes.specs.PaddingSteps.{tail_block_count, IsTail}

length-put_mid : (a k : ℕ) (xs ys : List ℕ) → a + k ≤ length xs → length ys ≡ k → length (put_mid a k xs ys) ≡ length xs
length-put_mid a k xs ys fits e =
    let back : List ℕ = post_of a k xs in
    let behind : length back ≡ length xs - a - k = omega (arith, length-drop k (drop a xs), length-drop a xs) in
    omega (arith, length-append (take a xs) (ys ++ back), length-append ys back, length-take-le a xs (omega arith), behind)

-- the rest of a message over zeros, the byte 0x80 after it, and the length in bits at the end of block `count`
pub IsTail_of : (message rest bits : List ℕ) (count i j : ℕ) → rest ≡ drop (length message / 64 * 64) message
    → count ≡ tail_block_count (length message) → i ≡ length message % 64 → j ≡ 8 → bits ≡ to_be_bytes w64 (length message * 8 % 2 ^ 64)
    → IsTail message (put_mid (64 * count - 8) j (slice_set (rest ++ post_of 0 i (replicate 128 0)) (length message % 64) 0x80) bits)
IsTail_of message rest bits count i j er ec ei ej eb =
    let used : ℕ = length message % 64 in
    let fill : ℕ = (119 - used) % 64 in
    let at : ℕ = 64 * count - 8 in
    let blank : List ℕ = replicate 128 0 in
    let behind : List ℕ = replicate (127 - used) 0 in
    let zeros : List ℕ = replicate fill 0 in
    let over : List ℕ = replicate (127 - used - fill) 0 in
    let front : List ℕ = rest ++ 0x80 ∷ zeros in
    let marked : List ℕ = rest ++ 0x80 ∷ behind in
    let lr : length rest ≡ used = omega (arith, ap length er, length-drop (length message / 64 * 64) message) in
    let lb : length bits ≡ 8 = rw eb refl in
    let lz : length zeros ≡ fill = length-replicate fill zero in
    let lh : length behind ≡ 127 - used = length-replicate (127 - used) zero in
    let more : 128 - used ≡ suc (127 - used) = omega arith in
    let kept : post_of 0 i blank ≡ 0 ∷ behind = rw ei (drop-replicate used 128 zero ∙ rw more refl) in
    let set : slice_set (rest ++ post_of 0 i blank) used 0x80 ≡ marked = rw kept (set_at rest 0 behind 0x80 used lr) in
    let whole : fill + (127 - used - fill) ≡ 127 - used = omega arith in
    let split : zeros ++ over ≡ behind = replicate-append-replicate fill (127 - used - fill) zero ∙ ap (λ (k : ℕ). replicate k zero) whole in
    let parts : marked ≡ front ++ over = rw (← split) (sym (append_assoc rest (0x80 ∷ zeros) over)) in
    let lf : length front ≡ at = omega (arith, length-append rest (0x80 ∷ zeros)) in
    let lm : length marked ≡ 128 = omega (arith, length-append rest (0x80 ∷ behind)) in
    let before : take at marked ≡ front = ap (take at) parts ∙ take_at front over at lf in
    let written : take (64 * count) (put_mid at j marked bits) ≡ front ++ bits =
    take-put_mid at j marked bits (64 * count) (omega arith) (omega arith) ∙ ap (λ (x : List ℕ). x ++ bits) before in
    let padded : front ++ bits ≡ drop (length message / 64 * 64) message ++ padding (length message) =
    append_assoc rest (0x80 ∷ zeros) bits ∙ rw (er, eb) refl in
    rw set record {
      size = length-put_mid at j marked bits (omega arith) (omega arith) ∙ lm;
      padded = rw (← ec) (written ∙ padded);
    }

length-padding : (n : ℕ) → length (padding n) ≡ 9 + (119 - n % 64) % 64
length-padding n =
    let zeros : List ℕ = replicate ((119 - n % 64) % 64) 0 in
    let bits : List ℕ = to_be_bytes w64 (n * 8 % 2 ^ 64) in
    let lz : length zeros ≡ (119 - n % 64) % 64 = length-replicate ((119 - n % 64) % 64) (zero) in
    let lb : length bits ≡ 8 = refl in
    let both : length (zeros ++ bits) ≡ length zeros + length bits = length-append zeros bits in
    omega arith

-- hash_after goes on where it was left at a block's edge
hash_after-more : (ini p q : List ℕ) (k r : ℕ) → length p ≡ k * 64 → hash_after ini (p ++ q) (k + r) ≡ hash_after (hash_after ini p k) q r
unfolding hash_after
hash_after-more ini p q k zero lp = rw add-zero (hash_after-append ini p q k (omega arith))
hash_after-more ini p q k (suc r) lp =
    let at : (k + r) * 64 ≡ k * 64 + r * 64 = omega arith in
    let block : drop ((k + r) * 64) (p ++ q) ≡ drop (r * 64) q =
    rw at (sym (drop-drop (r * 64) (k * 64) (p ++ q)) ∙ ap (drop (r * 64)) (drop_at p q (k * 64) lp)) in
    rw (add-suc, block, hash_after-more ini p q k r lp) refl

-- the hash value of a message, from that after its whole blocks and its tail
pub final_hash_tail : (ini m t whole state : List ℕ) → whole ≡ hash_after ini m (length m / 64) → IsTail m t
    → state ≡ hash_after whole t (tail_block_count (length m)) → state ≡ final_hash ini m
final_hash_tail ini m t whole state ew tail es =
    let n : ℕ = length m in
    let k : ℕ = n / 64 in
    let r : ℕ = tail_block_count n in
    let front : List ℕ = take (k * 64) m in
    let back : List ℕ = drop (k * 64) m ++ padding n in
    let halves : front ++ drop (k * 64) m ≡ m = take-append-drop (k * 64) m in
    let lf : length front ≡ k * 64 = length-take-le (k * 64) m (omega arith) in
    let all : padded_message m ≡ front ++ back = ap (λ (x : List ℕ). x ++ padding n) (sym halves) ∙ append_assoc front (drop (k * 64) m) (padding n) in
    let lpad : length (padding n) ≡ 9 + (119 - n % 64) % 64 = length-padding n in
    let lb : length back ≡ r * 64 = omega (arith, length-append (drop (k * 64) m) (padding n), length-drop (k * 64) m) in
    let count : length (padded_message m) / 64 ≡ k + r = omega (arith, length-append m (padding n)) in
    let read : hash_after whole t r ≡ hash_after whole back r =
    ap (λ (x : List ℕ). hash_after whole x r) (sym (take-append-drop (64 * r) t) ∙ ap (λ (x : List ℕ). x ++ drop (64 * r) t) tail.padded)
    ∙ hash_after-append whole back (drop (64 * r) t) r (omega arith) in
    let first : whole ≡ hash_after ini front k =
    ew ∙ ap (λ (x : List ℕ). hash_after ini x k) (sym halves) ∙ hash_after-append ini front (drop (k * 64) m) k (omega arith) in
    es ∙ read ∙ ap (λ (h : List ℕ). hash_after h back r) first ∙ sym (hash_after-more ini front back k r lf)
    ∙ ap (λ (c : ℕ). hash_after ini (front ++ back) c) (sym count) ∙ ap (λ (x : List ℕ). hash_after ini x (length (padded_message m) / 64)) (sym all)

-- messages of one length that end with a block have one tail
pub IsTail_same : (m other t : List ℕ) → length m ≡ length other → length m % 64 ≡ 0 → IsTail m t → IsTail other t
IsTail_same m other t e even tail =
    let none : drop (length m / 64 * 64) m ≡ [] = drop_all (length m / 64 * 64) m (omega arith) in
    let also : drop (length other / 64 * 64) other ≡ [] = drop_all (length other / 64 * 64) other (omega arith) in
    record { size = tail.size; padded = rw (also, ← e) (tail.padded ∙ ap (λ (x : List ℕ). x ++ padding (length m)) none) }
