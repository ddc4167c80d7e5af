-- Marked blocks on a device, and a complete file.
use Rattle.bt_machine.proofs.Base.{◌≡◌, ◌≢◌, ℕ, zero, suc, ◌+◌, ◌-◌, ◌*◌, ◌^◌, ◌<◌, ◌≤◌, ◌⊎◌, inl, inr, min, List, ◌++◌, length, take, drop, replicate, get_or, Some, sym, ap, ◌∙◌, arith, length-append, length-drop, pow-suc, slice_get, slice_index, ◌/◌, cases_lt, get_or-take, get_or-drop, get_or_append_left, get_or-append_right, length-take, length-replicate, same_number_lists, written, IsTornWrite, block_count, block_length, block_at, IsInside, real_width, node_digest, leaf_is, leaf_past, node_parent, Facts, blocks_of, height, value_at, IsRooted, value_covers, value_padding, value_above, IsRight, Marked}
use Rattle.bt_machine.proofs.Machine.{Digest, stored_block, AreRight, HasFile}

length-front : (xs : List ℕ) {at : ℕ} → length (take at xs ++ replicate (at - length xs) 0) ≡ at
length-front xs {at} = omega (arith, length-append (take at xs) (replicate (at - length xs) 0), length-take at xs, length-replicate {A = ℕ} (at - length xs) 0)

length-written : (xs more at : _) → length (written xs at more) ≡ at + length more + (length xs - (at + length more))
length-written xs more at =
    omega
    (arith, length-append ((take at xs ++ replicate (at - length xs) 0) ++ more) (drop (at + length more) xs), length-append (take at xs ++ replicate (at - length xs) 0) more, length-front xs {at = at}, length-drop (at + length more) xs)

written_outside : (xs more at i : _) → i < length xs → (i < at) ⊎ (at + length more ≤ i) → slice_index (written xs at more) i ≡ slice_index xs i
written_outside xs more at i lt (inl before) =
    let front = take at xs ++ replicate (at - length xs) 0 in
    get_or_append_left (front ++ more) (drop (at + length more) xs) 0 i (omega (arith, length-append front more, length-front xs {at = at}))
    ∙ get_or_append_left front more 0 i (omega (arith, length-front xs {at = at}))
    ∙ get_or_append_left (take at xs) (replicate (at - length xs) 0) 0 i (omega (arith, length-take at xs))
    ∙ get_or-take at xs i 0 before
written_outside xs more at i lt (inr after) =
    let front = take at xs ++ replicate (at - length xs) 0 in
    get_or-append_right (front ++ more) (drop (at + length more) xs) (at + length more) i 0 (omega (arith, length-append front more, length-front xs {at = at})) after
    ∙ get_or-drop (at + length more) xs (i - (at + length more)) 0 ∙ ap (λ k. get_or xs k 0) (let e : at + length more + (i - (at + length more)) ≡ i = omega arith in e)

written_inside : (xs more at i : _) → i < length more → slice_index (written xs at more) (at + i) ≡ slice_index more i
written_inside xs more at i lt =
    let front = take at xs ++ replicate (at - length xs) 0 in
    get_or_append_left (front ++ more) (drop (at + length more) xs) 0 (at + i) (omega (arith, length-append front more, length-front xs {at = at}))
    ∙ get_or-append_right front more at (at + i) 0 (length-front xs) (omega arith) ∙ ap (λ k. get_or more k 0) (let e : at + i - at ≡ i = omega arith in e)

pub length_at : (n bytes i : _) → length (stored_block n bytes i) ≡ min (block_length n i) (length bytes - 16384 * i)
length_at n bytes i = length-take (block_length n i) (drop (16384 * i) bytes) ∙ ap (λ m. min (block_length n i) m) (length-drop (16384 * i) bytes)

pub index_at : (n bytes i j : _) → j < block_length n i → get_or (stored_block n bytes i) j 0 ≡ get_or bytes (16384 * i + j) 0
index_at n bytes i j lt = get_or-take (block_length n i) (drop (16384 * i) bytes) j 0 lt ∙ get_or-drop (16384 * i) bytes j 0

-- the same bytes stand where a whole block did
same_at : (n xs ys i : _) → length (stored_block n xs i) ≡ block_length n i → length xs ≤ length ys
    → ((j : ℕ) → 16384 * i ≤ j → j < 16384 * i + block_length n i → j < length xs → get_or ys j 0 ≡ get_or xs j 0) → stored_block n ys i ≡ stored_block n xs i
same_at n xs ys i whole longer same =
    same_number_lists (stored_block n ys i) (stored_block n xs i) (omega (arith, length_at n xs i, length_at n ys i))
    (λ k lt.
    let low : k < block_length n i = omega (arith, length_at n ys i) in
    index_at n ys i k low ∙ same (16384 * i + k) (omega arith) (omega arith) (omega (arith, length_at n xs i)) ∙ sym (index_at n xs i k low))

pub own_bytes : (n xs : _) {more : _} (i : ℕ) → length more ≡ block_length n i → stored_block n (written xs (16384 * i) more) i ≡ more
own_bytes n xs {more} i size =
    let all = length_at n (written xs (16384 * i) more) i in
    same_number_lists (stored_block n (written xs (16384 * i) more) i) more (omega (arith, length-written xs more (16384 * i)))
    (λ k lt.
    let low : k < block_length n i = omega arith in
    index_at n (written xs (16384 * i) more) i k low ∙ written_inside xs more (16384 * i) k (omega arith))

away : (n i j x m : _) → i ≢ j → m ≤ 16384 → 16384 * i ≤ x → x < 16384 * i + block_length n i → (x < 16384 * j) ⊎ (16384 * j + m ≤ x)
away n i j x m apart few from to = elim (cases_lt x (16384 * j)) [ inl lt ↦ inl lt | inr le ↦ inr (omega arith) ]

pub other_bytes : (n xs more i j : _) → i ≢ j → length more ≡ block_length n j → length (stored_block n xs i) ≡ block_length n i
    → stored_block n (written xs (16384 * j) more) i ≡ stored_block n xs i
other_bytes n xs more i j apart size whole =
    same_at n xs (written xs (16384 * j) more) i whole (omega (arith, length-written xs more (16384 * j)))
    (λ x from to within. written_outside xs more (16384 * j) x within (away n i j x (length more) apart (omega arith) from to))

pub torn_bytes : (n : ℕ) {s t : _} (i j : ℕ) {m : ℕ} → i ≢ j → m ≡ block_length n j → IsTornWrite (16384 * j) m s t
    → length (stored_block n s.bytes i) ≡ block_length n i → stored_block n t.bytes i ≡ stored_block n s.bytes i
torn_bytes n {s} {t} i j {m} apart size torn whole =
    same_at n _ _ i whole torn.no_shorter
    (λ x from to within. elim (away n i j x m apart (omega arith) from to) [
      | inl before ↦
          let low : x < min (16384 * j) (length s.bytes) = omega arith in
          sym (get_or-take (min (16384 * j) (length s.bytes)) t.bytes x 0 low) ∙ ap (λ l. get_or l x 0) torn.before ∙ get_or-take (min (16384 * j) (length s.bytes)) s.bytes x 0 low
      | inr past ↦
          let split : 16384 * j + m + (x - (16384 * j + m)) ≡ x = omega arith in
          ap (λ k. get_or t.bytes k 0) (sym split) ∙ sym (get_or-drop (16384 * j + m) t.bytes (x - (16384 * j + m)) 0) ∙ ap (λ l. get_or l (x - (16384 * j + m)) 0) torn.after
          ∙ get_or-drop (16384 * j + m) s.bytes (x - (16384 * j + m)) 0 ∙ ap (λ k. get_or s.bytes k 0) split
    ])

-- ---- a complete file

real_leaves : {n : ℕ} → real_width n 0 ≡ n
real_leaves = omega arith

whole_file : (dig : Digest) (k : Facts) (bytes : _) → 0 < k.file_length
    → ((i : ℕ) → i < blocks_of k → IsRight dig k i (stored_block k.file_length bytes i)) → length (take k.file_length bytes) ≡ k.file_length
whole_file dig k bytes some right =
    let n = k.file_length in
    let last = right ((n + 16383) / 16384 - 1) (omega arith) in
    omega (arith, length-take n bytes, length_at n bytes ((n + 16383) / 16384 - 1))

block_is : {n : ℕ} (bytes i : _) → length (take n bytes) ≡ n → block_at (take n bytes) i ≡ stored_block n bytes i
block_is {n} bytes i whole =
    let front = length-take 16384 (drop (16384 * i) (take n bytes)) in
    let back = length-drop (16384 * i) (take n bytes) in
    same_number_lists (block_at (take n bytes) i) (stored_block n bytes i) (omega (arith, length_at n bytes i, length-take n bytes))
    (λ j lt.
    let low : j < block_length n i = omega arith in
    get_or-take 16384 (drop (16384 * i) (take n bytes)) j 0 (omega arith) ∙ get_or-drop (16384 * i) (take n bytes) j 0 ∙ get_or-take n bytes (16384 * i + j) 0 (omega arith) ∙ sym (index_at n bytes i j low))

node_is : {dig k : _} (bytes : _) → IsRooted dig k → length (take k.file_length bytes) ≡ k.file_length
    → ((i : ℕ) → i < blocks_of k → IsRight dig k i (stored_block k.file_length bytes i)) → (layer : ℕ) {i : ℕ} → IsInside (blocks_of k) layer i
    → value_at dig k layer i ≡ Some (node_digest dig (take k.file_length bytes) layer i)
node_is {dig} {k} bytes rooted whole right zero {i} inside =
    let file = take k.file_length bytes in
    let count : block_count (length file) ≡ blocks_of k = cc in
    elim (cases_lt i (blocks_of k)) [
      | inl lt ↦ (right i lt).leaf ∙ ap (λ x. Some (dig x)) (sym (block_is bytes i whole)) ∙ ap (λ x. Some x) (sym (leaf_is dig file i (rw count lt)))
      | inr le ↦
          let real : real_width (blocks_of k) 0 ≡ blocks_of k = real_leaves in
          value_padding dig k 0 i (record { inside = inside; past = rw real le }) ∙ ap (λ x. Some x) (sym (leaf_past dig file i (rw count le)))
    ]
node_is {dig} {k} bytes rooted whole right (suc layer) {i} inside =
    let file = take k.file_length bytes in
    let low : layer < height k = inside.in_height in
    let room : 2 ^ (height k - layer) ≡ 2 ^ (height k - suc layer) * 2 = (let up : height k - layer ≡ suc (height k - suc layer) = omega arith in ap (λ e. 2 ^ e) up) ∙ pow-suc 2 (height k - suc layer) in
    let left : IsInside (blocks_of k) layer (2 * i) = record { in_height = omega arith; in_width = omega arith } in
    let right_one : IsInside (blocks_of k) layer (2 * i + 1) = record { in_height = omega arith; in_width = omega arith } in
    value_above dig k layer i _ _ rooted low (node_is bytes rooted whole right layer left) (node_is bytes rooted whole right layer right_one)
    ∙ ap (λ x. Some x) (sym (node_parent dig file layer i))

pub complete_root : {dig : _} (k bytes states : _) → IsRooted dig k → 0 < k.file_length
    → ((i : ℕ) → i < blocks_of k → slice_get states i ≡ Some Marked) → AreRight dig k bytes states
    → HasFile dig k bytes
complete_root {dig} k bytes states rooted some marked right =
    let each : (i : ℕ) → i < blocks_of k → IsRight dig k i (stored_block k.file_length bytes i) = λ i lt. right i (marked i lt) in
    let whole = whole_file dig k bytes some each in
    let covers = rooted.covers (height k) 0 k.root rooted.top in
    let top = node_is bytes rooted whole each _ covers.inside in
    let held = value_covers dig k (height k) 0 covers ∙ rooted.top in
    record {
      all = whole;
      root = cc;
    }
