-- Pages: what is there after a page has grown, and after a digest was put.
use Rattle.std.proofs.Common.{◌≡◌, ◌≢◌, ℕ, ◌+◌, ◌-◌, ◌*◌, ◌/◌, ◌%◌, ◌^◌, ◌<◌, ◌≤◌, inl, inr, true, false, cond, List, [], ◌++◌, length, take, replicate, set, get_or, bit_or, Some, None, is_some, sym, ap, subst, ◌∙◌, w64, length-set, get_or-set_same, get_or-set_other, length-append, arith}
use Rattle.std.specs.Int.{bit_at}
use Rattle.std.proofs.lemmas.Bool.{cases_lt, cases_eq, eq-eqb}
use Rattle.std.proofs.lemmas.Grind.{elements}
use Rattle.std.proofs.lemmas.List.{length-replicate, get_or_past, get_or_read, length-take}
use Rattle.std.proofs.lemmas.List.FromFn.{length-map-range_with_len, get_or-map-range_with_len}
use Rattle.std.proofs.lemmas.Nat.{mod_below, shr-shr}
use Rattle.std.proofs.lemmas.Nat.Bits.{bit_at-zero, bit_at_above, bit_at_set_same, bit_at_set_other}
use Rattle.bt_sparse.specs.Page.{is_present, slots_of, HasBits, IsLonger, IsPutAt}

-- ---- what a page's fields show
pub length-slots_of : (ds : List (List ℕ)) (ws : List ℕ) → length (slots_of ds ws) ≡ length ds
unfolding slots_of
length-slots_of ds ws = length-map-range_with_len (λ i. cond (is_present ws i) (Some (get_or ds i [])) None) 0 (length ds)

pub slot_is : (ds : List (List ℕ)) (ws : List ℕ) (i : ℕ) → HasBits ds ws → get_or (slots_of ds ws) i None ≡ cond (is_present ws i) (Some (get_or ds i [])) None
unfolding slots_of
slot_is ds ws i h = elim (cases_lt i (length ds)) [
  | inl lt ↦ get_or-map-range_with_len (λ i. cond (is_present ws i) (Some (get_or ds i [])) None) 0 (length ds) i i None lt (omega arith)
  | inr le ↦ rw (h.clear i le) (get_or_past (slots_of ds ws) i None (omega (arith, length-slots_of ds ws)))
]

pub new_slots : (ds : List (List ℕ)) (ws : List ℕ) → ds ≡ [] → slots_of ds ws ≡ []
unfolding slots_of
new_slots ds ws e = rw e

-- ---- a page that grows: the first of a list, and zeros after the last
pub resized_before : {A : Type 0} (xs : List A) (n i : ℕ) (a d : A) → i < length xs → length xs ≤ n → get_or (take n xs ++ replicate (n - length xs) a) i d ≡ get_or xs i d
resized_before xs n i a d lt le = grind (arith, elements)

resized : (ws : List ℕ) (n i : ℕ) → i < n → get_or (take n ws ++ replicate (n - length ws) 0) i 0 ≡ get_or ws i 0
resized ws n i lt = grind (arith, elements, get_or_past {X = ℕ})

pub length-resized : {A : Type 0} (xs : List A) (n : ℕ) (a : A) → length (take n xs ++ replicate (n - length xs) a) ≡ n
length-resized xs n a = omega (arith, length-append (take n xs) (replicate (n - length xs) a), length-take n xs, length-replicate (n - length xs) a)

module _ {ds : List (List ℕ)} {ws vs : List ℕ} (es : List (List ℕ)) (n : ℕ) (h : HasBits ds ws) (words : vs ≡ take n ws ++ replicate (n - length ws) 0)
    (longer : length ds ≤ length es) (room : length es ≤ 64 * n) (same : (i : ℕ) → i < length ds → get_or es i [] ≡ get_or ds i []) where
  keeps_bits : (i : ℕ) → is_present vs i ≡ is_present ws i
  keeps_bits i = rw words (elim (cases_lt (i / 64) n) [
    | inl lt ↦ rw (resized ws n (i / 64) lt)
    | inr le ↦ rw (get_or_past (take n ws ++ replicate (n - length ws) 0) (i / 64) 0 (omega (arith, length-resized ws n 0)), bit_at-zero, h.clear i (omega arith))
  ])

  pub grown_bits : HasBits es vs
  grown_bits = record { room = omega (arith, ap length words, length-resized ws n 0); clear = λ i le. keeps_bits i ∙ h.clear i (omega arith) }

  pub grown_longer : IsLonger (slots_of ds ws) (slots_of es vs)
  grown_longer = record {
    same = λ i. rw (slot_is es vs i grown_bits, slot_is ds ws i h, keeps_bits i) (elim (cases_lt i (length ds)) [
      | inl lt ↦ rw (same i lt)
      | inr le ↦ rw (h.clear i le)
    ]);
    longer = omega (arith, length-slots_of ds ws, length-slots_of es vs);
  }

-- ---- a digest that is put, with the bit of its place
module _ {ds : List (List ℕ)} {ws : List ℕ} (p w : ℕ) (d : List ℕ) (h : HasBits ds ws) (room : p < length (slots_of ds ws)) (word : w ≡ get_or ws (p / 64) w) where
  abbrev marked : List ℕ
  marked = set ws (p / 64) (bit_or w (1 * 2 ^ (p % 64) % 18446744073709551616))

  place : p < length ds
  place = omega (arith, length-slots_of ds ws)

  mark_here : is_present marked p ≡ true
  mark_here = rw (get_or-set_same ws (p / 64) (bit_or w (1 * 2 ^ (p % 64) % 18446744073709551616)) 0 (omega (arith, h.room, place)), bit_at_set_same w64 w (p % 64) (mod_below p 64 (omega arith)))

  mark_others : (i : ℕ) → i ≢ p → is_present marked i ≡ is_present ws i
  mark_others i other = elim (cases_eq (i / 64) (p / 64)) [
    | inl same ↦ rw (
      same,
      get_or-set_same ws (p / 64) (bit_or w (1 * 2 ^ (p % 64) % 18446744073709551616)) 0 (omega (arith, h.room, place)),
      bit_at_set_other w64 w (p % 64) (mod_below p 64 (omega arith)) (i % 64) (omega arith),
      get_or_read ws (p / 64) w (omega (arith, h.room, place)) word 0,
    )
    | inr apart ↦ rw (get_or-set_other ws (p / 64) (i / 64) (bit_or w (1 * 2 ^ (p % 64) % 18446744073709551616)) 0 apart)
  ]

  pub put_bits : HasBits (set ds p d) marked
  put_bits = record {
    room = omega (arith, h.room, length-set ds p d, length-set ws (p / 64) (bit_or w (1 * 2 ^ (p % 64) % 18446744073709551616)));
    clear = λ i le. mark_others i (omega (arith, place, length-set ds p d)) ∙ h.clear i (omega (arith, length-set ds p d));
  }

  pub put_slots : IsPutAt p d (slots_of ds ws) (slots_of (set ds p d) marked)
  put_slots = record {
    here = rw (slot_is (set ds p d) marked p put_bits, mark_here, get_or-set_same ds p d [] place);
    others = λ i other. rw (slot_is (set ds p d) marked i put_bits, slot_is ds ws i h, mark_others i other, get_or-set_other ds p i d [] other);
    length_is = length-slots_of (set ds p d) marked ∙ length-set ds p d ∙ sym (length-slots_of ds ws);
  }

-- ---- digests in a row
-- a bit of the rest of a word is a bit of the words
pub rest_present : (ws : List ℕ) (p w j : ℕ) → get_or ws (p / 64) 0 ≡ w → w < 2 ^ 64 → bit_at (w / 2 ^ (p % 64)) j ≡ 1 → is_present ws (p + j) ≡ true
rest_present ws p w j read fits one =
    let bit : bit_at w (p % 64 + j) ≡ 1 = sym (rest_bit w (p % 64) j) ∙ one in
    let low : p % 64 + j < 64 = elim (cases_lt (p % 64 + j) 64) [
      | inl lt ↦ lt
      | inr ge ↦ (let none : bit_at w (p % 64 + j) ≡ 0 = bit_at_above w 64 (p % 64 + j) fits ge in absurd (omega (arith, none, bit)))
    ] in
    let word : (p + j) / 64 ≡ p / 64 = omega arith in
    let place : (p + j) % 64 ≡ p % 64 + j = omega arith in
    rw (word, place, read) (eq-eqb _ 1 bit)
  where
    rest_bit : (w from j : ℕ) → bit_at (w / 2 ^ from) j ≡ bit_at w (from + j)
    rest_bit w from j = ap (λ n. n % 2) (shr-shr w from j)

-- where the bit is set, there is a digest
pub slot_some : (ds : List (List ℕ)) (ws : List ℕ) (i : ℕ) → HasBits ds ws → is_present ws i ≡ true → is_some (get_or (slots_of ds ws) i None) ≡ true
slot_some ds ws i h set = ap is_some (slot_is ds ws i h ∙ ap (λ b. cond b (Some (get_or ds i [])) None) set)

pub slot_none : (ds : List (List ℕ)) (ws : List ℕ) (i : ℕ) → HasBits ds ws → is_present ws i ≡ false → get_or (slots_of ds ws) i None ≡ None
slot_none ds ws i h clear = slot_is ds ws i h ∙ ap (λ b. cond b (Some (get_or ds i [])) None) clear

-- a row that grows by the next one
pub row_more : (p : ℕ → Type 0) (n m : ℕ) → ((j : ℕ) → j < n → p j) → ((j : ℕ) → j < m → p (n + j)) → (j : ℕ) → j < n + m → p j
row_more p n m first next j lt = elim (cases_lt j n) [
  | inl below ↦ first j below
  | inr le ↦ (let up : n + (j - n) ≡ j = omega arith in subst p up (next (j - n) (omega arith)))
]
