-- The bits of the whole pieces, which have no unmarked block.
use Rattle.std.proofs.Common.{[], ◌≡◌, ◌≢◌, ℕ, zero, suc, ◌+◌, ◌-◌, ◌*◌, ◌<◌, ◌≤◌, inl, inr, Bool, true, false, not, cond, List, ◌∷◌, ◌++◌, length, map, get_or, set, replicate, count_by, refl, sym, ap, ◌∙◌, arith, subst, get_or-set_same, get_or-set_other}
use Rattle.std.specs.Prelude.{◌==◌, ◌&&◌, filter}
use Rattle.std.specs.List.{list_all, All}
use Rattle.std.proofs.lemmas.List.Elements.{All-nil, All-cons}
use Rattle.std.proofs.lemmas.Bool.{cases_eq, cases_lt, eq-eqb, ne_eqb}
use Rattle.std.proofs.lemmas.Grind.{div_ceil_times}
use Rattle.std.proofs.lemmas.List.{length-append, length-map, length-replicate, get_or_append_left, get_or-append_right, get_or-replicate, get_or_past, ext_get_or}
use Rattle.std.proofs.lemmas.List.FromFn.{length-map-range_with_len, get_or-map-range_with_len}
use Rattle.std.proofs.lemmas.Option.{get_or_from_slice_get}
use Rattle.bt_book.proofs.Once.{count_cons}
use Rattle.std.specs.Int.{div_ceil}
use Rattle.bt_meta.specs.Torrent.{total_pieces}
use Rattle.bt_machine.specs.WireEvents.{bits_in}
use Rattle.bt_machine.specs.State.{EngineState}
use Rattle.bt_machine.specs.Peers.{IsOurBitfield}
use Rattle.bt_machine.specs.Blocks.{is_whole, is_marked_in, is_in_piece, all_blocks, piece_numbers}
use Rattle.bt_engine_state.specs.Ties.{unmarked_in, AreUnmarked}
use Rattle.bt_engine_state.proofs.Lists.{get_mapped, get_at}
use Rattle.bt_engine_state.proofs.Bits.{length_bits, no_bit}

-- these bits are set so far as they were looked at, and no other
pub record AreSetBelow (wholes bits : List Bool) (i : ℕ) : Type 0 where
  pub below : (n : ℕ) → n < i → get_or bits n false ≡ get_or wholes n false
  pub above : (n : ℕ) → i ≤ n → get_or bits n false ≡ false

-- bytes whose bits are those of the whole pieces so far
pub record IsBitfieldBelow (counts bytes : List ℕ) (i : ℕ) : Type 0 where
  pub size : length bytes ≡ div_ceil (length counts) 8
  pub bits : AreSetBelow (map (λ n. n == 0) counts) (bits_in bytes) i
  pub fits : All (λ byte. byte < 256) bytes

pub set_next : (wholes bits : List Bool) (i : ℕ) → i < length bits → get_or wholes i false ≡ true → AreSetBelow wholes bits i
    → AreSetBelow wholes (set bits i true) (i + 1)
set_next wholes bits i inside whole so_far = record {
  below = λ n lt. elim (cases_eq n i) [
    | inl e ↦ rw e (get_or-set_same bits i true false inside ∙ sym whole)
    | inr ne ↦ get_or-set_other bits i n true false ne ∙ so_far.below n (omega arith)
  ];
  above = λ n le. get_or-set_other bits i n true false (λ h. absurd (omega arith)) ∙ so_far.above n (omega arith);
}

pub skip_next : (wholes bits : List Bool) (i : ℕ) → get_or wholes i false ≡ false → AreSetBelow wholes bits i → AreSetBelow wholes bits (i + 1)
skip_next wholes bits i part so_far = record {
  below = λ n lt. elim (cases_eq n i) [
    | inl e ↦ rw e (so_far.above i (omega arith) ∙ sym part)
    | inr ne ↦ so_far.below n (omega arith)
  ];
  above = λ n le. so_far.above n (omega arith);
}

pub all_set : (wholes bits : List Bool) → length wholes ≤ length bits → AreSetBelow wholes bits (length wholes)
    → bits ≡ wholes ++ replicate (length bits - length wholes) false
all_set wholes bits enough so_far =
    let rest = length bits - length wholes in
    let size = length-replicate rest false in
    ext_get_or false bits (wholes ++ replicate rest false) (omega (arith, length-append wholes (replicate rest false), size))
    (λ n lt. elim (cases_lt n (length wholes)) [
      | inl below ↦ so_far.below n below ∙ sym (get_or_append_left wholes (replicate rest false) false n below)
      | inr from ↦ so_far.above n from ∙ sym (get_or-append_right wholes (replicate rest false) (length wholes) n false refl from
          ∙ get_or-replicate rest (n - length wholes) false false (omega arith))
    ])

-- ---- a bitfield that is made, piece by piece
map_at : (counts : List ℕ) (i : ℕ) → i < length counts → get_or (map (λ n. n == 0) counts) i false ≡ (get_or counts i 0 == 0)
map_at counts i lt =
    get_or_from_slice_get (map (λ n. n == 0) counts) i (get_or counts i 0 == 0) false (get_mapped (λ n. n == 0) counts i (get_at counts i 0 lt))

none_above : (m n : ℕ) → get_or (bits_in (replicate m 0)) n false ≡ false
none_above m n = ap (λ bits. get_or bits n false) (no_bit m) ∙ elim (cases_lt n (8 * m)) [
  | inl lt ↦ get_or-replicate (8 * m) n false false lt
  | inr le ↦ (let size = length-replicate (8 * m) false in get_or_past (replicate (8 * m) false) n false (omega (arith, size, le)))
]

all_zeros : (m : ℕ) → All (λ byte. byte < 256) (replicate m 0)
all_zeros zero = All-nil (λ byte. byte < 256)
all_zeros (suc m) = All-cons (λ byte. byte < 256) 0 (replicate m 0) (omega arith) (all_zeros m)

pub none_set : (counts bytes : List ℕ) (m : ℕ) → m ≡ div_ceil (length counts) 8 → bytes ≡ replicate m 0 → IsBitfieldBelow counts bytes 0
none_set counts bytes m size is = record {
  size = ap (λ (bs : List ℕ). length bs) is ∙ length-replicate m 0 ∙ size;
  bits = record {
    below = λ n lt. absurd (omega (arith, lt));
    above = λ n le. ap (λ (bs : List ℕ). get_or (bits_in bs) n false) is ∙ none_above m n;
  };
  fits = rw is (all_zeros m);
}

pub one_set : (counts bytes new : List ℕ) (i : ℕ) → i < length counts → get_or counts i 0 ≡ 0 → bits_in new ≡ set (bits_in bytes) i true
    → length new ≡ length bytes → All (λ byte. byte < 256) new → IsBitfieldBelow counts bytes i → IsBitfieldBelow counts new (i + 1)
one_set counts bytes new i lt whole written same fits has = record {
  size = same ∙ has.size;
  bits = subst (λ (bits : List Bool). AreSetBelow (map (λ n. n == 0) counts) bits (i + 1)) (sym written)
      (set_next (map (λ n. n == 0) counts) (bits_in bytes) i
      (omega (arith, lt, has.size, div_ceil_times (length counts) 8, length_bits bytes)) (map_at counts i lt ∙ eq-eqb _ 0 whole) has.bits);
  fits = fits;
}

pub one_skipped : (counts bytes : List ℕ) (i : ℕ) → i < length counts → get_or counts i 0 ≢ 0 → IsBitfieldBelow counts bytes i
    → IsBitfieldBelow counts bytes (i + 1)
one_skipped counts bytes i lt part has = record {
  size = has.size;
  bits = skip_next (map (λ n. n == 0) counts) (bits_in bytes) i (map_at counts i lt ∙ ne_eqb _ 0 part) has.bits;
  fits = has.fits;
}

pub bits_done : (counts bytes : List ℕ) (i : ℕ) → i ≡ length counts → IsBitfieldBelow counts bytes i
    → bits_in bytes ≡ map (λ n. n == 0) counts ++ replicate (8 * length bytes - length counts) false
bits_done counts bytes i done has =
    let wholes = map (λ n. n == 0) counts in
    let size = length-map counts (λ n. n == 0) in
    let enough : length wholes ≤ length (bits_in bytes) = omega (arith, size, length_bits bytes, has.size, div_ceil_times (length counts) 8) in
    let rest : length (bits_in bytes) - length wholes ≡ 8 * length bytes - length counts = omega (arith, size, length_bits bytes) in
    all_set wholes (bits_in bytes) enough (subst (λ n. AreSetBelow wholes (bits_in bytes) n) (done ∙ sym size) has.bits)
    ∙ ap (λ n. wholes ++ replicate n false) rest

-- ---- whole pieces are those that have no unmarked block
counted_by : {X : Type 0} (test : X → Bool) (x : X) (xs : List X) (t : Bool) → test x ≡ t
    → list_all test xs ≡ (count_by (λ x. not (test x)) xs == 0) → list_all test (x ∷ xs) ≡ (count_by (λ x. not (test x)) (x ∷ xs) == 0)
counted_by test x xs true e rest =
    let none : count_by (λ x. not (test x)) (x ∷ xs) ≡ 0 + count_by (λ x. not (test x)) xs =
    count_cons (λ x. not (test x)) x xs ∙ ap (λ b. cond (not b) 1 0 + count_by (λ x. not (test x)) xs) e in
    let same : count_by (λ x. not (test x)) (x ∷ xs) ≡ count_by (λ x. not (test x)) xs = omega (arith, none) in
    ap (λ b. b && list_all test xs) e ∙ rest ∙ ap (λ n. n == 0) (sym same)
counted_by test x xs false e rest =
    let one : count_by (λ x. not (test x)) (x ∷ xs) ≡ 1 + count_by (λ x. not (test x)) xs =
    count_cons (λ x. not (test x)) x xs ∙ ap (λ b. cond (not b) 1 0 + count_by (λ x. not (test x)) xs) e in
    ap (λ b. b && list_all test xs) e ∙ sym (ne_eqb (count_by (λ x. not (test x)) (x ∷ xs)) 0 (λ h. absurd (omega (arith, one, h))))

all_counted : {X : Type 0} (test : X → Bool) (xs : List X) → list_all test xs ≡ (count_by (λ x. not (test x)) xs == 0)
all_counted test [] = refl
all_counted test (x ∷ xs) = counted_by test x xs (test x) refl (all_counted test xs)

pub wholes_are : (s : EngineState) (counts : List ℕ) → AreUnmarked s counts → map (λ n. n == 0) counts ≡ map (is_whole s) (piece_numbers s)
wholes_are s counts has =
    let all = total_pieces s.torrent in
    let size = length-map counts (λ n. n == 0) ∙ has.size in
    ext_get_or false (map (λ n. n == 0) counts) (map (is_whole s) (piece_numbers s)) (size ∙ sym (length-map-range_with_len (is_whole s) 0 all))
    (λ n lt.
    let inside : n < all = omega (arith, size) in
    let own = get_mapped (λ n. n == 0) counts n (has.each n inside) in
    get_or_from_slice_get (map (λ n. n == 0) counts) n (unmarked_in s n == 0) false own
    ∙ sym (all_counted (is_marked_in s) (filter (is_in_piece s.torrent n) (all_blocks s)))
    ∙ sym (get_or-map-range_with_len (is_whole s) 0 all n n false inside (omega arith)))

-- ---- the bitfield that a new peer is sent
pub our_bitfield : (s : EngineState) (counts bytes : List ℕ) → AreUnmarked s counts → length bytes ≡ div_ceil (length counts) 8
    → bits_in bytes ≡ map (λ n. n == 0) counts ++ replicate (8 * length bytes - length counts) false → All (λ byte. byte < 256) bytes
    → IsOurBitfield s bytes
our_bitfield s counts bytes has size bits fits = record {
  are_bytes = fits;
  size = size ∙ ap (λ n. div_ceil n 8) has.size;
  bits = bits ∙ ap (λ wholes. wholes ++ replicate (8 * length bytes - length counts) false) (wholes_are s counts has)
      ∙ ap (λ n. map (is_whole s) (piece_numbers s) ++ replicate (8 * length bytes - n) false) has.size;
}
