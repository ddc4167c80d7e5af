-- The states of blocks by their chunks.
use Rattle.std.proofs.Common.{◌≡◌, ◌≢◌, ℕ, zero, suc, refl, count_by, ◌+◌, ◌*◌, ◌-◌, ◌/◌, ◌%◌, ◌<◌, ◌≤◌, inl, inr, Bool, true, false, eqb, cond, List, [], ◌∷◌, ◌++◌, min, length, get_or, set, map, replicate, sym, ap, ◌∙◌, arith, get_or-set_same, get_or-set_other}
use Rattle.std.proofs.lemmas.List.{get_or_past, ext_get_or, length-set, length-map, length-replicate, get_or-replicate, get_or-map, get_or_read, length_push, get_or_push, get_or_append_left}
use Rattle.std.proofs.lemmas.List.FromFn.{length-map-range_with_len, get_or-map-range_with_len}
use Rattle.std.proofs.lemmas.List.Sums.{sum_by-cons, sum_by-set, get_or-le-sum_by, count_by-le-length}
use Rattle.std.proofs.lemmas.Bool.{cases_lt, cases_eq, eq-eqb, ne_eqb}
use Rattle.std.specs.List.{range_with_len}
use Rattle.bt_store.specs.declared.block_states.BlockState.{BlockState}
use Rattle.bt_store.specs.declared.block_states.BlockState.TheVariants.{Missing}
use Rattle.bt_store.specs.BlockStates.{is_marked, is_waiting, HasCounts}
use Rattle.bt_store.specs.StateChunks.{padded, state_in, states_of, HavePlaces}

-- one block has another state
abbrev pub IsWritten : (ℕ → BlockState) → ℕ → BlockState → (ℕ → BlockState) → Type 0
IsWritten old k s new = (i : ℕ) → new i ≡ cond (eqb i k) s (old i)

here : (old new : ℕ → BlockState) (k i : ℕ) (s : BlockState) → IsWritten old k s new → i ≡ k → new i ≡ s
here old new k i s written e = let at : eqb i k ≡ true = eq-eqb i k e in rw at at (written i)

there : (old new : ℕ → BlockState) (k i : ℕ) (s : BlockState) → IsWritten old k s new → i ≢ k → new i ≡ old i
there old new k i s written ne = let off : eqb i k ≡ false = ne_eqb i k ne in rw off at (written i)

is_written : (old new : ℕ → BlockState) (k : ℕ) (s : BlockState) → new k ≡ s → ((i : ℕ) → i ≢ k → new i ≡ old i) → IsWritten old k s new
is_written old new k s same other i = elim (cases_eq i k) [
  | inl e ↦ let at : eqb i k ≡ true = eq-eqb i k e in rw at (ap new e ∙ same)
  | inr ne ↦ let off : eqb i k ≡ false = ne_eqb i k ne in rw off (other i ne)
]

-- the states of the first blocks
module _ (count : ℕ) (old : ℕ → BlockState) where
  first_length : (f : ℕ → BlockState) → length (map f (range_with_len 0 count)) ≡ count
  first_length f = length-map-range_with_len f 0 count

  first_at : (f : ℕ → BlockState) (i : ℕ) (d : BlockState) → i < count → get_or (map f (range_with_len 0 count)) i d ≡ f i
  first_at f i d lt = get_or-map-range_with_len f 0 count i i d lt (omega arith)

  first_missing : ((i : ℕ) → i < count → old i ≡ Missing) → map old (range_with_len 0 count) ≡ replicate count Missing
  first_missing none =
      ext_get_or Missing (map old (range_with_len 0 count)) (replicate count Missing) (first_length old ∙ sym (length-replicate count Missing)) (λ i lt.
      let i_in : i < count = omega (arith, first_length old) in
      first_at old i Missing i_in ∙ none i i_in ∙ sym (get_or-replicate count i Missing Missing i_in))

  first_set : (new : ℕ → BlockState) (k : ℕ) (s : BlockState) → k < count → IsWritten old k s new
      → map new (range_with_len 0 count) ≡ set (map old (range_with_len 0 count)) k s
  first_set new k s inside written =
      let size = first_length old in
      ext_get_or Missing (map new (range_with_len 0 count)) (set (map old (range_with_len 0 count)) k s)
      (first_length new ∙ sym size ∙ sym (length-set (map old (range_with_len 0 count)) k s)) (λ i lt.
      let i_in : i < count = omega (arith, first_length new) in
      first_at new i Missing i_in ∙ elim (cases_eq i k) [
        | inl e ↦ here old new k i s written e ∙ sym (get_or-set_same (map old (range_with_len 0 count)) k s Missing (omega arith))
            ∙ ap (λ j. get_or (set (map old (range_with_len 0 count)) k s) j Missing) (sym e)
        | inr ne ↦ there old new k i s written ne ∙ sym (first_at old i Missing i_in)
            ∙ sym (get_or-set_other (map old (range_with_len 0 count)) k i s Missing ne)
      ])

-- ---- a chunk
abbrev pub at : List BlockState → ℕ → BlockState
at states i = get_or states i Missing

pub padded_length : (count : ℕ) (states : List BlockState) → length (padded count states) ≡ count
padded_length count states = first_length count (at states) (at states)

pub padded_at : (count : ℕ) (states : List BlockState) (i : ℕ) → i < count → get_or (padded count states) i Missing ≡ get_or states i Missing
padded_at count states i lt = first_at count (at states) (at states) i Missing lt

pub padded_none : (count : ℕ) (states : List BlockState) → states ≡ [] → padded count states ≡ replicate count Missing
padded_none count states none = first_missing count (at states) (λ i lt. ap (λ l. get_or l i Missing) none)

pub padded_set : (count : ℕ) (states filled : List BlockState) (k : ℕ) (s : BlockState) → k < count → k < length filled
    → ((i : ℕ) → at filled i ≡ at states i) → padded count (set filled k s) ≡ set (padded count states) k s
padded_set count states filled k s inside lt same =
    first_set count (at states) (at (set filled k s)) k s inside (is_written (at states) (at (set filled k s)) k s
    (get_or-set_same filled k s Missing lt) (λ i ne. get_or-set_other filled k i s Missing ne ∙ same i))

-- ---- the chunks of a file
module _ (chunks : List (List BlockState)) where
  abbrev chunk : ℕ → List BlockState
  chunk k = get_or chunks k []

  place_inside : (k n : ℕ) → n < length (chunk k) → k < length chunks
  place_inside k n inside = elim (cases_lt k (length chunks)) [
    | inl lt ↦ lt
    | inr ge ↦ let none : length (chunk k) ≡ 0 = ap length (get_or_past chunks k [] ge) in absurd (omega arith)
  ]

  pub has_chunk : (count block : ℕ) → HavePlaces count chunks → block < count → block / 65536 < length chunks
  has_chunk count block places inside = place_inside (block / 65536) (block % 65536) (places block inside)

  -- a chunk that was read has the block's place
  pub has_place : (count block : ℕ) (given : List BlockState) → HavePlaces count chunks → block < count → given ≡ get_or chunks (block / 65536) given
      → block % 65536 < length given
  has_place count block given places inside read =
      rw (get_or_read chunks (block / 65536) given (has_chunk count block places inside) read []) (places block inside)

  pub state_read : (count block : ℕ) (given : List BlockState) → HavePlaces count chunks → block < count → given ≡ get_or chunks (block / 65536) given
      → get_or given (block % 65536) Missing ≡ get_or (states_of count chunks) block Missing
  state_read count block given places inside read =
      ap (λ l. get_or l (block % 65536) Missing) (get_or_read chunks (block / 65536) given (has_chunk count block places inside) read [])
      ∙ sym (first_at count (state_in chunks) (state_in chunks) block Missing inside)

  -- a block is written in its chunk
  module _ (count block : ℕ) (places : HavePlaces count chunks) (inside : block < count) (s : BlockState) where
    abbrev pub written : List (List BlockState)
    written = set chunks (block / 65536) (set (chunk (block / 65536)) (block % 65536) s)

    same_chunk : (k : ℕ) → k ≡ block / 65536 → get_or written k [] ≡ set (chunk (block / 65536)) (block % 65536) s
    same_chunk k e = ap (λ j. get_or written j []) e ∙ get_or-set_same chunks (block / 65536) (set (chunk (block / 65536)) (block % 65536) s) [] (has_chunk count block places inside)

    other_chunk : (k : ℕ) → k ≢ block / 65536 → get_or written k [] ≡ chunk k
    other_chunk k ne = get_or-set_other chunks (block / 65536) k (set (chunk (block / 65536)) (block % 65536) s) [] ne

    block_written : IsWritten (state_in chunks) block s (state_in written)
    block_written = is_written (state_in chunks) (state_in written) block s
        (ap (λ l. get_or l (block % 65536) Missing) (same_chunk (block / 65536) (omega arith))
        ∙ get_or-set_same (chunk (block / 65536)) (block % 65536) s Missing (places block inside))
        (λ i ne. elim (cases_eq (i / 65536) (block / 65536)) [
          | inl same ↦
              let apart : i % 65536 ≢ block % 65536 = λ h. ne (omega arith) in
              ap (λ l. get_or l (i % 65536) Missing) (same_chunk (i / 65536) same)
              ∙ get_or-set_other (chunk (block / 65536)) (block % 65536) (i % 65536) s Missing apart
              ∙ ap (λ k. get_or (chunk k) (i % 65536) Missing) (sym same)
          | inr other ↦ ap (λ l. get_or l (i % 65536) Missing) (other_chunk (i / 65536) other)
        ])

    pub states_set : states_of count written ≡ set (states_of count chunks) block s
    states_set = first_set count (state_in chunks) (state_in written) block s inside block_written

    pub places_set : HavePlaces count written
    places_set i lt = elim (cases_eq (i / 65536) (block / 65536)) [
      | inl same ↦
          let size : length (get_or written (i / 65536) []) ≡ length (chunk (i / 65536)) = ap length (same_chunk (i / 65536) same)
          ∙ length-set (chunk (block / 65536)) (block % 65536) s ∙ ap (λ k. length (chunk k)) (sym same) in
          let place = places i lt in omega arith
      | inr other ↦
          let size : length (get_or written (i / 65536) []) ≡ length (chunk (i / 65536)) = ap length (other_chunk (i / 65536) other) in
          let place = places i lt in omega arith
    ]

-- the chunk that was read and written
pub chunk_written : (chunks : List (List BlockState)) (count block : ℕ) (s : BlockState) (given now : List BlockState) → HavePlaces count chunks → block < count
    → given ≡ get_or chunks (block / 65536) given → now ≡ set given (block % 65536) s
    → set chunks (block / 65536) now ≡ set chunks (block / 65536) (set (get_or chunks (block / 65536) []) (block % 65536) s)
chunk_written chunks count block s given now places inside read wrote =
    ap (set chunks (block / 65536)) (wrote ∙ ap (λ l. set l (block % 65536) s)
    (get_or_read chunks (block / 65536) given (has_chunk chunks count block places inside) read []))

pub states_length : (count : ℕ) (chunks : List (List BlockState)) → length (states_of count chunks) ≡ count
states_length count chunks = first_length count (state_in chunks) (state_in chunks)

pub states_missing : (count : ℕ) (chunks : List (List BlockState)) → ((i : ℕ) → state_in chunks i ≡ Missing) → states_of count chunks ≡ replicate count Missing
states_missing count chunks none = first_missing count (state_in chunks) (λ i lt. none i)

-- ---- all blocks are missing
missing_at : (n i : ℕ) → get_or (replicate n Missing) i Missing ≡ Missing
missing_at n i = elim (cases_lt i n) [
  | inl lt ↦ get_or-replicate n i Missing Missing lt
  | inr ge ↦ get_or_past (replicate n Missing) i Missing (let e = length-replicate n Missing in omega arith)
]

-- chunks are cleared
module _ (chunks : List (List BlockState)) where
  abbrev pub cleared : List (List BlockState)
  cleared = map (λ states. replicate (length states) Missing) chunks

  cleared_chunk : (k : ℕ) → get_or cleared k [] ≡ replicate (length (get_or chunks k [])) Missing
  cleared_chunk k = elim (cases_lt k (length chunks)) [
    | inl lt ↦ get_or-map (λ states. replicate (length states) Missing) chunks k [] [] lt
    | inr ge ↦ get_or_past cleared k [] (let e = length-map chunks (λ states. replicate (length states) Missing) in omega arith)
        ∙ ap (λ (l : List BlockState). replicate (length l) Missing) (sym (get_or_past chunks k [] ge))
  ]

  pub all_cleared : (i : ℕ) → state_in cleared i ≡ Missing
  all_cleared i = ap (λ l. get_or l (i % 65536) Missing) (cleared_chunk (i / 65536)) ∙ missing_at (length (get_or chunks (i / 65536) [])) (i % 65536)

  pub places_cleared : (count : ℕ) → HavePlaces count chunks → HavePlaces count cleared
  places_cleared count places i lt =
      let size : length (get_or cleared (i / 65536) []) ≡ length (get_or chunks (i / 65536) []) = ap length (cleared_chunk (i / 65536))
      ∙ length-replicate (length (get_or chunks (i / 65536) [])) Missing in
      let place = places i lt in
      omega arith

-- one more chunk is made
pub record AreMade (count index : ℕ) (chunks : List (List BlockState)) : Type 0 where
  pub size : length chunks ≡ index
  pub places : (i : ℕ) → i < count → i < 65536 * index → i % 65536 < length (get_or chunks (i / 65536) [])
  pub missing : (k j : ℕ) → get_or (get_or chunks k []) j Missing ≡ Missing

pub none_made : (count : ℕ) (chunks : List (List BlockState)) → chunks ≡ [] → AreMade count 0 chunks
none_made count chunks none = record {
  size = ap length none;
  places = λ i lt below. absurd (omega arith);
  missing = λ k j. ap (λ l. get_or (get_or l k []) j Missing) none;
}

pub more_made : (count index size : ℕ) (chunks : List (List BlockState)) (new : List BlockState) → AreMade count index chunks → new ≡ replicate size Missing
    → size ≡ min (count - 65536 * index) 65536 → AreMade count (index + 1) (chunks ++ new ∷ [])
more_made count index size chunks new made fresh enough = record {
  size = length_push chunks new ∙ ap (λ n. n + 1) made.size;
  places = λ i lt below. elim (cases_lt i (65536 * index)) [
    | inl before ↦
        let old : get_or (chunks ++ new ∷ []) (i / 65536) [] ≡ get_or chunks (i / 65536) [] = kept (i / 65536) (omega arith) in
        let place = made.places i lt before in
        rw old place
    | inr ge ↦
        let index_is : i / 65536 ≡ index = omega arith in
        let last : length (get_or (chunks ++ new ∷ []) (i / 65536) []) ≡ size = ap length (last_is (i / 65536) index_is) ∙ ap length fresh ∙ length-replicate size Missing in
        omega arith
  ];
  missing = λ k j. elim (cases_lt k index) [
    | inl lt ↦ ap (λ l. get_or l j Missing) (kept k lt) ∙ made.missing k j
    | inr ge ↦ elim (cases_eq k index) [
      | inl e ↦ ap (λ l. get_or l j Missing) (last_is k e ∙ fresh) ∙ missing_at size j
      | inr ne ↦ ap (λ l. get_or l j Missing) (get_or_past (chunks ++ new ∷ []) k [] (let e = length_push chunks new in let size = made.size in omega arith))
    ]
  ];
}
  where
    kept : (k : ℕ) → k < index → get_or (chunks ++ new ∷ []) k [] ≡ get_or chunks k []
    kept k lt = get_or_append_left chunks (new ∷ []) [] k (let size = made.size in omega arith)

    last_is : (k : ℕ) → k ≡ index → get_or (chunks ++ new ∷ []) k [] ≡ new
    last_is k e = get_or_push chunks new [] k (made.size ∙ sym e)

pub all_made : (count index : ℕ) (chunks : List (List BlockState)) → AreMade count index chunks → count ≤ 65536 * index → HavePlaces count chunks
all_made count index chunks made enough i lt = made.places i lt (omega arith)

-- ---- counts
marked_none : (n : ℕ) → count_by is_marked (replicate n Missing) ≡ 0
marked_none zero = refl
marked_none (suc n) = omega (arith, sum_by-cons (λ x. cond {A = ℕ} (is_marked x) 1 0) Missing (replicate n Missing), marked_none n)

waiting_none : (n : ℕ) → count_by is_waiting (replicate n Missing) ≡ 0
waiting_none zero = refl
waiting_none (suc n) = omega (arith, sum_by-cons (λ x. cond {A = ℕ} (is_waiting x) 1 0) Missing (replicate n Missing), waiting_none n)

pub counts_none : (n : ℕ) (states : List BlockState) → states ≡ replicate n Missing → n ≤ 67108864 → HasCounts states 0 0
counts_none n states none few = rw none (record {
  marked_count = sym (marked_none n);
  waiting_count = sym (waiting_none n);
  few = let size : length (replicate n Missing) ≡ n = length-replicate n Missing in omega arith;
})

-- a state that counts
module _ (p : BlockState → Bool) (states : List BlockState) (block : ℕ) (inside : block < length states) where
  pub counted : (before : BlockState) → before ≡ get_or states block Missing → p before ≡ true → 0 < count_by p states
  counted before is passes =
      let one : cond {A = ℕ} (p (get_or states block Missing)) 1 0 ≡ 1 = ap (λ (b : Bool). cond {A = ℕ} b 1 0) (ap p (sym is) ∙ passes) in
      omega (arith, one, get_or-le-sum_by (λ x. cond {A = ℕ} (p x) 1 0) states block Missing inside)

  recounted : (count now : ℕ) (before s : BlockState) → before ≡ get_or states block Missing → count ≡ count_by p states
      → now + cond (p before) 1 0 ≡ count + cond (p s) 1 0 → now ≡ count_by p (set states block s)
  recounted count now before s is old new =
      let was : cond {A = ℕ} (p before) 1 0 ≡ cond {A = ℕ} (p (get_or states block Missing)) 1 0 = ap (λ x. cond {A = ℕ} (p x) 1 0) is in
      omega (arith, was, old, new, sum_by-set (λ x. cond {A = ℕ} (p x) 1 0) states block s Missing inside)

pub counts_set : (states : List BlockState) (marked waiting block m w : ℕ) (before s : BlockState) → HasCounts states marked waiting → block < length states
    → before ≡ get_or states block Missing → m + cond (is_marked before) 1 0 ≡ marked + cond (is_marked s) 1 0
    → w + cond (is_waiting before) 1 0 ≡ waiting + cond (is_waiting s) 1 0 → HasCounts (set states block s) m w
counts_set states marked waiting block m w before s counts inside is new_marked new_waiting = record {
  marked_count = recounted is_marked states block inside marked m before s is counts.marked_count new_marked;
  waiting_count = recounted is_waiting states block inside waiting w before s is counts.waiting_count new_waiting;
  few = let size = length-set states block s in let few = counts.few in omega arith;
}

pub few_counted : (p : BlockState → Bool) (states : List BlockState) (count : ℕ) → count ≡ count_by p states → length states ≤ 67108864 → count ≤ 67108864
few_counted p states count is few = let le = count_by-le-length p states in omega arith
