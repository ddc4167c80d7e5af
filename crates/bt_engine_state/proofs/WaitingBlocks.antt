-- How many blocks wait: the count follows a block that has another state, is never great, and tells where none waits.
use Rattle.bt_machine.proofs.Base.{[], ◌≡◌, ◌≢◌, ℕ, suc, ◌+◌, ◌-◌, ◌*◌, ◌<◌, ◌≤◌, inl, inr, Bool, true, false, List, ◌∷◌, length, Option, refl, sym, ap, ◌∙◌, arith, slice_get, Contains, BlockId, BlockState, File, IsLaidOut, IsLawfulFile, All, option_and_then, option_map_or, is_waiting}
use Rattle.std.specs.Prelude.{count_by}
use Rattle.std.proofs.lemmas.Option.{get_or_from_slice_get}
use Rattle.std.proofs.lemmas.List.Sums.{count_by-le-length}
use Rattle.bt_meta.specs.PieceBlocks.{HasBlock}
use Rattle.bt_book.specs.Blocks.{IsBefore}
use Rattle.bt_book.proofs.Once.{count_cons}
use Rattle.bt_machine.specs.State.{EngineState, FileState}
use Rattle.bt_machine.specs.Blocks.{block_id, states_of, all_blocks}
use Rattle.bt_machine.specs.Changes.{DifferAt}
use Rattle.bt_machine.proofs.Lists.{here, later, contains_none, contains_cases, some_below}
use Rattle.bt_machine.proofs.Pairs.{Pairs}
use Rattle.bt_engine_state.specs.Ties.{is_waiting_in, waiting_count, AreCounted, NoneWaits}
use Rattle.bt_engine_state.specs.declared.counts.Counts.{Counts}
use Rattle.bt_engine_state.proofs.Unmarked.{one_if, count_but_one, among, is_among, all_in_order, same_blocks}

-- ---- where none waits

not_one : (t : Bool) → one_if t ≡ 0 → t ≡ false
not_one true e = absurd (omega (arith, e))
not_one false e = refl

none_passes : {X : Type 0} (p : X → Bool) (xs : List X) {x : X} → count_by p xs ≡ 0 → Contains xs x → p x ≡ false
none_passes p [] none c = absurd (contains_none c)
none_passes p (y ∷ xs) {x} none c =
    let step : count_by p (y ∷ xs) ≡ one_if (p y) + count_by p xs = count_cons p y xs in
    elim (contains_cases xs c) [
      | inl is ↦ ap p (sym is) ∙ not_one (p y) (omega (arith, none, step))
      | inr more ↦ none_passes p xs (omega (arith, none, step)) more
    ]

none_of : (states : List BlockState) → ((i : ℕ) → i < length states → option_map_or is_waiting (slice_get states i) false ≡ false) → count_by is_waiting states ≡ 0
none_of [] none = refl
none_of (x ∷ xs) none =
    let off : one_if (is_waiting x) ≡ 0 = ap one_if (none 0 (omega arith)) in
    let step : count_by is_waiting (x ∷ xs) ≡ one_if (is_waiting x) + count_by is_waiting xs = count_cons is_waiting x xs in
    omega (arith, off, step, none_of xs (λ i lt. none (suc i) (omega (arith, lt))))

module _ {s : EngineState} {counts : Counts} (are : AreCounted s counts) (none : counts.waiting ≡ 0) where
  none_there : (b : BlockId) → b.block < length (states_of s b.file) → is_waiting_in s b ≡ false
  none_there b lt = none_passes (is_waiting_in s) (all_blocks s) (sym are.waiting ∙ none) (among s b lt)

  pub none_waits : NoneWaits s.files
  none_waits i f at =
      let states : states_of s i ≡ f.states = ap (λ o. option_map_or (λ (g : FileState). g.states) o []) at in
      none_of f.states (λ j lt.
      sym (ap (λ (o : Option FileState). option_map_or is_waiting (option_and_then (λ g. slice_get g.states j) o) false) at)
      ∙ none_there (block_id i j) (omega (arith, lt, ap (λ (xs : List BlockState). length xs) states)))

no_one : {X : Type 0} (p : X → Bool) (xs : List X) → ((x : X) → p x ≡ false) → count_by p xs ≡ 0
no_one p [] none = refl
no_one p (x ∷ xs) none =
    let off : one_if (p x) ≡ 0 = ap one_if (none x) in
    let step : count_by p (x ∷ xs) ≡ one_if (p x) + count_by p xs = count_cons p x xs in
    omega (arith, off, step, no_one p xs none)

pub none_counted : (s : EngineState) → ((b : BlockId) → is_waiting_in s b ≡ false) → waiting_count s ≡ 0
none_counted s none = no_one (is_waiting_in s) (all_blocks s) none

-- ---- one block has another state

-- the count moves with it
module _ {s t : EngineState} {b : BlockId} (d : DifferAt (b ∷ []) s t) (inside : b.block < length (states_of s b.file)) where
  others_wait : (c : BlockId) → c ≢ b → is_waiting_in t c ≡ is_waiting_in s c
  others_wait c other =
      ap (λ o. option_map_or is_waiting o false)
      (d.others c (λ within. elim (contains_cases [] within) [ inl same ↦ other (sym same) | inr none ↦ contains_none none ]))

  pub waiting_moves : waiting_count s + one_if (is_waiting_in t b) ≡ waiting_count t + one_if (is_waiting_in s b)
  waiting_moves =
      let move = count_but_one (is_waiting_in s) (is_waiting_in t) b (all_blocks s) (all_in_order s) (among s b inside) (λ c other. sym (others_wait c other)) in
      let then : waiting_count t ≡ count_by (is_waiting_in t) (all_blocks s) = ap (λ (bs : List BlockId). count_by (is_waiting_in t) bs) (same_blocks d) in
      omega (arith, move, then)

-- ---- they are not many

-- the place of a block, where each file has as many as one may have
abbrev number : BlockId → ℕ
number b = 67108864 * b.file + b.block

next_number : (b c : BlockId) → IsBefore b c → b.block < 67108864 → number b + 1 ≤ number c
next_number b c (inl lt) small = omega (arith, lt, small)
next_number b c (inr past) small =
    let same = past.0 in
    let lt = past.1 in
    omega (arith, same, lt)

-- blocks in order are not more than the places that they lie among
few_places : (xs : List BlockId) (first n : ℕ) → Pairs IsBefore xs
    → ((c : BlockId) → Contains xs c → (c.block < 67108864) × (first ≤ number c) × (number c < first + n)) → length xs ≤ n
few_places [] first n p each = omega arith
few_places (x ∷ xs) first n p each =
    let own = each x (here xs refl) in
    let low = own.1 in
    let high = own.2 in
    let rest = few_places xs (number x + 1) (first + n - (number x + 1)) p.1 (λ c within. (
    let of = each c (later x xs within) in
    let next = next_number x c (p.0 c within) own.0 in
    let end = of.2 in
    (of.0, next, omega (arith, low, high, end, next))
    )) in
    omega (arith, rest, low, high)

-- 65,536 files have 2^26 blocks each at most
module _ (s : EngineState) (lay : IsLaidOut s.torrent.piece_length s.torrent.files) (lawful : All (IsLawfulFile s.torrent.piece_length) s.torrent.files)
    (has : (c : BlockId) → c.block < length (states_of s c.file) → HasBlock s.torrent c.file c.block) where
  places : (c : BlockId) → Contains (all_blocks s) c → (c.block < 67108864) × (0 ≤ number c) × (number c < 0 + 4398046511104)
  places c within =
      let own = has c (is_among s within) in
      let below = some_below s.torrent.files c.file own.found in
      let entry = ap (λ (f : File). f.length) (get_or_from_slice_get s.torrent.files c.file own.entry own.entry own.found) in
      let limit = (lawful c.file own.entry below).short in
      let short : own.entry.length ≤ 1099511627776 = omega (arith, limit, entry) in
      let inside = own.inside in
      let few = lay.few in
      let block : c.block < 67108864 = omega (arith, inside, short) in
      (block, omega arith, omega (arith, block, below, few))

  pub few_wait : waiting_count s ≤ 4398046511104
  few_wait = omega (arith, few_places (all_blocks s) 0 4398046511104 (all_in_order s) places, count_by-le-length (is_waiting_in s) (all_blocks s))
