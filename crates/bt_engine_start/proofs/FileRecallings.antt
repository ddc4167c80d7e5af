-- Which blocks wait once runs of marks were recalled.
use Rattle.bt_machine.proofs.Base.{[], ◌≡◌, ℕ, zero, suc, ◌+◌, ◌-◌, ◌<◌, ◌≤◌, min, inl, inr, ◌==◌, ◌&&◌, is_some, Bool, true, false, if◌then◌else◌, List, ◌∷◌, length, drop, get_or, filter, Option, Some, None, refl, sym, ap, ◌∙◌, subst, arith, slice_get, slice_set, option_map, option_map_or, range_with_len, length-set, cases_lt, eq-eqb, lt-ltb, le-ltb, Facts, value_at, BlockState, Missing, Marked, Waiting}
use Rattle.std.specs.Prelude.{◌||◌, nat_le, nat_lt}
use Rattle.std.specs.List.{list_any}
use Rattle.std.proofs.lemmas.Bool.{cases_eq, ne_eqb, eqb-true, le-leb, lt-leb}
use Rattle.std.proofs.lemmas.List.Elements.{filter_agree}
use Rattle.std.proofs.lemmas.Map.Views.{any-filter_same}
use Rattle.std.proofs.lemmas.Option.{slice_get_past}
use Rattle.bt_book.specs.declared.names.BlockId.{BlockId}
use Rattle.bt_resume.specs.declared.hint.Hint.{Hint}
use Rattle.bt_resume.specs.declared.hint.Hint.TheVariants.{Marks}
use Rattle.bt_store.specs.BlockStates.{is_missing}
use Rattle.bt_store.specs.FileStore.{StoreView}
use Rattle.bt_store.specs.Law.{all_recalled}
use Rattle.bt_store.specs.Review.{is_missing_at, recalled}
use Rattle.bt_machine.specs.Blocks.{block_id}
use Rattle.bt_machine.specs.Hints.{is_recorded}
use Rattle.bt_machine.specs.Recovery.{recorded_blocks}
use Rattle.bt_machine.proofs.Lists.{some_is, set_same, set_other, get_some, some_below}
use Rattle.bt_engine_start.specs.RecallingSteps.{known_in_run}
use Rattle.bt_engine_state.specs.declared.slot.Slot.{Slot}
use Rattle.bt_engine_start.specs.Runs.{marks_of_run, marks_of}
use Rattle.bt_engine_start.specs.declared.runs.MarkRun.{MarkRun}
use Rattle.bt_engine_start.specs.MarksSteps.{Meant, recalled_store, recalled_in, recalled_slot, with_run}

-- lists that are alike everywhere are one
pub same_lists : {X : Type 0} (xs ys : List X) → ((i : ℕ) → slice_get xs i ≡ slice_get ys i) → xs ≡ ys
same_lists [] [] same = refl
same_lists [] (y ∷ ys) same = absurd (let first = same 0 in cc)
same_lists (x ∷ xs) [] same = absurd (let first = same 0 in cc)
same_lists (x ∷ xs) (y ∷ ys) same = ap (λ z. z ∷ xs) (some_is (same 0)) ∙ ap (λ zs. y ∷ zs) (same_lists xs ys (λ i. same (suc i)))

-- ---- the state of a block that is recalled, or is not

abbrev pub touched : Bool → BlockState → BlockState
touched false state = state
touched true Missing = Waiting
touched true Waiting = Waiting
touched true Marked = Marked

untouched : (o : Option BlockState) → o ≡ option_map (touched false) o
untouched None = refl
untouched (Some x) = refl

touched_twice : (a b : Bool) (o : Option BlockState) → option_map (touched b) (option_map (touched a) o) ≡ option_map (touched (a || b)) o
touched_twice a b None = refl
touched_twice false b (Some x) = refl
touched_twice true false (Some x) = refl
touched_twice true true (Some Missing) = refl
touched_twice true true (Some Waiting) = refl
touched_twice true true (Some Marked) = refl

own_state : (states : List BlockState) (block : ℕ) (o : Option BlockState) → slice_get states block ≡ o
    → slice_get (if option_map_or is_missing o false then slice_set states block Waiting else states) block ≡ option_map (touched true) o
own_state states block None at = at
own_state states block (Some Missing) at = set_same states block at
own_state states block (Some Waiting) at = at
own_state states block (Some Marked) at = at

other_state : (missing : Bool) (states : List BlockState) (block i : ℕ) → (i ≡ block → ⊥)
    → slice_get (if missing then slice_set states block Waiting else states) i ≡ slice_get states i
other_state true states block i apart = set_other states block i Waiting apart
other_state false states block i apart = refl

one_state : (states : List BlockState) (block i : ℕ) → slice_get (recalled states block) i ≡ option_map (touched (block == i)) (slice_get states i)
one_state states block i = elim (cases_eq block i) [
  | inl same ↦
      sym (ap (λ n. slice_get (recalled states block) n) same) ∙ own_state states block (slice_get states block) refl
      ∙ ap (λ n. option_map (touched true) (slice_get states n)) same ∙ ap (λ b. option_map (touched b) (slice_get states i)) (sym (eq-eqb block i same))
  | inr apart ↦
      other_state (is_missing_at states block) states block i (λ e. apart (sym e)) ∙ untouched (slice_get states i)
      ∙ ap (λ b. option_map (touched b) (slice_get states i)) (sym (ne_eqb block i apart))
]

abbrev pub is_among : ℕ → List ℕ → Bool
is_among i blocks = list_any (λ b. b == i) blocks

pub state_then : (states : List BlockState) (blocks : List ℕ) (i : ℕ)
    → slice_get (all_recalled states blocks) i ≡ option_map (touched (is_among i blocks)) (slice_get states i)
state_then states [] i = untouched (slice_get states i)
state_then states (block ∷ blocks) i =
    state_then (recalled states block) blocks i ∙ ap (option_map (touched (is_among i blocks))) (one_state states block i)
    ∙ touched_twice (block == i) (is_among i blocks) (slice_get states i)

length-one : (missing : Bool) (states : List BlockState) (block : ℕ) → length (if missing then slice_set states block Waiting else states) ≡ length states
length-one true states block = length-set states block Waiting
length-one false states block = refl

pub length-recalled : (states : List BlockState) (blocks : List ℕ) → length (all_recalled states blocks) ≡ length states
length-recalled states [] = refl
length-recalled states (block ∷ blocks) = length-recalled (recalled states block) blocks ∙ length-one (is_missing_at states block) states block

-- ---- blocks of a range

pub inside : (a n i : ℕ) → a ≤ i → i < a + n → is_among i (range_with_len a n) ≡ true
inside a zero i low high = absurd (omega arith)
inside a (suc n) i low high = elim (cases_eq a i) [
  | inl same ↦ ap (λ b. b || is_among i (range_with_len (a + 1) n)) (eq-eqb a i same)
  | inr apart ↦
      ap (λ b. b || is_among i (range_with_len (a + 1) n)) (ne_eqb a i apart) ∙ inside (a + 1) n i (omega arith) (omega arith)
]

outside : (a n i : ℕ) → (a ≤ i → i < a + n → ⊥) → is_among i (range_with_len a n) ≡ false
outside a zero i out = refl
outside a (suc n) i out =
    ap (λ b. b || is_among i (range_with_len (a + 1) n)) (ne_eqb a i (λ e. out (omega (arith, e)) (omega (arith, e))))
    ∙ outside (a + 1) n i (λ low high. out (omega (arith, low)) (omega (arith, high)))

-- ---- one run more

both_or : (r w k : Bool) → ((k && w) || ((r && k) && true)) ≡ (((w || r) && k) && true)
both_or true true true = refl
both_or true true false = refl
both_or true false true = refl
both_or true false false = refl
both_or false true true = refl
both_or false true false = refl
both_or false false true = refl
both_or false false false = refl

module _ (dig : List ℕ → List ℕ) (k : Facts) where
  abbrev is_known : ℕ → Bool
  is_known i = is_some (value_at dig k 0 i)

  -- a block of the file is among those that are recorded where hints record it and its leaf is known
  pub among_recorded : (hints : List Hint) (file n i : ℕ) → i < n
      → is_among i (recorded_blocks dig k hints file n) ≡ ((is_recorded hints (block_id file i) && is_some (value_at dig k 0 i)) && true)
  among_recorded hints file n i lt =
      let p : ℕ → Bool = λ j. is_recorded hints (block_id file j) && is_known j in
      any-filter_same (λ b. b == i) p (p i) (λ j e. ap p (eqb-true j i e)) (range_with_len 0 n)
      ∙ ap (λ b. p i && b) (inside 0 n i (omega arith) (omega (arith, lt)))

  abbrev in_run : (first count i : ℕ) → Bool
  in_run first count i = nat_le first i && nat_lt i (first + count)

  run_range : (n first count i : ℕ) → i < n → is_among i (range_with_len first (min count (n - first))) ≡ in_run first count i
  run_range n first count i lt = elim (cases_lt i first) [
    | inl before ↦
        outside first (min count (n - first)) i (λ low high. omega (arith, low, before))
        ∙ sym (ap (λ b. b && nat_lt i (first + count)) (lt-leb first i before))
    | inr from ↦ elim (cases_lt i (first + count)) [
      | inl in_it ↦
          inside first (min count (n - first)) i from (omega (arith, from, in_it, lt))
          ∙ sym (ap (λ b. b && nat_lt i (first + count)) (le-leb first i from) ∙ lt-ltb i (first + count) in_it)
      | inr past ↦
          outside first (min count (n - first)) i (λ low high. omega (arith, high, past))
          ∙ sym (ap (λ b. b && nat_lt i (first + count)) (le-leb first i from) ∙ le-ltb i (first + count) past)
    ]
  ]

  among_run : (n : ℕ) (run : MarkRun) (i : ℕ) → i < n → is_among i (known_in_run dig k n run) ≡ (is_known i && in_run run.first (run.end - run.first) i)
  among_run n run i lt =
      any-filter_same (λ b. b == i) is_known (is_known i) (λ j e. ap is_known (eqb-true j i e))
      (range_with_len run.first (min (run.end - run.first) (n - run.first)))
      ∙ ap (λ b. is_known i && b) (run_range n run.first (run.end - run.first) i lt)

  one_more : (hints : List Hint) (n : ℕ) (run : MarkRun) (i : ℕ) → i < n
      → (is_among i (known_in_run dig k n run) || is_among i (recorded_blocks dig k hints run.file n))
      ≡ is_among i (recorded_blocks dig k (marks_of_run run ∷ hints) run.file n)
  one_more hints n run i lt =
      let file = run.file in
      let first = run.first in
      let count = run.end - run.first in
      let r = is_recorded hints (block_id file i) in
      ap (λ b. b || is_among i (recorded_blocks dig k hints file n)) (among_run n run i lt)
      ∙ ap (λ b. (is_known i && in_run first count i) || b) (among_recorded hints file n i lt)
      ∙ both_or r (in_run first count i) (is_known i)
      ∙ ap (λ b. (((b && in_run first count i) || r) && is_known i) && true) (sym (eq-eqb file file refl))
      ∙ sym (among_recorded (Marks file first count ∷ hints) file n i lt)

  -- first the blocks of a run, and then those that other hints record
  pub run_then : (hints : List Hint) (run : MarkRun) (states : List BlockState)
      → all_recalled (all_recalled states (known_in_run dig k (length states) run)) (recorded_blocks dig k hints run.file (length states))
      ≡ all_recalled states (recorded_blocks dig k (marks_of_run run ∷ hints) run.file (length states))
  run_then hints run states =
      let n = length states in
      let one = known_in_run dig k n run in
      let rest = recorded_blocks dig k hints run.file n in
      let all = recorded_blocks dig k (marks_of_run run ∷ hints) run.file n in
      same_lists (all_recalled (all_recalled states one) rest) (all_recalled states all)
      (λ i. elim (cases_lt i n) [
        | inl lt ↦
            state_then (all_recalled states one) rest i ∙ ap (option_map (touched (is_among i rest))) (state_then states one i)
            ∙ touched_twice (is_among i one) (is_among i rest) (slice_get states i)
            ∙ ap (λ b. option_map (touched b) (slice_get states i)) (one_more hints n run i lt) ∙ sym (state_then states all i)
        | inr past ↦
            slice_get_past (all_recalled (all_recalled states one) rest) i
            (omega (arith, past, length-recalled (all_recalled states one) rest, length-recalled states one))
            ∙ sym (slice_get_past (all_recalled states all) i (omega (arith, past, length-recalled states all)))
      ])

  -- a run of another file
  pub other_run : (hints : List Hint) (file n other first count : ℕ) → (other ≡ file → ⊥)
      → recorded_blocks dig k hints file n ≡ recorded_blocks dig k (Marks other first count ∷ hints) file n
  other_run hints file n other first count apart =
      filter_agree (λ i. is_recorded hints (block_id file i) && is_known i) (λ i. is_recorded (Marks other first count ∷ hints) (block_id file i) && is_known i)
      (λ i. ap (λ b. ((b && in_run first count i) || is_recorded hints (block_id file i)) && is_known i) (sym (ne_eqb other file apart)))
      (range_with_len 0 n)

  -- what other hints record as well
  pub recorded_alike : (hints more : List Hint) (file n : ℕ) → ((b : BlockId) → is_recorded more b ≡ is_recorded hints b)
      → recorded_blocks dig k more file n ≡ recorded_blocks dig k hints file n
  recorded_alike hints more file n same =
      filter_agree (λ i. is_recorded more (block_id file i) && is_known i) (λ i. is_recorded hints (block_id file i) && is_known i)
      (λ i. ap (λ b. b && is_known i) (same (block_id file i))) (range_with_len 0 n)

  none_filtered : (p : ℕ → Bool) (xs : List ℕ) → filter (λ i. false && p i) xs ≡ []
  none_filtered p [] = refl
  none_filtered p (x ∷ xs) = none_filtered p xs

  pub none_recorded : (file n : ℕ) → recorded_blocks dig k [] file n ≡ []
  none_recorded file n = none_filtered is_known (range_with_len 0 n)

-- ---- slots

module _ {D H : Type 0} (trees : List Facts) where
  abbrev pub with_store : Slot D H → Option (StoreView D) → Slot D H
  with_store slot o = record slot { store = o }

  -- a file without a block, or whose tree is not there, stays
  pub empty_kept : (a : Meant) (slot : Slot D H) → slot.store ≡ None → recalled_in a trees slot ≡ slot
  empty_kept a slot none = by (slice_get trees slot.tree)
    where
      by : (o : Option Facts) → option_map_or (λ k. record slot { store = option_map (recalled_store a k) slot.store }) o slot ≡ slot
      by None = refl
      by (Some k) = ap (with_store slot) (ap (option_map (recalled_store a k)) none ∙ sym none)

  pub one_recalled : (a : Meant) (slot : Slot D H) {store : StoreView D} {k : Facts} → slot.store ≡ Some store → slice_get trees slot.tree ≡ Some k
      → recalled_in a trees slot ≡ with_store slot (Some (recalled_store a k store))
  one_recalled a slot {store} {k} has stands =
      ap (λ o. option_map_or (λ k. record slot { store = option_map (recalled_store a k) slot.store }) o slot) stands
      ∙ ap (λ (o : Option (StoreView D)). with_store slot (option_map (recalled_store a k) o)) has

  -- the same blocks are meant
  meant_alike : (a b : Meant) → ((k : Facts) (n : ℕ) → a k n ≡ b k n) → (slot : Slot D H) → recalled_in a trees slot ≡ recalled_in b trees slot
  meant_alike a b same slot = by (slice_get trees slot.tree)
    where
      store : (k : Facts) (o : Option (StoreView D)) → option_map (recalled_store a k) o ≡ option_map (recalled_store b k) o
      store k None = refl
      store k (Some s) = ap (λ blocks. Some (record s { states = all_recalled s.states blocks })) (same k (length s.states))

      by : (o : Option Facts) → option_map_or (λ k. record slot { store = option_map (recalled_store a k) slot.store }) o slot
          ≡ option_map_or (λ k. record slot { store = option_map (recalled_store b k) slot.store }) o slot
      by None = refl
      by (Some k) = ap (with_store slot) (store k slot.store)

  meant_none : (a : Meant) → ((k : Facts) (n : ℕ) → a k n ≡ []) → (slot : Slot D H) → recalled_in a trees slot ≡ slot
  meant_none a none slot = by (slice_get trees slot.tree)
    where
      store : (k : Facts) (o : Option (StoreView D)) → option_map (recalled_store a k) o ≡ o
      store k None = refl
      store k (Some s) = ap (λ blocks. Some (record s { states = all_recalled s.states blocks })) (none k (length s.states))

      by : (o : Option Facts) → option_map_or (λ k. record slot { store = option_map (recalled_store a k) slot.store }) o slot ≡ slot
      by None = refl
      by (Some k) = ap (with_store slot) (store k slot.store)

  -- some blocks, and then others, come to all
  meant_both : (a b c : Meant) → ((k : Facts) (states : List BlockState)
      → all_recalled (all_recalled states (a k (length states))) (b k (length states)) ≡ all_recalled states (c k (length states)))
      → (slot : Slot D H) → recalled_in b trees (recalled_in a trees slot) ≡ recalled_in c trees slot
  meant_both a b c both slot = by (slice_get trees slot.tree) refl
    where
      store : (k : Facts) (o : Option (StoreView D)) → option_map (recalled_store b k) (option_map (recalled_store a k) o) ≡ option_map (recalled_store c k) o
      store k None = refl
      store k (Some s) =
          let first = all_recalled s.states (a k (length s.states)) in
          ap (λ n. Some (record s { states = all_recalled first (b k n) })) (length-recalled s.states (a k (length s.states)))
          ∙ ap (λ states. Some (record s { states = states })) (both k s.states)

      by : (o : Option Facts) → slice_get trees slot.tree ≡ o
          → recalled_in b trees (option_map_or (λ k. record slot { store = option_map (recalled_store a k) slot.store }) o slot)
          ≡ option_map_or (λ k. record slot { store = option_map (recalled_store c k) slot.store }) o slot
      by None at = ap (λ o. option_map_or (λ k. record slot { store = option_map (recalled_store b k) slot.store }) o slot) at
      by (Some k) at =
          let next = with_store slot (option_map (recalled_store a k) slot.store) in
          ap (λ o. option_map_or (λ j. record next { store = option_map (recalled_store b j) next.store }) o next) at
          ∙ ap (with_store slot) (store k slot.store)

  module _ (dig : List ℕ → List ℕ) (hints : List Hint) where
    slot_run : (run : MarkRun) (slot : Slot D H)
        → recalled_slot dig hints trees run.file (with_run dig trees run slot) ≡ recalled_slot dig (marks_of_run run ∷ hints) trees run.file slot
    slot_run run slot =
        meant_both (λ k blocks. known_in_run dig k blocks run) (λ k n. recorded_blocks dig k hints run.file n)
        (λ k n. recorded_blocks dig k (marks_of_run run ∷ hints) run.file n) (λ k states. run_then dig k hints run states) slot

    slots_alike : (more : List Hint) (file : ℕ) → ((b : BlockId) → is_recorded more b ≡ is_recorded hints b) → (slot : Slot D H)
        → recalled_slot dig more trees file slot ≡ recalled_slot dig hints trees file slot
    slots_alike more file same slot =
        meant_alike (λ k n. recorded_blocks dig k more file n) (λ k n. recorded_blocks dig k hints file n) (λ k n. recorded_alike dig k hints more file n same) slot

    -- other hints with the same marks recall the same blocks
    pub recalled_alike : (more : List Hint) (file : ℕ) → ((b : BlockId) → is_recorded more b ≡ is_recorded hints b) → (o : Option (Slot D H))
        → option_map (recalled_slot dig more trees file) o ≡ option_map (recalled_slot dig hints trees file) o
    recalled_alike more file same None = refl
    recalled_alike more file same (Some slot) = ap (λ s. Some s) (slots_alike more file same slot)

    slot_other : (file other first count : ℕ) (slot : Slot D H) → (other ≡ file → ⊥)
        → recalled_slot dig hints trees file slot ≡ recalled_slot dig (Marks other first count ∷ hints) trees file slot
    slot_other file other first count slot apart =
        meant_alike (λ k n. recorded_blocks dig k hints file n) (λ k n. recorded_blocks dig k (Marks other first count ∷ hints) file n)
        (λ k n. other_run dig k hints file n other first count apart) slot

  slot_none : (dig : List ℕ → List ℕ) (file : ℕ) (slot : Slot D H) → recalled_slot dig [] trees file slot ≡ slot
  slot_none dig file slot = meant_none (λ k n. recorded_blocks dig k [] file n) (λ k n. none_recorded dig k file n) slot

-- ---- hints, one after the other

-- what the rest of the hints makes of the slots now is what all of them make of the slots before
abbrev pub RecallsTo : {D H : Type 0} → (List ℕ → List ℕ) → List Facts → (all rest : List Hint) → (old now : List (Slot D H)) → Type 0
RecallsTo dig trees all rest old now = (i : ℕ)
    → option_map (recalled_slot dig rest trees i) (slice_get now i) ≡ option_map (recalled_slot dig all trees i) (slice_get old i)

module _ {D H : Type 0} (dig : List ℕ → List ℕ) (trees : List Facts) (all rest : List Hint) (old now : List (Slot D H)) where
  pub recall_first : rest ≡ all → RecallsTo dig trees all rest old old
  recall_first is i = ap (λ (hs : List Hint). option_map (recalled_slot dig hs trees i) (slice_get old i)) is

  others_alike : (i file first count : ℕ) (o : Option (Slot D H)) → ((slot : Slot D H) → o ≡ Some slot → file ≡ i → ⊥)
      → option_map (recalled_slot dig rest trees i) o ≡ option_map (recalled_slot dig (Marks file first count ∷ rest) trees i) o
  others_alike i file first count None apart = refl
  others_alike i file first count (Some slot) apart = ap (λ s. Some s) (slot_other trees dig rest i file first count slot (apart slot refl))

  module _ (next : List (Slot D H)) (run : MarkRun)
      (in_it : (slot : Slot D H) → slice_get now run.file ≡ Some slot → next ≡ slice_set now run.file (with_run dig trees run slot))
      (out : length now ≤ run.file → next ≡ now) where
    abbrev Steps : ℕ → Type 0
    Steps i = option_map (recalled_slot dig rest trees i) (slice_get next i)
        ≡ option_map (recalled_slot dig (marks_of_run run ∷ rest) trees i) (slice_get now i)

    steps_there : (slot : Slot D H) → slice_get now run.file ≡ Some slot → (i : ℕ) → Steps i
    steps_there slot at i =
        let file = run.file in
        let new = with_run dig trees run slot in
        elim (cases_eq i file) [
          | inl same ↦ subst (λ n. Steps n) (sym same)
              (ap (λ (slots : List (Slot D H)). option_map (recalled_slot dig rest trees file) (slice_get slots file)) (in_it slot at)
              ∙ ap (option_map (recalled_slot dig rest trees file)) (set_same now file {x = new} at)
              ∙ ap (λ s. Some s) (slot_run trees dig rest run slot)
              ∙ ap (option_map (recalled_slot dig (marks_of_run run ∷ rest) trees file)) (sym at))
          | inr apart ↦
              ap (λ (slots : List (Slot D H)). option_map (recalled_slot dig rest trees i) (slice_get slots i)) (in_it slot at)
              ∙ ap (option_map (recalled_slot dig rest trees i)) (set_other now file i new apart)
              ∙ others_alike i file run.first (run.end - run.first) (slice_get now i) (λ s e same. apart (sym same))
        ]

    steps_past : length now ≤ run.file → (i : ℕ) → Steps i
    steps_past past i =
        ap (λ (slots : List (Slot D H)). option_map (recalled_slot dig rest trees i) (slice_get slots i)) (out past)
        ∙ others_alike i run.file run.first (run.end - run.first) (slice_get now i) (λ s e same. (let lt = some_below now i e in omega (arith, lt, past, same)))

    pub recall_on : (hints : List Hint) → hints ≡ marks_of_run run ∷ rest → RecallsTo dig trees all hints old now → RecallsTo dig trees all rest old next
    recall_on hints is leads i =
        let before : RecallsTo dig trees all (marks_of_run run ∷ rest) old now = subst (λ (hs : List Hint). RecallsTo dig trees all hs old now) is leads in
        elim (cases_lt run.file (length now)) [
          | inl lt ↦ (let slot = get_some now run.file lt in steps_there slot.0 slot.1 i ∙ before i)
          | inr past ↦ steps_past past i ∙ before i
        ]

  none_stays : (i : ℕ) (o : Option (Slot D H)) → o ≡ option_map (recalled_slot dig [] trees i) o
  none_stays i None = refl
  none_stays i (Some slot) = ap (λ s. Some s) (sym (slot_none trees dig i slot))

  pub recall_last : rest ≡ [] → RecallsTo dig trees all rest old now → (i : ℕ) → slice_get now i ≡ option_map (recalled_slot dig all trees i) (slice_get old i)
  recall_last none leads i =
      none_stays i (slice_get now i) ∙ subst (λ (hs : List Hint). RecallsTo dig trees all hs old now) none leads i

-- of the runs from one on, the first
pub marks_from : (runs : List MarkRun) (i : ℕ) {run : MarkRun} (d : MarkRun) → i < length runs → run ≡ get_or runs i d
    → marks_of (drop i runs) ≡ marks_of_run run ∷ marks_of (drop (i + 1) runs)
marks_from [] i d lt is = absurd (omega (arith, lt))
marks_from (first ∷ runs) zero {run} d lt is = ap (λ r. marks_of_run r ∷ marks_of runs) (sym is)
marks_from (first ∷ runs) (suc i) {run} d lt is =
    let further : suc (i + 1) ≡ suc i + 1 = omega arith in
    marks_from runs i d (omega (arith, lt)) is ∙ ap (λ n. marks_of_run run ∷ marks_of (drop n (first ∷ runs))) further
