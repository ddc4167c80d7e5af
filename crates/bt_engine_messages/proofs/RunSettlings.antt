-- The blocks of a run, settled file by file.
use Rattle.bt_machine.proofs.Base.{◌≡◌, ◌≢◌, ℕ, zero, suc, ◌+◌, ◌-◌, ◌<◌, ◌≤◌, min, ◌⊎◌, inl, inr, Bool, true, false, cond, ◌&&◌, List, [], ◌∷◌, ◌++◌, length, map, filter, flat_map, take, drop, Option, Some, None, is_some, refl, sym, ap, ◌∙◌, subst, arith, ◌==◌, eq-eqb, eqb-true, slice_get, slice_set, option_map_or, if◌then◌else◌, is_waiting, range_with_len, filter-append, append-nil, length-set, Facts, value_at, BlockRead, call_of, judged, waiting_blocks, is_waiting_at, BlockState, cases_lt, option_map, get_or, All, sum_by}
use Rattle.std.proofs.Common.{append_assoc}
use Rattle.std.proofs.lemmas.Grind.{flat_map-append}
use Rattle.std.proofs.lemmas.Bool.{cases_eq}
use Rattle.std.specs.List.{count_by}
use Rattle.std.proofs.lemmas.List.Sums.{sum_by-cons, sum_by_more, sum_by-drop_more}
use Rattle.std.proofs.lemmas.Option.{slice_get-get_or, get_or_from_slice_get}
use Rattle.bt_disk.specs.Calls.{HasCalls}
use Rattle.bt_disk.proofs.CallLists.{has_none}
use Rattle.bt_store.specs.FileStore.{StoreView}
use Rattle.bt_store.proofs.Reviews.{range_split, nothing_waits}
use Rattle.bt_machine.proofs.Lists.{some_is, some_below, get_some, set_id, set_same, set_other}
use Rattle.bt_machine.specs.declared.answer.Note.{Note}
use Rattle.bt_machine.specs.Settling.{settling_notes, due_blocks}
use Rattle.bt_engine_messages.specs.SettlingSteps.{SettlesBlocks, is_due}
use Rattle.bt_engine_state.specs.Parts.{file_of, disk_of}
use Rattle.bt_engine_state.specs.Ties.{NoneWaits}
use Rattle.bt_engine_state.proofs.Chains.{NoneOfTree}
use Rattle.bt_engine_state.proofs.Lists.{get_mapped}
use Rattle.bt_engine_messages.specs.NoteRooms.{note_room, slot_room}
use Rattle.bt_engine_messages.specs.RunSteps.{HasCallsIfAny, SettlesSlot, SettlesSlots}
use Rattle.bt_engine_state.specs.declared.slot.Slot.{Slot}
use Rattle.bt_disk.specs.Conduct.{Conduct}

-- ---- a run that goes past the file's end

module _ (dig : List ℕ → List ℕ) (k : Facts) (states : List BlockState) where
  waits_past : (i : ℕ) (o : Option BlockState) → slice_get states i ≡ o → length states ≤ i → is_waiting_at states i ≡ false
  waits_past i None at past = rw at refl
  waits_past i (Some x) at past = absurd (let lt = some_below states i at in omega arith)

  pub none_past : (from count : ℕ) → length states ≤ from → waiting_blocks dig k states from count ≡ []
  none_past from zero past = refl
  none_past from (suc count) past =
      ap (λ b. cond (b && is_some (value_at dig k 0 from)) (from ∷ waiting_blocks dig k states (from + 1) count) (waiting_blocks dig k states (from + 1) count))
      (waits_past from (slice_get states from) refl past)
      ∙ none_past (from + 1) count (omega arith)

  cut_by : (from count rest : ℕ) → length states ≤ from + count → waiting_blocks dig k states from (count + rest) ≡ waiting_blocks dig k states from count
  cut_by from count rest past =
      ap (filter (is_due dig k states)) (range_split from count rest)
      ∙ filter-append (is_due dig k states) (range_with_len from count) (range_with_len (from + count) rest)
      ∙ ap (λ xs. waiting_blocks dig k states from count ++ xs) (none_past (from + count) rest past)
      ∙ append-nil (waiting_blocks dig k states from count)

  pub due_cut : (from count blocks : ℕ) → length states ≡ blocks → from < blocks
      → waiting_blocks dig k states from (min count (blocks - from)) ≡ waiting_blocks dig k states from count
  due_cut from count blocks size lt =
      let whole : count ≡ min count (blocks - from) + (count - (blocks - from)) = omega arith in
      elim (cut_or_whole count (blocks - from)) [
        | inl same ↦ ap (waiting_blocks dig k states from) same
        | inr less ↦ sym (ap (waiting_blocks dig k states from) whole ∙ cut_by from (min count (blocks - from)) (count - (blocks - from)) (omega arith))
      ]
    where
      cut_or_whole : (a b : ℕ) → (min a b ≡ a) ⊎ (min a b ≡ b)
      cut_or_whole a b = elim (cases_lt a b) [ inl lt ↦ inl (omega arith) | inr le ↦ inr (omega arith) ]

-- ---- one file

nothing_called : {D : Type 0} (conduct : Conduct D) (disk : Option D)
    → HasCallsIfAny conduct disk [] disk
nothing_called conduct None = (refl, refl)
nothing_called conduct (Some disk) = (disk, refl, has_none conduct disk)

module _ {D H : Type 0} (conduct : Conduct D) (dig : List ℕ → List ℕ) (k : Facts) (tree from count : ℕ) where
  -- nothing is due
  pub slot_kept : (slot : Slot D H) → due_blocks dig k tree from count (file_of slot) ≡ [] → SettlesSlot conduct dig k tree from count slot [] slot
  slot_kept slot none = record { due = sym none; judged = refl; same_file = refl; made = nothing_called conduct (disk_of slot) }

  pub of_other : (slot : Slot D H) → slot.tree ≢ tree → due_blocks dig k tree from count (file_of slot) ≡ []
  of_other slot apart = by (slot.tree == tree) refl
    where
      by : (b : Bool) → (slot.tree == tree) ≡ b → cond b (waiting_blocks dig k (file_of slot).states from count) [] ≡ []
      by true e = absurd (apart (eqb-true slot.tree tree e))
      by false e = refl

  pub of_tree : (slot : Slot D H) → slot.tree ≡ tree → waiting_blocks dig k (file_of slot).states from count ≡ due_blocks dig k tree from count (file_of slot)
  of_tree slot same = ap (λ b. cond b (waiting_blocks dig k (file_of slot).states from count) []) (sym (eq-eqb slot.tree tree same))

  pub of_empty : (slot : Slot D H) → slot.store ≡ None → waiting_blocks dig k (file_of slot).states from count ≡ []
  of_empty slot empty =
      ap (λ (store : Option (StoreView D)). waiting_blocks dig k (option_map_or (λ s. s.states) store []) from count) empty
      ∙ none_past dig k [] from count (omega arith)

  -- the blocks of its store were settled, up to the file's end
  pub slot_settled : (slot : Slot D H) (old new : StoreView D) (cut file : ℕ) (before after : List Note)
      → slot.tree ≡ tree → slot.store ≡ Some old → k.file_length ≡ old.file_length
      → waiting_blocks dig k old.states from cut ≡ waiting_blocks dig k old.states from count
      → (s : SettlesBlocks conduct dig k file from cut old before after new)
      → SettlesSlot conduct dig k tree from count slot s.reads (record slot { store = Some new })
  slot_settled slot old new cut file before after same has length cut_is s = record {
    due = s.judged.device.in_order ∙ cut_is
        ∙ ap (λ (store : Option (StoreView D)). waiting_blocks dig k (option_map_or (λ st. st.states) store []) from count) (sym has)
        ∙ of_tree slot same;
    judged =
        ap (λ (states : List BlockState). record { tree = slot.tree; states = states })
        (s.judged.states ∙ ap (λ (store : Option (StoreView D)). judged dig k false s.reads (option_map_or (λ st. st.states) store [])) (sym has));
    same_file = ap (λ n. Some n) s.judged.same_file ∙ sym (ap (option_map (λ st. st.file_length)) has);
    made = subst (λ (disk : Option (StoreView D)). HasCallsIfAny conduct (option_map (λ st. st.disk) disk) (map (call_of k.file_length) s.reads) (Some new.disk)) (sym has)
        (new.disk, refl, subst (λ (n : ℕ). HasCalls conduct old.disk (map (call_of n) s.reads) new.disk) (sym length) s.judged.device.calls);
  }

-- ---- a file that is not of the tree

abbrev IsOff : {D H : Type 0} → ℕ → Slot D H → Type 0
IsOff tree slot = slot.tree ≡ tree → slot.store ≡ None

module _ {D H : Type 0} (tree count : ℕ) (slot : Slot D H) (off : IsOff tree slot) where
  off_due : (conduct : Conduct D) (dig : List ℕ → List ℕ) (k : Facts) (from : ℕ) → due_blocks dig k tree from count (file_of slot) ≡ []
  off_due conduct dig k from = elim (cases_eq slot.tree tree) [
    | inl same ↦ (
        sym (of_tree conduct dig k tree from count slot same) ∙ of_empty conduct dig k tree from count slot (off same)
        )
    | inr apart ↦ of_other conduct dig k tree from count slot apart
  ]

  off_room : slot_room tree count slot ≡ 0
  off_room = by (slot.tree == tree) refl
    where
      by : (b : Bool) → (slot.tree == tree) ≡ b → cond b (option_map_or (λ (store : StoreView D). note_room count store.states) slot.store 0) 0 ≡ 0
      by true e = ap (λ o. option_map_or (λ (store : StoreView D). note_room count store.states) o 0) (off (eqb-true slot.tree tree e))
      by false e = refl

-- what is 0 adds nothing
module _ {X : Type 0} (f : X → ℕ) (xs : List X) where
  abbrev AreNought : (i j : ℕ) → Type 0
  AreNought i j = (n : ℕ) (x : X) → i ≤ n → n < j → slice_get xs n ≡ Some x → f x ≡ 0

  nought_at : (i j : ℕ) → i < j → j ≤ length xs → AreNought i j → (x : X) × (f (get_or xs i x) ≡ 0)
  nought_at i j lt inside none =
      let x = get_some xs i (omega arith) in
      (x.0, ap f (get_or_from_slice_get xs i x.0 x.0 x.1) ∙ none i x.0 (omega arith) lt x.1)

  take_by : (gap i : ℕ) → i + gap ≤ length xs → AreNought i (i + gap) → sum_by f (take (i + gap) xs) ≡ sum_by f (take i xs)
  take_by zero i inside none = ap (λ n. sum_by f (take n xs)) (omega arith)
  take_by (suc gap) i inside none =
      let x = nought_at i (i + suc gap) (omega arith) inside none in
      let step : (i + 1) + gap ≡ i + suc gap = omega arith in
      let rest = take_by gap (i + 1) (omega (arith, inside)) (λ n y low lt. none n y (omega arith) (omega (arith, lt))) in
      ap (λ n. sum_by f (take n xs)) (sym step) ∙ rest ∙ omega (arith, sum_by_more f xs i x.0 (omega (arith, inside)), x.1)

  drop_by : (gap i : ℕ) → i + gap ≤ length xs → AreNought i (i + gap) → sum_by f (drop (i + gap) xs) ≡ sum_by f (drop i xs)
  drop_by zero i inside none = ap (λ n. sum_by f (drop n xs)) (omega arith)
  drop_by (suc gap) i inside none =
      let x = nought_at i (i + suc gap) (omega arith) inside none in
      let step : (i + 1) + gap ≡ i + suc gap = omega arith in
      let rest = drop_by gap (i + 1) (omega (arith, inside)) (λ n y low lt. none n y (omega arith) (omega (arith, lt))) in
      ap (λ n. sum_by f (drop n xs)) (sym step) ∙ rest ∙ omega (arith, sum_by-drop_more f xs i x.0 (omega (arith, inside)), x.1)

module _ {D H : Type 0} (slots : List (Slot D H)) (tree count i j : ℕ) (low : i ≤ j) (inside : j ≤ length slots) (none : NoneOfTree slots tree i j) where
  off_between : AreNought (slot_room tree count) slots i (i + (j - i))
  off_between n slot from lt at = off_room tree count slot (none n slot from (omega (arith, lt, low)) at)

  whole : i + (j - i) ≡ j
  whole = omega (arith, low)

  -- the room that the files of the tree take, where others are passed
  pub room_taken : sum_by (slot_room tree count) (take j slots) ≡ sum_by (slot_room tree count) (take i slots)
  room_taken = ap (λ n. sum_by (slot_room tree count) (take n slots)) (sym whole) ∙ take_by (slot_room tree count) slots (j - i) i (omega (arith, low, inside)) off_between

  pub room_left : sum_by (slot_room tree count) (drop j slots) ≡ sum_by (slot_room tree count) (drop i slots)
  room_left = ap (λ n. sum_by (slot_room tree count) (drop n slots)) (sym whole) ∙ drop_by (slot_room tree count) slots (j - i) i (omega (arith, low, inside)) off_between

-- no block waits
sum_nought : {X : Type 0} (f : X → ℕ) (xs : List X) → ((i : ℕ) (x : X) → slice_get xs i ≡ Some x → f x ≡ 0) → sum_by f xs ≡ 0
sum_nought f [] none = refl
sum_nought f (x ∷ xs) none = omega (arith, sum_by-cons f x xs, none 0 x refl, sum_nought f xs (λ i y at. none (suc i) y at))

pub idle_room : {D H : Type 0} (slots : List (Slot D H)) (tree count : ℕ) → NoneWaits (map file_of slots) → sum_by (slot_room tree count) slots ≡ 0
idle_room {D} {H} slots tree count none =
    sum_nought (slot_room tree count) slots (λ i slot at. by (slot.tree == tree) slot.store (none i (file_of slot) (get_mapped file_of slots i at)))
  where
    by : (b : Bool) (o : Option (StoreView D)) → count_by is_waiting (option_map_or (λ store. store.states) o []) ≡ 0
        → cond b (option_map_or (λ store. note_room count store.states) o 0) 0 ≡ 0
    by true None none = refl
    by true (Some store) none = omega (arith, none)
    by false o none = refl

-- ---- all files

flat_map_alike : {Y : Type 0} (f g : ℕ → List Y) (a n : ℕ) → ((j : ℕ) → a ≤ j → j < a + n → f j ≡ g j) → flat_map f (range_with_len a n) ≡ flat_map g (range_with_len a n)
flat_map_alike f g a zero same = refl
flat_map_alike f g a (suc n) same =
    ap (λ ys. ys ++ flat_map f (range_with_len (a + 1) n)) (same a (omega arith) (omega arith))
    ∙ ap (λ ys. g a ++ ys) (flat_map_alike f g (a + 1) n (λ j low lt. same j (omega arith) (omega arith)))

flat_map_more : {Y : Type 0} (f : ℕ → List Y) (i : ℕ) → flat_map f (range_with_len 0 (i + 1)) ≡ flat_map f (range_with_len 0 i) ++ f i
flat_map_more f i =
    let place : 0 + i ≡ i = omega arith in
    ap (λ xs. flat_map f xs) (range_split 0 i 1) ∙ flat_map-append f (range_with_len 0 i) (range_with_len (0 + i) 1)
    ∙ ap (λ j. flat_map f (range_with_len 0 i) ++ (f j ++ [])) place
    ∙ ap (λ ys. flat_map f (range_with_len 0 i) ++ ys) (append-nil (f i))

-- these reads at i, and the others elsewhere
abbrev reads_with : ℕ → List BlockRead → (ℕ → List BlockRead) → ℕ → List BlockRead
reads_with i reads others file = cond (file == i) reads (others file)

reads_here : (i : ℕ) (reads : List BlockRead) (others : ℕ → List BlockRead) → reads_with i reads others i ≡ reads
reads_here i reads others = ap (λ b. cond b reads (others i)) (eq-eqb i i refl)

reads_other : (i : ℕ) (reads : List BlockRead) (others : ℕ → List BlockRead) (j : ℕ) → j ≢ i → reads_with i reads others j ≡ others j
reads_other i reads others j apart = by (j == i) refl
  where
    by : (b : Bool) → (j == i) ≡ b → cond b reads (others j) ≡ others j
    by true e = absurd (apart (eqb-true j i e))
    by false e = refl

module _ {D H : Type 0} (conduct : Conduct D) (dig : List ℕ → List ℕ) (k : Facts) (tree from count : ℕ)
    (old : List (Slot D H)) (before : List Note) where
  -- a file is settled by these reads
  abbrev pub IsSettled : ℕ → Slot D H → List BlockRead → List (Slot D H) → Type 0
  IsSettled file slot reads now = (settled : Slot D H) × (slice_get now file ≡ Some settled)
      × SettlesSlot conduct dig k tree from count slot reads settled

  -- those before one are settled, and the others are as they were
  pub record AreSettledTo (i : ℕ) (notes : List Note) (now : List (Slot D H)) : Type 0 where
    pub reads : ℕ → List BlockRead
    pub each : (file : ℕ) (slot : Slot D H) → file < i → slice_get old file ≡ Some slot → IsSettled file slot (reads file) now
    pub rest : (file : ℕ) → i ≤ file → slice_get now file ≡ slice_get old file
    pub size : length now ≡ length old
    pub noted : notes ≡ before ++ flat_map (λ file. settling_notes dig k file (reads file)) (range_with_len 0 i)

  pub settled_none : AreSettledTo 0 before old
  settled_none = record {
    reads = λ file. [];
    each = λ file slot lt at. absurd (omega arith);
    rest = λ file le. refl;
    size = refl;
    noted = sym (append-nil before);
  }

  pub settled_more : (i : ℕ) (notes more : List Note) (now : List (Slot D H)) {slot : Slot D H} (new : Slot D H) (reads : List BlockRead)
      → AreSettledTo i notes now → slice_get now i ≡ Some slot → SettlesSlot conduct dig k tree from count slot reads new
      → more ≡ notes ++ settling_notes dig k i reads → AreSettledTo (i + 1) more (slice_set now i new)
  settled_more i notes more now {slot} new reads a at settles noted = record {
    reads = reads_with i reads a.reads;
    each = λ file was lt there. by_file file was lt there (file == i) refl;
    rest = λ file le. set_other now i file new (λ e. absurd (omega arith)) ∙ a.rest file (omega arith);
    size = length-set now i new ∙ a.size;
    noted = noted ∙ ap (λ ns. ns ++ settling_notes dig k i reads) a.noted
        ∙ append_assoc before (flat_map (λ file. settling_notes dig k file (a.reads file)) (range_with_len 0 i)) (settling_notes dig k i reads)
        ∙ ap (λ ns. before ++ (ns ++ settling_notes dig k i reads))
        (flat_map_alike (λ file. settling_notes dig k file (a.reads file)) (λ file. settling_notes dig k file (reads_with i reads a.reads file)) 0 i
        (λ j low lt. ap (settling_notes dig k j) (sym (reads_other i reads a.reads j (λ e. absurd (omega arith))))))
        ∙ ap (λ rs. before ++ (flat_map (λ file. settling_notes dig k file (reads_with i reads a.reads file)) (range_with_len 0 i) ++ settling_notes dig k i rs)) (sym (reads_here i reads a.reads))
        ∙ ap (λ ns. before ++ ns) (sym (flat_map_more (λ file. settling_notes dig k file (reads_with i reads a.reads file)) i));
  }
    where
      by_file : (file : ℕ) (was : Slot D H) → file < i + 1 → slice_get old file ≡ Some was → (b : Bool) → (file == i) ≡ b
          → IsSettled file was (reads_with i reads a.reads file) (slice_set now i new)
      by_file file was lt there true e =
          let same : file ≡ i = eqb-true file i e in
          let is : slot ≡ was = some_is (sym at ∙ a.rest i (omega arith) ∙ ap (slice_get old) (sym same) ∙ there) in (
            new,
            ap (slice_get (slice_set now i new)) same ∙ set_same now i at,
            subst (λ (r : List BlockRead). SettlesSlot conduct dig k tree from count was r new) (sym (ap (reads_with i reads a.reads) same ∙ reads_here i reads a.reads))
                (subst (λ (s : Slot D H). SettlesSlot conduct dig k tree from count s reads new) is settles),
          )
      by_file file was lt there false e =
          let apart : file ≢ i = (λ same. absurd (let t = eq-eqb file i same in cc)) in
          let before_it = a.each file was (omega (arith, apart)) there in (
            before_it.0,
            set_other now i file new apart ∙ before_it.1,
            subst (λ (r : List BlockRead). SettlesSlot conduct dig k tree from count was r before_it.0) (sym (reads_other i reads a.reads file apart)) before_it.2,
          )

  past : (gap i : ℕ) (notes : List Note) (now : List (Slot D H)) → AreSettledTo i notes now → i + gap ≤ length old → NoneOfTree old tree i (i + gap)
      → AreSettledTo (i + gap) notes now
  past zero i notes now a inside none = subst (λ n. AreSettledTo n notes now) (omega arith) a
  past (suc gap) i notes now a inside none =
      let slot = get_some old i (omega arith) in
      let at : slice_get now i ≡ Some slot.0 = a.rest i (omega arith) ∙ slot.1 in
      let quiet = slot_kept conduct dig k tree from count slot.0
      (off_due tree count slot.0 (none i slot.0 (omega arith) (omega arith) slot.1) conduct dig k from) in
      let one = settled_more i notes notes now slot.0 [] a at quiet (sym (append-nil notes)) in
      subst (λ n. AreSettledTo n notes now) (omega arith)
      (past gap (i + 1) notes now (subst (λ (ss : List (Slot D H)). AreSettledTo (i + 1) notes ss) (set_id now i at) one) (omega (arith, inside))
      (λ j s low lt. none j s (omega arith) (omega (arith, lt))))

  no_notes : (a n : ℕ) → flat_map (λ file. settling_notes dig k file []) (range_with_len a n) ≡ []
  no_notes a zero = refl
  no_notes a (suc n) = no_notes (a + 1) n

  -- no block waits
  pub settled_idle : NoneWaits (map file_of old) → SettlesSlots conduct dig k tree from count old before before old
  settled_idle none = record {
    reads = λ file. [];
    each = λ file slot at. (
      slot,
      at,
      slot_kept conduct dig k tree from count slot
          (idle_due slot (none file (file_of slot) (get_mapped file_of old file at)) (slot.tree == tree)),
    );
    size = refl;
    noted = sym (append-nil before) ∙ ap (λ ns. before ++ ns) (sym (no_notes 0 (length old)));
  }
    where
      idle_due : (slot : Slot D H) → count_by is_waiting (file_of slot).states ≡ 0 → (b : Bool)
          → (if b then waiting_blocks dig k (file_of slot).states from count else []) ≡ []
      idle_due slot none true = nothing_waits dig k (file_of slot).states from count none
      idle_due slot none false = refl

  -- files that are not of the tree are passed
  pub settled_past : (i j : ℕ) (notes : List Note) (now : List (Slot D H)) → i ≤ j → j ≤ length old → NoneOfTree old tree i j → AreSettledTo i notes now
      → AreSettledTo j notes now
  settled_past i j notes now low inside none a =
      subst (λ n. AreSettledTo n notes now) (omega (arith, low))
      (past (j - i) i notes now a (omega (arith, low, inside)) (λ n s from lt. none n s from (omega (arith, lt, low))))

  pub settled_all : (i : ℕ) (notes : List Note) (now : List (Slot D H)) → length old ≡ i → AreSettledTo i notes now
      → SettlesSlots conduct dig k tree from count old before notes now
  settled_all i notes now whole a = record {
    reads = a.reads;
    each = λ file slot at. (let lt = some_below old file at in a.each file slot (omega arith) at);
    size = a.size;
    noted = a.noted ∙ ap (λ n. before ++ flat_map (λ file. settling_notes dig k file (a.reads file)) (range_with_len 0 n)) (sym whole);
  }

-- ---- a slot that no step has come to yet

module _ {X : Type 0} (old now : List X) (file : ℕ) (d : X) where
  pub stays_at : file < length now → slice_get now file ≡ slice_get old file → slice_get old file ≡ Some (get_or now file d)
  stays_at lt same = sym same ∙ slice_get-get_or now file d lt

  pub all_at : (P : X → Type 0) {x : X} → All P old → slice_get old file ≡ Some x → P x
  all_at P {x} all at = subst P (get_or_from_slice_get old file x d at) (all file d (some_below old file at))

  pub room_at : (f : X → ℕ) {x : X} → slice_get old file ≡ Some x → sum_by f (drop file old) ≡ f x + sum_by f (drop (file + 1) old)
  room_at f {x} at = sum_by-drop_more f old file d (some_below old file at) ∙ ap (λ y. f y + sum_by f (drop (file + 1) old)) (get_or_from_slice_get old file x d at)
