-- What reads of the blocks that wait make of files.
use Rattle.bt_machine.proofs.Base.{[], ◌≡◌, ℕ, zero, suc, ◌+◌, ◌<◌, ◌≤◌, inl, inr, ◌&&◌, is_some, Bool, true, false, cond, List, ◌∷◌, ◌++◌, length, map, filter, take, drop, replicate, Option, Some, None, refl, sym, ap, ◌∙◌, subst, arith, slice_get, slice_set, option_map, option_map_or, range_with_len, length-replicate, get_or_default, All, Contains, cases_lt, block_count, Facts, value_at, BlockRead, block_of, call_of, judged, is_waiting, is_waiting_at, waiting_blocks, BlockState, Missing}
use Rattle.std.proofs.lemmas.Bool.{cases_eq}
use Rattle.std.proofs.lemmas.Option.{slice_get-map, slice_get_past}
use Rattle.bt_resume.specs.declared.hint.Hint.{Hint}
use Rattle.bt_store.specs.BlockReads.{IsJudged, after_read}
use Rattle.bt_store.specs.FileStore.{StoreView, new_states}
use Rattle.bt_store.specs.Law.{all_recalled}
use Rattle.bt_store.proofs.Recalls.{recalled_alike}
use Rattle.bt_store.proofs.Settling.{length-read}
use Rattle.bt_machine.specs.Blocks.{block_id, with_file}
use Rattle.bt_machine.specs.Devices.{DeviceCalls, reads_at, calls_at, HaveCalls}
use Rattle.bt_machine.specs.Hints.{is_recorded}
use Rattle.bt_machine.specs.Recovery.{recorded_blocks, RestoresFile, empty, restored, RestoresFiles}
use Rattle.bt_machine.specs.State.{EngineState, FileState}
use Rattle.bt_machine.proofs.Lists.{some_is, some_below, get_some, set_id, set_same, set_other, map_some}
use Rattle.bt_engine_state.specs.Parts.{file_of, disk_of}
use Rattle.bt_engine_state.specs.declared.slot.Slot.{Slot}
use Rattle.bt_engine_state.proofs.DeviceCalls.{have_none, have_then}
use Rattle.bt_engine_state.proofs.Lists.{get_mapped}
use Rattle.bt_engine_state.proofs.SlotChanges.{file_here, files_changed, have_changed}
use Rattle.bt_engine_start.specs.MarksSteps.{Meant, recalled_store, recalled_in, recalled_slot}
use Rattle.bt_engine_start.specs.ReadsSteps.{HasReads, IsSettled}
use Rattle.bt_engine_start.specs.RecoverySteps.{AreMissing}
use Rattle.bt_engine_start.specs.RestoringSteps.{tree_and_length, block_total, HasTree, HaveTrees, RestoresSlots}
use Rattle.bt_engine_start.proofs.FileRecallings.{same_lists, touched, state_then, length-recalled, is_among, among_recorded, empty_kept, one_recalled}
use Rattle.bt_disk.specs.Conduct.{Conduct}

-- ---- which blocks wait

filter_within : (p q : ℕ → Bool) (a n : ℕ) → ((i : ℕ) → a ≤ i → i < a + n → p i ≡ q i) → filter p (range_with_len a n) ≡ filter q (range_with_len a n)
filter_within p q a zero same = refl
filter_within p q a (suc n) same =
    ap (λ b. cond b (a ∷ filter p (range_with_len (a + 1) n)) (filter p (range_with_len (a + 1) n))) (same a (omega arith) (omega arith))
    ∙ ap (λ xs. cond (q a) (a ∷ xs) xs) (filter_within p q (a + 1) n (λ i low high. same i (omega (arith, low)) (omega (arith, high))))

pub missing_at : (n i : ℕ) → i < n → slice_get (replicate n Missing) i ≡ Some Missing
missing_at zero i lt = absurd (omega arith)
missing_at (suc n) zero lt = refl
missing_at (suc n) (suc i) lt = missing_at n i (omega arith)

waits : (b : Bool) → is_waiting (touched b Missing) ≡ b
waits true = refl
waits false = refl

both_and : (r k : Bool) → (((r && k) && true) && k) ≡ (r && k)
both_and true true = refl
both_and true false = refl
both_and false k = refl

module _ (dig : List ℕ → List ℕ) (k : Facts) (hints : List Hint) (file : ℕ) where
  -- where all blocks were missing, those wait that are recorded
  waiting_are_recorded : (n : ℕ) (states : List BlockState) → states ≡ replicate n Missing
      → waiting_blocks dig k (all_recalled states (recorded_blocks dig k hints file n)) 0 n ≡ recorded_blocks dig k hints file n
  waiting_are_recorded n states missing =
      let blocks = recorded_blocks dig k hints file n in
      let known : ℕ → Bool = λ i. is_some (value_at dig k 0 i) in
      filter_within (λ i. is_waiting_at (all_recalled states blocks) i && known i) (λ i. is_recorded hints (block_id file i) && known i) 0 n
      (λ i low high. (
      let lt : i < n = omega (arith, high) in
      let here = state_then states blocks i ∙ ap (option_map (touched (is_among i blocks))) (ap (λ (xs : List BlockState). slice_get xs i) missing ∙ missing_at n i lt) in
      ap (λ o. option_map_or is_waiting o false && known i) here ∙ ap (λ b. b && known i) (waits (is_among i blocks))
      ∙ ap (λ b. b && known i) (among_recorded dig k hints file n i lt) ∙ both_and (is_recorded hints (block_id file i)) (known i)
      ))

  all_among : (blocks : List ℕ) → All (λ i. Contains blocks i) blocks
  all_among blocks j d lt = (j, lt, get_or_default blocks j _ d lt)

  -- each of them is read, so that the states before were judged
  judged_before : (states : List BlockState) (blocks : List ℕ) (reads : List BlockRead) → map block_of reads ≡ blocks
      → judged dig k false reads (all_recalled states blocks) ≡ judged dig k false reads states
  judged_before states blocks reads are =
      recalled_alike dig k states blocks reads (subst (λ (xs : List ℕ). All (λ i. Contains xs i) blocks) (sym are) (all_among blocks))

length_judged : (dig : List ℕ → List ℕ) (k : Facts) (reads : List BlockRead) (states : List BlockState) → length (judged dig k false reads states) ≡ length states
length_judged dig k [] states = refl
length_judged dig k (read ∷ reads) states = length_judged dig k reads (after_read dig k false read states) ∙ length-read dig k read states

-- ---- calls of a file's device

calls_are : (file : ℕ) {n m : ℕ} (reads : List BlockRead) → n ≡ m → reads_at file n reads ≡ calls_at file (map (call_of m) reads)
calls_are file [] same = refl
calls_are file {n} {m} (r ∷ reads) same = ap (λ x. (file, call_of x r) ∷ reads_at file n reads) same ∙ ap (λ cs. (file, call_of m r) ∷ cs) (calls_are file reads same)

no_reads : (reads : List BlockRead) → map block_of reads ≡ [] → reads ≡ []
no_reads [] e = refl
no_reads (r ∷ reads) e = absurd (let size = ap (λ (xs : List ℕ). length xs) e in omega arith)

-- ---- lists of which the first elements are later ones

abbrev mixed : {X : Type 0} → (old new : List X) → ℕ → List X
mixed old new n = take n new ++ drop n old

all_later : {X : Type 0} (old new : List X) → length new ≡ length old → mixed old new (length old) ≡ new
all_later [] [] size = refl
all_later [] (y ∷ new) size = absurd (omega arith)
all_later (x ∷ old) [] size = absurd (omega arith)
all_later (x ∷ old) (y ∷ new) size = ap (λ ys. y ∷ ys) (all_later old new (omega arith))

still_earlier : {X : Type 0} (old new : List X) (n : ℕ) → length new ≡ length old → n < length old → slice_get (mixed old new n) n ≡ slice_get old n
still_earlier [] new n size lt = absurd (omega arith)
still_earlier (x ∷ old) new zero size lt = refl
still_earlier (x ∷ old) [] (suc n) size lt = absurd (omega arith)
still_earlier (x ∷ old) (y ∷ new) (suc n) size lt = still_earlier old new n (omega arith) (omega arith)

one_later : {X : Type 0} (old new : List X) (n : ℕ) {y : X} → length new ≡ length old → slice_get new n ≡ Some y
    → mixed old new (suc n) ≡ slice_set (mixed old new n) n y
one_later {X} [] [] n size is = absurd (let lt = some_below {X = X} [] n is in omega arith)
one_later [] (z ∷ new) n size is = absurd (omega arith)
one_later (x ∷ old) [] n size is = absurd (omega arith)
one_later (x ∷ old) (z ∷ new) zero size is = ap (λ w. w ∷ old) (some_is is)
one_later (x ∷ old) (z ∷ new) (suc n) size is = ap (λ ys. z ∷ ys) (one_later old new n (omega arith) is)

-- ---- the slot of one file

module _ {D H : Type 0} (meant : Meant) (trees : List Facts) (slot : Slot D H) where
  -- recalling changes neither the tree nor the file
  pub kept_named : tree_and_length (recalled_in meant trees slot) ≡ tree_and_length slot
  kept_named = by (slice_get trees slot.tree)
    where
      store : (k : Facts) (o : Option (StoreView D))
          → option_map (λ (s : StoreView D). s.file_length) (option_map (recalled_store meant k) o) ≡ option_map (λ s. s.file_length) o
      store k None = refl
      store k (Some s) = refl

      by : (o : Option Facts) → tree_and_length (option_map_or (λ k. record slot { store = option_map (recalled_store meant k) slot.store }) o slot)
          ≡ tree_and_length slot
      by None = refl
      by (Some k) = ap (λ (o : Option ℕ). (slot.tree, o)) (store k slot.store)

-- of a file, the blocks that hints record and whose leaves are known
abbrev pub meant_in : (List ℕ → List ℕ) → List Hint → ℕ → Meant
meant_in dig hints file = λ k n. recorded_blocks dig k hints file n

-- the store, which has its tree
record HasStore {D H : Type 0} (trees : List Facts) (slot : Slot D H) (store : StoreView D) (k : Facts) : Type 0 where
  pub has : slot.store ≡ Some store
  pub stands : slice_get trees slot.tree ≡ Some k
  pub same : k.file_length ≡ store.file_length

module _ {D H : Type 0} (conduct : Conduct D) (dig : List ℕ → List ℕ) (hints : List Hint) (trees : List Facts) where
  -- one of the slots has become another, and the machine restores its file so
  record RestoresOne (slots : List (Slot D H)) (file : ℕ) (slot after : Slot D H) : Type 0 where
    pub calls : DeviceCalls
    pub made : HaveCalls conduct (map disk_of slots) calls (map disk_of (slice_set slots file after))
    pub restores : (s : EngineState) → s.trees ≡ trees → s.files ≡ map file_of slots
        → RestoresFile dig hints file s calls (record s { files = map file_of (slice_set slots file after) })
    pub named : tree_and_length after ≡ tree_and_length slot
    pub sized : block_total after ≡ block_total slot

  module _ (slots : List (Slot D H)) (file : ℕ) {slot : Slot D H} (at : slice_get slots file ≡ Some slot) where
    empty_one : slot.store ≡ None → RestoresOne slots file slot slot
    empty_one none =
        let same = set_id slots file at in
        record {
          calls = [];
          made = subst (λ (xs : List (Slot D H)). HaveCalls conduct (map disk_of slots) [] (map disk_of xs)) (sym same)
              (have_none conduct (map disk_of slots));
          restores = λ s trees_are files_are. empty (file_of slot) (ap (λ (fs : List FileState). slice_get fs file) files_are ∙ get_mapped file_of slots file at)
              (ap (λ (o : Option (StoreView D)). option_map_or (λ store. store.states) o []) none) refl
              (ap (λ (xs : List (Slot D H)). record s { files = map file_of xs }) same ∙ ap (λ (fs : List FileState). record s { files = fs }) (sym files_are));
          named = refl;
          sized = refl;
        }

    module _ {store : StoreView D} {k : Facts} (of : HasStore trees slot store k) (missing : store.states ≡ new_states store.file_length) {after : Slot D H}
        (read : HasReads conduct dig k (record slot { store = Some (recalled_store (meant_in dig hints file) k store) }) (recalled_store (meant_in dig hints file) k store) after) where
      abbrev recorded : List ℕ
      recorded = recorded_blocks dig k hints file (length store.states)

      abbrev calls_made : DeviceCalls
      calls_made = reads_at file k.file_length read.reads

      abbrev next : EngineState → EngineState
      next s = record s { files = map file_of (slice_set slots file after) }

      all_missing : store.states ≡ replicate (length store.states) Missing
      all_missing =
          missing ∙ ap (λ n. replicate n Missing) (sym (ap (λ (xs : List BlockState). length xs) missing ∙ length-replicate (block_count store.file_length) Missing))

      order : map block_of read.reads ≡ recorded
      order =
          read.judged.device.in_order ∙ ap (λ n. waiting_blocks dig k (all_recalled store.states recorded) 0 n) (length-recalled store.states recorded)
          ∙ waiting_are_recorded dig k hints file (length store.states) store.states all_missing

      states_then : read.after.states ≡ judged dig k false read.reads store.states
      states_then = read.judged.states ∙ judged_before dig k hints file store.states recorded read.reads order

      made_calls : HaveCalls conduct (map disk_of slots) calls_made (map disk_of (slice_set slots file after))
      made_calls =
          subst (λ (x : Slot D H). HaveCalls conduct (map disk_of slots) calls_made (map disk_of (slice_set slots file x))) (sym read.changed)
          (subst (λ calls. HaveCalls conduct (map disk_of slots) calls (map disk_of (slice_set slots file (record slot { store = Some read.after }))))
          (sym (calls_are file read.reads of.same))
          (have_changed slots file at of.has read.after conduct (map (call_of store.file_length) read.reads) read.judged.device.calls))

      next_is : (s : EngineState) → s.files ≡ map file_of slots
          → next s ≡ with_file s file (record { tree = slot.tree; states = judged dig k false read.reads store.states })
      next_is s files_are =
          ap (λ (x : Slot D H). record s { files = map file_of (slice_set slots file x) }) read.changed
          ∙ ap (λ (fs : List FileState). record s { files = fs }) (files_changed slots file at of.has read.after
          ∙ ap (λ (fs : List FileState). slice_set fs file (record { tree = slot.tree; states = read.after.states })) (sym files_are)
          ∙ ap (λ (xs : List BlockState). slice_set s.files file (record { tree = slot.tree; states = xs })) states_then)

      restored_by : (s : EngineState) → s.trees ≡ trees → s.files ≡ map file_of slots → (states : List BlockState) → store.states ≡ states
          → RestoresFile dig hints file s calls_made (next s)
      restored_by s trees_are files_are [] none =
          let here = ap (λ (fs : List FileState). slice_get fs file) files_are ∙ file_here slots file at of.has store in
          let unread = no_reads read.reads (order ∙ ap (λ (xs : List BlockState). recorded_blocks dig k hints file (length xs)) none) in
          empty (record { tree = slot.tree; states = store.states }) here none (ap (reads_at file k.file_length) unread)
          (next_is s files_are
          ∙ ap (λ rs. with_file s file (record { tree = slot.tree; states = judged dig k false rs store.states })) unread
          ∙ ap (λ (fs : List FileState). record s { files = fs }) (set_id s.files file here))
      restored_by s trees_are files_are (x ∷ xs) some =
          restored (record { tree = slot.tree; states = store.states }) k read.reads
          (record {
            here = ap (λ (fs : List FileState). slice_get fs file) files_are ∙ file_here slots file at of.has store;
            has_tree = ap (λ (ks : List Facts). slice_get ks slot.tree) trees_are ∙ of.stands;
          })
          (λ none. absurd (let clash = sym some ∙ none in cc)) order refl (next_is s files_are)

      store_one : RestoresOne slots file slot after
      store_one = record {
        calls = calls_made;
        made = made_calls;
        restores = λ s trees_are files_are. restored_by s trees_are files_are store.states refl;
        named = ap (λ (x : Slot D H). tree_and_length x) read.changed ∙ ap (λ n. (slot.tree, Some n)) read.judged.same_file
            ∙ ap (λ (o : Option (StoreView D)). (slot.tree, option_map (λ store. store.file_length) o)) (sym of.has);
        sized = ap (λ (x : Slot D H). block_total x) read.changed ∙ ap (λ (xs : List BlockState). length xs) states_then ∙ length_judged dig k read.reads store.states
            ∙ ap (λ (o : Option (StoreView D)). length (option_map_or (λ store. store.states) o [])) (sym of.has);
      }

    one_file : HasTree trees (tree_and_length slot) → ((store : StoreView D) → slot.store ≡ Some store → store.states ≡ new_states store.file_length)
        → {after : Slot D H} → IsSettled conduct dig trees (recalled_slot dig hints trees file slot) after → RestoresOne slots file slot after
    one_file tree missing {after} settled = by slot.store refl
      where
        by : (o : Option (StoreView D)) → slot.store ≡ o → RestoresOne slots file slot after
        by None none =
            let same = empty_kept trees (meant_in dig hints file) slot none in
            subst (λ (x : Slot D H). RestoresOne slots file slot x) (sym (settled.empty (ap (λ (x : Slot D H). x.store) same ∙ none) ∙ same)) (empty_one none)
        by (Some store) has =
            let k = tree store.file_length (ap (option_map (λ (s : StoreView D). s.file_length)) has) in
            let settled_then = subst (λ (x : Slot D H). IsSettled conduct dig trees x after) (one_recalled trees (meant_in dig hints file) slot has k.1) settled in
            store_one (record { has = has; stands = k.1; same = k.2 }) (missing store has) (settled_then.read (recalled_store (meant_in dig hints file) k.0 store) k.0 refl k.1)

  -- ---- all slots

  module _ (old now : List (Slot D H))
      (recalled : (file : ℕ) → slice_get now file ≡ option_map (recalled_slot dig hints trees file) (slice_get old file)) (have : HaveTrees trees old) where
    pub have_still : HaveTrees trees now
    have_still file slot at =
        let was = map_some (recalled_slot dig hints trees file) (slice_get old file) (sym (recalled file) ∙ at) in
        subst (HasTree trees) (sym (kept_named (meant_in dig hints file) trees was.0) ∙ ap (λ (x : Slot D H). tree_and_length x) was.2) (have file was.0 was.1)

    module _ (new : List (Slot D H)) (settled : (file : ℕ) (slot : Slot D H) → slice_get now file ≡ Some slot
        → (after : Slot D H) × (slice_get new file ≡ Some after) × IsSettled conduct dig trees slot after)
        (size : length new ≡ length old) (missing : AreMissing old) where
      after_of : (file : ℕ) {slot : Slot D H} → slice_get old file ≡ Some slot
          → (after : Slot D H) × (slice_get new file ≡ Some after) × IsSettled conduct dig trees (recalled_slot dig hints trees file slot) after
      after_of file {slot} at = settled file (recalled_slot dig hints trees file slot) (recalled file ∙ ap (option_map (recalled_slot dig hints trees file)) at)

      one_of : (slots : List (Slot D H)) (file : ℕ) {slot : Slot D H} → slice_get slots file ≡ Some slot → (at : slice_get old file ≡ Some slot)
          → RestoresOne slots file slot (after_of file at).0
      one_of slots file {slot} here at =
          one_file slots file here (have file slot at) (λ store has. missing file slot store at has) (after_of file at).2

      -- the files from one on
      record RestoresFrom (a n : ℕ) : Type 0 where
        pub calls : DeviceCalls
        pub made : HaveCalls conduct (map disk_of (mixed old new a)) calls (map disk_of new)
        pub restores : (s : EngineState) → s.trees ≡ trees → s.files ≡ map file_of (mixed old new a)
            → RestoresFiles dig hints (range_with_len a n) s calls (record s { files = map file_of new })

      restores_from : (n a : ℕ) → a + n ≡ length old → RestoresFrom a n
      restores_from zero a e =
          let all : mixed old new a ≡ new = ap (mixed old new) (omega (arith, e)) ∙ all_later old new size in
          record {
            calls = [];
            made = subst (λ (xs : List (Slot D H)). HaveCalls conduct (map disk_of xs) [] (map disk_of new)) (sym all)
                (have_none conduct (map disk_of new));
            restores = λ s trees_are files_are. (
              refl,
              ap (λ (fs : List FileState). record s { files = fs }) (sym (files_are ∙ ap (λ (xs : List (Slot D H)). map file_of xs) all)),
            );
          }
      restores_from (suc n) a e =
          let lt : a < length old = omega (arith, e) in
          let slot = get_some old a lt in
          let after = after_of a slot.1 in
          let mid = mixed old new a in
          let following : a + 1 ≡ suc a = omega arith in
          let later : mixed old new (a + 1) ≡ slice_set mid a after.0 = ap (mixed old new) following ∙ one_later old new a size after.1 in
          let one = one_of mid a (still_earlier old new a size lt ∙ slot.1) slot.1 in
          let more = restores_from n (a + 1) (omega (arith, e)) in
          record {
            calls = one.calls ++ more.calls;
            made = have_then conduct (map disk_of mid) (map disk_of (slice_set mid a after.0)) (map disk_of new) one.calls more.calls one.made
                (subst (λ (xs : List (Slot D H)). HaveCalls conduct (map disk_of xs) more.calls (map disk_of new)) later more.made);
            restores = λ s trees_are files_are. (
              record s { files = map file_of (slice_set mid a after.0) },
              one.calls,
              more.calls,
              one.restores s trees_are files_are,
              more.restores (record s { files = map file_of (slice_set mid a after.0) }) trees_are (ap (λ (xs : List (Slot D H)). map file_of xs) (sym later)),
              refl,
            );
          }

      pub all_restored : RestoresSlots conduct dig hints trees old new
      all_restored =
          let all = restores_from (length old) 0 (omega arith) in
          record { calls = all.calls; made = all.made; restores = all.restores }

      alike_by : {X : Type 0} (f : Slot D H → X) → ((slots : List (Slot D H)) (file : ℕ) (slot after : Slot D H) → RestoresOne slots file slot after → f after ≡ f slot)
          → (i : ℕ) (o : Option (Slot D H)) → slice_get old i ≡ o → option_map f (slice_get new i) ≡ option_map f o
      alike_by f same i None none = elim (cases_lt i (length old)) [
        | inl lt ↦ absurd (let slot = get_some old i lt in let clash = sym none ∙ slot.1 in cc)
        | inr past ↦ ap (option_map f) (slice_get_past new i (omega (arith, past, size)))
      ]
      alike_by f same i (Some slot) at =
          let after = after_of i at in
          ap (option_map f) after.1 ∙ ap (λ x. Some x) (same old i slot after.0 (one_of old i at at))

      alike : {X : Type 0} (f : Slot D H → X) → ((slots : List (Slot D H)) (file : ℕ) (slot after : Slot D H) → RestoresOne slots file slot after → f after ≡ f slot)
          → map f new ≡ map f old
      alike f same = same_lists (map f new) (map f old)
          (λ i. slice_get-map f new i ∙ alike_by f same i (slice_get old i) refl ∙ sym (slice_get-map f old i))

      pub slots_kept : map tree_and_length new ≡ map tree_and_length old
      slots_kept = alike (λ slot. tree_and_length slot) (λ slots file slot after one. one.named)

      pub sizes_kept : map block_total new ≡ map block_total old
      sizes_kept = alike (λ slot. block_total slot) (λ slots file slot after one. one.sized)

-- ---- slot after slot

module _ {D H : Type 0} (conduct : Conduct D) (dig : List ℕ → List ℕ) (trees : List Facts) where
  pub slot_settled : {slot : Slot D H} {store after : StoreView D} {k : Facts} → slot.store ≡ Some store → slice_get trees slot.tree ≡ Some k → (reads : List BlockRead)
      → IsJudged conduct dig k false (waiting_blocks dig k store.states 0 (length store.states)) store reads after
      → IsSettled conduct dig trees slot (record slot { store = Some after })
  slot_settled {slot} {store} {after} {k} has stands reads is_judged = record {
    empty = λ none. absurd (let clash = sym has ∙ none in cc);
    read = λ s j had stood.
        subst (λ (x : StoreView D). HasReads conduct dig j slot x (record slot { store = Some after })) (some_is (sym has ∙ had))
        (subst (λ (y : Facts). HasReads conduct dig y slot store (record slot { store = Some after })) (some_is (sym stands ∙ stood))
        (record { after = after; reads = reads; judged = is_judged; changed = refl }));
  }

  -- the slots below a number are settled, and those from there on are as they were
  pub record AreSettledBelow (n : ℕ) (old now : List (Slot D H)) : Type 0 where
    pub below : (i : ℕ) (slot : Slot D H) → i < n → slice_get old i ≡ Some slot
        → (after : Slot D H) × (slice_get now i ≡ Some after) × IsSettled conduct dig trees slot after
    pub from : (i : ℕ) → n ≤ i → slice_get now i ≡ slice_get old i

  pub settled_none : (old : List (Slot D H)) → AreSettledBelow 0 old old
  settled_none old = record { below = λ i slot lt at. absurd (omega (arith, lt)); from = λ i le. refl }

  pub settled_more : (n : ℕ) (old now : List (Slot D H)) (slot after : Slot D H) → slice_get now n ≡ Some slot → AreSettledBelow n old now
      → IsSettled conduct dig trees slot after → AreSettledBelow (n + 1) old (slice_set now n after)
  settled_more n old now slot after here before settled = record {
    below = λ i was lt at. elim (cases_eq i n) [
      | inl same ↦ (
          let is : slot ≡ was = some_is (sym here ∙ before.from n (omega arith) ∙ ap (slice_get old) (sym same) ∙ at) in
          (after, ap (slice_get (slice_set now n after)) same ∙ set_same now n here, subst (λ (x : Slot D H). IsSettled conduct dig trees x after) is settled)
          )
      | inr apart ↦ (
          let done = before.below i was (omega (arith, lt, apart)) at in
          (done.0, set_other now n i after apart ∙ done.1, done.2)
          )
    ];
    from = λ i le. set_other now n i after (λ e. omega (arith, le, e)) ∙ before.from i (omega (arith, le));
  }
