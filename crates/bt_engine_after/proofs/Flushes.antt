-- Slots whose devices are synced, one after the other.
use Rattle.bt_machine.proofs.Base.{[], ◌≡◌, ℕ, suc, ◌+◌, ◌-◌, ◌<◌, ◌≤◌, Bool, true, false, not, ◌==◌, cond, List, ◌∷◌, ◌++◌, length, map, filter, Option, Some, None, option_map_or, option_map, slice_get, slice_set, Ok, Err, refl, sym, ap, ◌∙◌, subst, arith, range_with_len, filter-append, append-nil, length-map, Call}
use Rattle.std.proofs.lemmas.Bool.{ne_eqb}
use Rattle.std.proofs.lemmas.List.{map-append}
use Rattle.bt_disk.specs.Calls.{HasCalls}
use Rattle.bt_disk.specs.declared.disk.DeviceFault.{DeviceFault}
use Rattle.bt_store.proofs.Reviews.{range_split}
use Rattle.bt_store.specs.FileStore.{StoreView}
use Rattle.bt_machine.proofs.Lists.{set_id, set_other, some_below}
use Rattle.bt_machine.proofs.Shape.{map_set as map_stays}
use Rattle.bt_machine.specs.declared.error.FlushError.TheVariants.{Device}
use Rattle.bt_machine.specs.State.{FileState}
use Rattle.bt_machine.specs.Devices.{DeviceCalls, HaveCalls}
use Rattle.bt_machine.specs.Flush.{fails, syncs_of}
use Rattle.bt_engine_state.specs.Parts.{file_of, disk_of}
use Rattle.bt_engine_state.specs.declared.slot.Slot.{Slot}
use Rattle.bt_engine_state.proofs.DeviceCalls.{have_then}
use Rattle.bt_engine_state.proofs.Lists.{get_mapped}
use Rattle.bt_engine_state.proofs.SlotChanges.{have_changed}
use Rattle.bt_engine_after.specs.DevicesSteps.{SyncsSlot, syncs, rests, SyncsSlots, without_disk, store_without_disk}
use Rattle.bt_disk.specs.Conduct.{Conduct}

-- ---- the files that have a block

abbrev pub has_blocks : List FileState → ℕ → Bool
has_blocks files file = not (length (option_map_or (λ f. f.states) (slice_get files file) []) == 0)

-- those before n
abbrev pub data_below : List FileState → ℕ → List ℕ
data_below files n = filter (has_blocks files) (range_with_len 0 n)

range_at : (i n : ℕ) → i < n → range_with_len 0 n ≡ range_with_len 0 i ++ i ∷ range_with_len (i + 1) (n - (i + 1))
range_at i n lt =
    let size : n ≡ i + suc (n - (i + 1)) = omega arith in
    let place : 0 + i ≡ i = omega arith in
    ap (range_with_len 0) size ∙ range_split 0 i (suc (n - (i + 1)))
    ∙ ap (λ a. range_with_len 0 i ++ range_with_len a (suc (n - (i + 1)))) place

module _ (files : List FileState) (i n : ℕ) (lt : i < n) where
  abbrev pub data_after : List ℕ
  data_after = filter (has_blocks files) (range_with_len (i + 1) (n - (i + 1)))

  pub data_at : data_below files n ≡ data_below files i ++ cond (has_blocks files i) (i ∷ data_after) data_after
  data_at =
      ap (filter (has_blocks files)) (range_at i n lt)
      ∙ filter-append (has_blocks files) (range_with_len 0 i) (i ∷ range_with_len (i + 1) (n - (i + 1)))

data_next : (files : List FileState) (i : ℕ) (b : Bool) → has_blocks files i ≡ b → data_below files (i + 1) ≡ data_below files i ++ cond b (i ∷ []) []
data_next files i b is =
    let none : i + 1 - (i + 1) ≡ 0 = omega arith in
    data_at files i (i + 1) (omega arith)
    ∙ ap (λ n. data_below files i ++ cond (has_blocks files i) (i ∷ filter (has_blocks files) (range_with_len (i + 1) n)) (filter (has_blocks files) (range_with_len (i + 1) n))) none
    ∙ ap (λ t. data_below files i ++ cond t (i ∷ []) []) is

module _ {D H : Type 0} (slot : Slot D H) where
  stored : {store : StoreView D} → slot.store ≡ Some store → 0 < length store.states → not (length (file_of slot).states == 0) ≡ true
  stored {store} is some =
      ap (λ (o : Option (StoreView D)). not (length (option_map_or (λ store. store.states) o []) == 0)) is
      ∙ ap not (ne_eqb (length store.states) 0 (λ none. absurd (omega (arith, some, none))))

  storeless : slot.store ≡ None → not (length (file_of slot).states == 0) ≡ false
  storeless is = ap (λ (o : Option (StoreView D)). not (length (option_map_or (λ store. store.states) o []) == 0)) is

  at_file : (slots : List (Slot D H)) (i : ℕ) {b : Bool} → slice_get slots i ≡ Some slot → not (length (file_of slot).states == 0) ≡ b
      → has_blocks (map file_of slots) i ≡ b
  at_file slots i here is =
      ap (λ (o : Option FileState). not (length (option_map_or (λ f. f.states) o []) == 0)) (get_mapped file_of slots i here) ∙ is

-- ---- the slots before one were synced

module _ {D H : Type 0} (conduct : Conduct D) where
  pub record AreSyncedBelow (old now : List (Slot D H)) (i : ℕ) : Type 0 where
    pub have : HaveCalls conduct (map disk_of old) (syncs_of (data_below (map file_of old) i)) (map disk_of now)
    pub others : map without_disk now ≡ map without_disk old
    pub after : (j : ℕ) → i ≤ j → slice_get now j ≡ slice_get old j

  module _ (old now : List (Slot D H)) (i : ℕ) (slot new : Slot D H) (below : AreSyncedBelow old now i) (here : slice_get now i ≡ Some slot) where
    before : slice_get old i ≡ Some slot
    before = sym (below.after i (omega arith)) ∙ here

    module _ (store : StoreView D) (disk : D) (has : slot.store ≡ Some store) (is : new ≡ record slot { store = Some (record store { disk = disk }) }) where
      have_call : (call : Call) → HasCalls conduct store.disk (call ∷ []) disk
          → HaveCalls conduct (map disk_of old) (syncs_of (data_below (map file_of old) i) ++ (i, call) ∷ []) (map disk_of (slice_set now i new))
      have_call call calls =
          let after : StoreView D = record store { disk = disk } in
          subst (λ (s : Slot D H). HaveCalls conduct (map disk_of old) (syncs_of (data_below (map file_of old) i) ++ (i, call) ∷ [])
          (map disk_of (slice_set now i s))) (sym is)
          (have_then conduct (map disk_of old) (map disk_of now) (map disk_of (slice_set now i (record slot { store = Some after })))
          (syncs_of (data_below (map file_of old) i)) ((i, call) ∷ []) below.have (have_changed now i here has after conduct (call ∷ []) calls))

      all_others : map without_disk (slice_set now i new) ≡ map without_disk old
      all_others =
          map_stays without_disk now i new here
          (ap without_disk is ∙ sym (ap (λ (o : Option (StoreView D)). (slot.tree, option_map store_without_disk o)) has)) ∙ below.others

    pub one_synced : SyncsSlot conduct slot (Ok tt) new → AreSyncedBelow old (slice_set now i new) (i + 1)
    one_synced (syncs store disk has some calls is) =
        let next = data_next (map file_of old) i true (at_file slot old i before (stored slot has some)) in
        record {
          have = subst (λ (cs : DeviceCalls). HaveCalls conduct (map disk_of old) cs (map disk_of (slice_set now i new)))
              (sym (ap syncs_of next ∙ map-append _ (data_below (map file_of old) i) (i ∷ []))) (have_call store disk has is _ calls);
          others = all_others store disk has is;
          after = λ j le. set_other now i j new (λ e. absurd (omega (arith, le, e))) ∙ below.after j (omega arith);
        }
    one_synced (rests has answer is) =
        let next = data_next (map file_of old) i false (at_file slot old i before (storeless slot has)) ∙ append-nil (data_below (map file_of old) i) in
        let same : slice_set now i new ≡ now = ap (slice_set now i) is ∙ set_id now i here in
        rw same (record {
          have = subst (λ (cs : DeviceCalls). HaveCalls conduct (map disk_of old) cs (map disk_of now)) (sym (ap syncs_of next)) below.have;
          others = below.others;
          after = λ j le. below.after j (omega arith);
        })

    pub sync_failed : (e : DeviceFault) → SyncsSlot conduct slot (Err e) new → SyncsSlots conduct old (Err Device) (slice_set now i new)
    sync_failed e (syncs store disk has some calls is) =
        let files = map file_of old in
        let lt : i < length files = rw (length-map old file_of) (some_below old i before) in
        let stands = at_file slot old i before (stored slot has some) in
        record {
          calls = syncs_of (data_below files i) ++ (i, _) ∷ [];
          have = have_call store disk has is _ calls;
          synced = λ s same. fails (data_below files i) i (data_after files i (length files) lt)
              (ap (λ (fs : List FileState). data_below fs (length fs)) same ∙ data_at files i (length files) lt
              ∙ ap (λ t. data_below files i ++ cond t (i ∷ data_after files i (length files) lt) (data_after files i (length files) lt)) stands)
              refl refl refl;
          others = all_others store disk has is;
        }
    sync_failed e (rests has answer is) = absurd cc

  pub all_synced : (old now : List (Slot D H)) (i : ℕ) → i ≡ length old → AreSyncedBelow old now i → SyncsSlots conduct old (Ok tt) now
  all_synced old now i all below = record {
    calls = syncs_of (data_below (map file_of old) i);
    have = below.have;
    synced = λ s same. (
        ap (λ n. syncs_of (data_below (map file_of old) n)) (all ∙ sym (length-map old file_of))
        ∙ sym (ap (λ (fs : List FileState). syncs_of (data_below fs (length fs))) same)
        );
    others = below.others;
  }
