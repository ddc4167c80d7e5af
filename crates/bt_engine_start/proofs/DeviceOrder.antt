-- Devices that are handed out from the last file on, and are taken back from the first.
use Rattle.bt_machine.proofs.Base.{[], ◌≡◌, ℕ, zero, suc, ◌+◌, ◌<◌, ◌≤◌, inl, inr, cond, List, ◌∷◌, ◌++◌, length, map, take, Option, Some, None, refl, sym, ap, ◌∙◌, subst, arith, slice_get, slice_set, option_map, cases_lt, lt-ltb, length-append, All, File}
use Rattle.std.specs.Prelude.{nat_lt}
use Rattle.std.specs.List.{cons_option}
use Rattle.std.specs.Option.{option_to_list}
use Rattle.std.proofs.lemmas.Bool.{cases_eq}
use Rattle.bt_book.proofs.Once.{count_cons}
use Rattle.std.proofs.Common.{append_assoc}
use Rattle.std.proofs.lemmas.Option.{get_or_from_slice_get}
use Rattle.bt_machine.proofs.Lists.{some_is, some_below, set_same, set_other}
use Rattle.bt_meta.specs.Files.{file_of}
use Rattle.bt_meta.specs.declared.torrent.FileEntry.{FileEntry}
use Rattle.bt_machine.specs.Start.{device_count}
use Rattle.bt_store.specs.FileStore.{StoreView}
use Rattle.bt_engine_state.proofs.Lists.{get_mapped}
use Rattle.bt_engine_state.specs.Parts.{disk_of}
use Rattle.bt_engine_state.specs.declared.slot.Slot.{Slot}
use Rattle.bt_engine_start.specs.DeviceSteps.{devices_in, IsNewSlot}
use Rattle.bt_engine_start.proofs.Pushes.{nothing_at}

-- no slot before i has a device
abbrev pub AreBareBelow : {D H : Type 0} → List (Slot D H) → ℕ → Type 0
AreBareBelow {D} {H} slots i = (j : ℕ) (slot : Slot D H) → j < i → slice_get slots j ≡ Some slot → slot.store ≡ None

-- the slots from i on have their devices
abbrev pub AreNewFrom : {D H : Type 0} → List File → List (Slot D H) → ℕ → Type 0
AreNewFrom {D} {H} files slots i = (j : ℕ) (file : File) (slot : Slot D H) → i ≤ j → slice_get files j ≡ Some file → slice_get slots j ≡ Some slot
    → IsNewSlot file slot

in_front : {D : Type 0} (disk : Option D) (disks : List D) → cons_option disk disks ≡ option_to_list disk ++ disks
in_front None disks = refl
in_front (Some d) disks = refl

-- one file more
pub device_more : (files : List FileEntry) (n i : ℕ) → n ≡ i + 1 → {file : FileEntry} → slice_get files i ≡ Some file
    → device_count (map file_of (take n files)) ≡ cond (nat_lt 0 file.length) 1 0 + device_count (map file_of (take i files))
device_more files zero i next at = absurd (omega arith)
device_more [] (suc n) i next at = absurd (nothing_at i at)
device_more (f ∷ files) (suc n) zero next {file} at =
    let is : f ≡ file = some_is at in
    let none : n ≡ 0 = omega arith in
    ap (λ m. device_count (file_of f ∷ map file_of (take m files))) none ∙ count_cons (λ (file : File). nat_lt 0 file.length) (file_of f) []
    ∙ ap (λ (f : FileEntry). cond (nat_lt 0 f.length) 1 0 + 0) is
device_more (f ∷ files) (suc n) (suc i) next at =
    let rest = device_more files n i (omega arith) at in
    let one = count_cons (λ (file : File). nat_lt 0 file.length) (file_of f) (map file_of (take n files)) in
    let two = count_cons (λ (file : File). nat_lt 0 file.length) (file_of f) (map file_of (take i files)) in
    omega (arith, rest, one, two)

pub device_left : (files : List FileEntry) (n i : ℕ) → n ≡ i + 1 → {file : FileEntry} → slice_get files i ≡ Some file → 0 < file.length
    → 0 < device_count (map file_of (take n files))
device_left files n i next {file} at some =
    let more = device_more files n i next at in
    let bit = ap {B = ℕ} (λ t. cond t 1 0) (lt-ltb 0 file.length some) in
    omega (arith, more, bit)

module _ {D H : Type 0} where
  no_device : (slot : Slot D H) → slot.store ≡ None → disk_of slot ≡ None
  no_device slot none = ap (λ store. option_map (λ store. store.disk) store) none

  passed_over : (slot : Slot D H) (slots : List (Slot D H)) → slot.store ≡ None → devices_in (slot ∷ slots) ≡ devices_in slots
  passed_over slot slots none = ap (λ (disk : Option D). cons_option disk (devices_in slots)) (no_device slot none)

  after_first : (slot : Slot D H) (slots : List (Slot D H)) {i : ℕ} → AreBareBelow (slot ∷ slots) (suc i) → AreBareBelow slots i
  after_first slot slots bare j s lt at = bare (suc j) s (omega arith) at

  -- the first slot that has a device now
  pub device_set : (slots : List (Slot D H)) (i : ℕ) (old new : Slot D H) → AreBareBelow slots i → slice_get slots i ≡ Some old → old.store ≡ None
      → devices_in (slice_set slots i new) ≡ option_to_list (disk_of new) ++ devices_in slots
  device_set [] i old new bare at none = absurd (nothing_at i at)
  device_set (s ∷ slots) zero old new bare at none =
      let is : s ≡ old = some_is at in
      in_front (disk_of new) (devices_in slots)
      ∙ ap (λ disks. option_to_list (disk_of new) ++ disks) (sym (passed_over s slots (ap (λ (s : Slot D H). s.store) is ∙ none)))
  device_set (s ∷ slots) (suc i) old new bare at none =
      passed_over s (slice_set slots i new) (bare 0 s (omega arith) refl) ∙ device_set slots i old new (after_first s slots bare) at none
      ∙ ap (λ disks. option_to_list (disk_of new) ++ disks) (sym (passed_over s slots (bare 0 s (omega arith) refl)))

  -- the first slot that had one
  pub device_taken : (slots : List (Slot D H)) (i : ℕ) (old new : Slot D H) → AreBareBelow slots i → slice_get slots i ≡ Some old → new.store ≡ None
      → option_to_list (disk_of old) ++ devices_in (slice_set slots i new) ≡ devices_in slots
  device_taken [] i old new bare at none = absurd (nothing_at i at)
  device_taken (s ∷ slots) zero old new bare at none =
      let is : s ≡ old = some_is at in
      ap (λ disks. option_to_list (disk_of old) ++ disks) (passed_over new slots none) ∙ sym (in_front (disk_of old) (devices_in slots))
      ∙ ap (λ (s : Slot D H). devices_in (s ∷ slots)) (sym is)
  device_taken (s ∷ slots) (suc i) old new bare at none =
      ap (λ disks. option_to_list (disk_of old) ++ disks) (passed_over s (slice_set slots i new) (bare 0 s (omega arith) refl))
      ∙ device_taken slots i old new (after_first s slots bare) at none ∙ sym (passed_over s slots (bare 0 s (omega arith) refl))

  pub no_devices : (slots : List (Slot D H)) → AreBareBelow slots (length slots) → devices_in slots ≡ []
  no_devices [] bare = refl
  no_devices (s ∷ slots) bare = passed_over s slots (bare 0 s (omega arith) refl) ∙ no_devices slots (after_first s slots bare)

  pub all_bare : (slots : List (Slot D H)) → All (λ slot. slot.store ≡ None) slots → (i : ℕ) → AreBareBelow slots i
  all_bare slots all i j s lt at = ap (λ (s : Slot D H). s.store) (sym (get_or_from_slice_get slots j s s at)) ∙ all j s (some_below slots j at)

  -- ---- one slot more has its device

  module _ (files : List FileEntry) (slots : List (Slot D H)) (n i : ℕ) (next : n ≡ i + 1) {file : FileEntry} {old : Slot D H} (new : Slot D H)
      (listed : slice_get files i ≡ Some file) (here : slice_get slots i ≡ Some old) where
    pub filled_bare : AreBareBelow slots n → AreBareBelow (slice_set slots i new) i
    filled_bare bare j s lt at = bare j s (omega arith) (sym (set_other slots i j new (λ same. absurd (omega arith))) ∙ at)

    pub filled_new : IsNewSlot (file_of file) new → AreNewFrom (map file_of files) slots n → AreNewFrom (map file_of files) (slice_set slots i new) i
    filled_new is so_far j f s from at there = elim (cases_eq j i) [
      | inl same ↦ (
          let first : file_of file ≡ f = some_is (sym (get_mapped file_of files i listed) ∙ ap (λ n. slice_get (map file_of files) n) (sym same) ∙ at) in
          let second : new ≡ s = some_is (sym (set_same slots i here) ∙ ap (λ n. slice_get (slice_set slots i new) n) (sym same) ∙ there) in
          subst (λ (s : Slot D H). IsNewSlot f s) second (subst (λ (f : File). IsNewSlot f new) first is)
          )
      | inr apart ↦ so_far j f s (omega arith) at (sym (set_other slots i j new apart) ∙ there)
    ]

    module _ (disks left : List D) (took : left ++ option_to_list (disk_of new) ≡ disks) where
      pub filled_order : AreBareBelow slots n → old.store ≡ None → {given : List D} → disks ++ devices_in slots ≡ given
          → left ++ devices_in (slice_set slots i new) ≡ given
      filled_order bare none all =
          ap (λ ds. left ++ ds) (device_set slots i old new (λ j s lt at. bare j s (omega arith) at) here none)
          ∙ sym (append_assoc left (option_to_list (disk_of new)) (devices_in slots)) ∙ ap (λ ds. ds ++ devices_in slots) took ∙ all

      pub filled_count : IsNewSlot (file_of file) new → length disks ≡ device_count (map file_of (take n files))
          → length left ≡ device_count (map file_of (take i files))
      filled_count is enough =
          let more = device_more files n i next listed in
          let size : length left + length (option_to_list (disk_of new)) ≡ length disks = sym (length-append left (option_to_list (disk_of new))) ∙ ap (λ ds. length ds) took in
          elim (cases_lt 0 file.length) [
            | inl some ↦ (
                let store = is.some some in
                let one = ap (λ (o : Option (StoreView D)). length (option_to_list (option_map (λ store. store.disk) o))) store.1 in
                let bit = ap {B = ℕ} (λ t. cond t 1 0) (lt-ltb 0 file.length some) in
                omega (arith, more, size, enough, one, bit)
                )
            | inr none ↦ (
                let zero : file.length ≡ 0 = omega arith in
                let no = ap (λ (o : Option (StoreView D)). length (option_to_list (option_map (λ store. store.disk) o))) (is.empty zero) in
                let bit = ap {B = ℕ} (λ n. cond (nat_lt 0 n) 1 0) zero in
                omega (arith, more, size, enough, no, bit)
                )
          ]

  -- one slot more has given its device back
  pub bare_above : (slots : List (Slot D H)) (i : ℕ) {old : Slot D H} (new : Slot D H) → slice_get slots i ≡ Some old → new.store ≡ None → AreBareBelow slots i
      → AreBareBelow (slice_set slots i new) (i + 1)
  bare_above slots i new here none bare j s lt at = elim (cases_eq j i) [
    | inl same ↦ (
        let is : new ≡ s = some_is (sym (set_same slots i here) ∙ ap (λ n. slice_get (slice_set slots i new) n) (sym same) ∙ at) in
        ap (λ (s : Slot D H). s.store) (sym is) ∙ none
        )
    | inr apart ↦ bare j s (omega arith) (sym (set_other slots i j new apart) ∙ at)
  ]

  -- it is after those that were given back before
  pub taken_order : (slots : List (Slot D H)) (i : ℕ) {old : Slot D H} (new : Slot D H) → AreBareBelow slots i → slice_get slots i ≡ Some old → new.store ≡ None
      → (disks : List D) {given : List D} → disks ++ devices_in slots ≡ given
      → (disks ++ option_to_list (disk_of old)) ++ devices_in (slice_set slots i new) ≡ given
  taken_order slots i {old} new bare here none disks all =
      append_assoc disks (option_to_list (disk_of old)) (devices_in (slice_set slots i new))
      ∙ ap (λ ds. disks ++ ds) (device_taken slots i old new bare here none) ∙ all

  -- there was room for it
  pub taken_room : (slots : List (Slot D H)) (i : ℕ) {old : Slot D H} → AreBareBelow slots i → slice_get slots i ≡ Some old
      → {d : D} → disk_of old ≡ Some d → (disks : List D) {given : List D} → disks ++ devices_in slots ≡ given → length disks < length given
  taken_room slots i {old} bare here {d} is disks {given} all =
      let emptied : Slot D H = record { tree = 0; store = None } in
      let taken = ap (λ ds. length ds) (device_taken slots i old emptied bare here refl) in
      let two = length-append (option_to_list (disk_of old)) (devices_in (slice_set slots i emptied)) in
      let one = ap (λ (o : Option D). length (option_to_list o)) is in
      let both = length-append disks (devices_in slots) in
      omega (arith, taken, two, one, both, ap (λ ds. length ds) all)
