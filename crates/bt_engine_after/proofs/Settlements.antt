-- Files of a tree that are settled, one after the other.
use Rattle.bt_machine.proofs.Base.{[], ◌≡◌, ◌≢◌, ℕ, ◌<◌, ◌≤◌, inl, inr, Bool, true, false, cond, ◌&&◌, if◌then◌else◌, List, ◌++◌, length, map, flat_map, Option, Some, None, refl, sym, ap, ◌∙◌, subst, arith, ◌==◌, eqb-true, eq-eqb, lt-ltb, le-ltb, cases_lt, slice_get, option_map, option_map_or, range_with_len, Facts, BlockRead, block_of, call_of, judged, waiting_blocks, is_waiting, BlockState, blocks_of, block_count}
use Rattle.std.specs.Prelude.{nat_lt, IsTrue, ◌↔◌}
use Rattle.std.specs.List.{count_by}
use Rattle.std.specs.Vec.{with_item}
use Rattle.std.proofs.lemmas.Bool.{cases_eq, ne_eqb, ltb-true}
use Rattle.bt_store.specs.FileStore.{StoreView}
use Rattle.bt_store.specs.BlockReads.{IsJudged}
use Rattle.bt_store.proofs.Reviews.{nothing_waits}
use Rattle.bt_machine.proofs.Lists.{set_same, set_other, some_is, some_below, get_some}
use Rattle.bt_machine.specs.declared.answer.Note.{Note}
use Rattle.bt_machine.specs.State.{EngineState, FileState}
use Rattle.bt_machine.specs.Devices.{DeviceCalls, reads_at}
use Rattle.bt_machine.specs.Blocks.{file_numbers}
use Rattle.bt_machine.specs.Settling.{SettlesIn, judged_file, due_blocks, settling_notes}
use Rattle.bt_machine.specs.Adopting.{is_other}
use Rattle.bt_engine_state.specs.Parts.{state_of, file_of, disks_of}
use Rattle.bt_engine_state.specs.declared.slot.Slot.{Slot}
use Rattle.bt_engine_state.specs.declared.parts.Parts.{Parts}
use Rattle.bt_engine_state.proofs.Leaves.{still}
use Rattle.bt_engine_state.proofs.Lists.{get_mapped}
use Rattle.bt_engine_state.proofs.DeviceCalls.{have_none}
use Rattle.bt_engine_state.proofs.SlotChanges.{files_changed, have_changed}
use Rattle.bt_engine_after.specs.GroupsSteps.{file_with}
use Rattle.bt_engine_after.specs.PartsSteps.{block_count_of_tree}
use Rattle.bt_engine_after.specs.SettlingSteps.{SettlesFiles, IsDue}
use Rattle.bt_engine_after.proofs.Slots.{calls_are, IsKept}
use Rattle.bt_engine_after.proofs.Ranges.{flat_map_none, flat_map_one, flat_map_then}
use Rattle.bt_engine_after.proofs.NewMarks.{length_judged}
use Rattle.bt_engine_after.proofs.News.{no_reads}
use Rattle.bt_disk.specs.Conduct.{Conduct}

-- ---- a store whose blocks were judged

pub kept_judged : {D : Type 0} {conduct : Conduct D} {dig : List ℕ → List ℕ} {k : Facts} {blocks : List ℕ} {store after : StoreView D}
    {reads : List BlockRead} → IsJudged conduct dig k false blocks store reads after → IsKept k store k after
kept_judged {D} {conduct} {dig} {k} {blocks} {store} {after} {reads} is_judged = record {
  file_length = is_judged.same_file;
  size = ap (λ (xs : List BlockState). length xs) is_judged.states ∙ length_judged dig k false reads store.states;
  still = still k;
}

-- ---- reads of no block

pub judged_none : (dig : List ℕ → List ℕ) (k : Facts) (o : Option FileState) → option_map (judged_file dig k []) o ≡ o
judged_none dig k None = refl
judged_none dig k (Some f) = refl

-- ---- one file

module _ {D H : Type 0} (dig : List ℕ → List ℕ) (old : Parts D H) (file tree : ℕ) {slot : Slot D H} (here : slice_get old.slots.items file ≡ Some slot)
    {k : Facts} (there : slice_get old.trees.items tree ≡ Some k) where
  abbrev count : ℕ
  count = block_count_of_tree (state_of old) tree

  was : slice_get (state_of old).files file ≡ Some (file_of slot)
  was = get_mapped file_of old.slots.items file here

  module _ (reads : List BlockRead) where
    abbrev reads_for : ℕ → List BlockRead
    reads_for other = cond (other == file) reads []

    own : reads_for file ≡ reads
    own = ap (λ b. cond b reads []) (eq-eqb file file refl)

    others_none : (other : ℕ) → other ≢ file → reads_for other ≡ []
    others_none other apart = ap (λ b. cond b reads []) (ne_eqb other file apart)

    calls_made : reads_at file k.file_length reads ≡ flat_map (λ other. reads_at other k.file_length (reads_for other)) (file_numbers (state_of old))
    calls_made =
        sym (flat_map_one (λ other. reads_at other k.file_length (reads_for other)) file 0 (length (state_of old).files) (omega arith)
        (omega (arith, some_below (state_of old).files file was)) (λ j apart. ap (reads_at j k.file_length) (others_none j apart)) ∙ ap (reads_at file k.file_length) own)

    due_by : (other : ℕ) (f : FileState) (b : Bool) → (other == file) ≡ b → slice_get (state_of old).files other ≡ Some f
        → map block_of reads ≡ due_blocks dig k tree 0 count (file_of slot)
        → map block_of (cond b reads []) ≡ (if b then due_blocks dig k tree 0 count f else [])
    due_by other f true e at due =
        due ∙ ap (due_blocks dig k tree 0 count) (some_is (sym was ∙ ap (slice_get (state_of old).files) (sym (eqb-true other file e)) ∙ at))
    due_by other f false e at due = refl

    -- of this file these blocks were read, and the others stayed
    settles_so : (new : Parts D H) → map block_of reads ≡ due_blocks dig k tree 0 count (file_of slot)
        → ((other : ℕ) → other ≢ file → slice_get (state_of new).files other ≡ slice_get (state_of old).files other)
        → slice_get (state_of new).files file ≡ Some (judged_file dig k reads (file_of slot))
        → state_of new ≡ record (state_of old) { files = (state_of new).files }
        → (notes : List Note) × SettlesIn dig (λ other. other == file) tree 0 count (state_of old) (reads_at file k.file_length reads) notes (state_of new)
    settles_so new due same now rest = (
      flat_map (λ other. settling_notes dig k other (reads_for other)) (file_numbers (state_of old)),
      record {
        facts = k;
        reads = reads_for;
        here = there;
        due = λ other f at. due_by other f (other == file) refl at due;
        made = calls_made;
        noted = refl;
        files = λ other. elim (cases_eq other file) [
          | inl is ↦ ap (slice_get (state_of new).files) is ∙ now ∙ ap (λ rs. Some (judged_file dig k rs (file_of slot))) (sym own)
              ∙ ap (option_map (judged_file dig k (reads_for file))) (sym was)
              ∙ ap (λ n. option_map (judged_file dig k (reads_for n)) (slice_get (state_of old).files n)) (sym is)
          | inr apart ↦ same other apart ∙ sym (judged_none dig k (slice_get (state_of old).files other))
              ∙ ap (λ rs. option_map (judged_file dig k rs) (slice_get (state_of old).files other)) (sym (others_none other apart))
        ];
        others = rest;
      },
    )

  pub settles_one : {conduct : Conduct D} {store after : StoreView D} {reads : List BlockRead} (has : slot.store ≡ Some store) → slot.tree ≡ tree
      → k.file_length ≡ store.file_length → IsJudged conduct dig k false (waiting_blocks dig k store.states 0 (block_count store.file_length)) store reads after
      → SettlesFiles conduct dig (λ other. other == file) tree old (record old { slots = with_item old.slots file (record slot { store = Some after }) })
  settles_one {conduct} {store} {after} {reads} has of_tree same is_judged =
      let files = files_changed old.slots.items file here has after in
      let blocks : block_count store.file_length ≡ count = sym (ap (λ o. option_map_or blocks_of o 0) there ∙ ap block_count same) in
      let states : store.states ≡ (file_of slot).states = sym (ap (λ (o : Option (StoreView D)). option_map_or (λ st. st.states) o []) has) in
      let due : map block_of reads ≡ due_blocks dig k tree 0 count (file_of slot) =
      is_judged.device.in_order ∙ ap (λ (xs : List BlockState). waiting_blocks dig k xs 0 (block_count store.file_length)) states
      ∙ ap (waiting_blocks dig k (file_of slot).states 0) blocks
      ∙ ap (λ b. if b then waiting_blocks dig k (file_of slot).states 0 count else []) (sym (eq-eqb slot.tree tree of_tree)) in
      let settles = settles_so reads (record old { slots = with_item old.slots file (record slot { store = Some after }) }) due
      (λ other apart. ap (λ (fs : List FileState). slice_get fs other) files ∙ set_other (state_of old).files file other (file_with slot.tree after.states) apart)
      (ap (λ (fs : List FileState). slice_get fs file) files ∙ set_same (state_of old).files file was
      ∙ ap (λ (xs : List BlockState). Some (file_with slot.tree xs)) (is_judged.states ∙ ap (λ (xs : List BlockState). judged dig k false reads xs) states)) refl in (
        reads_at file k.file_length reads,
        settles.0,
        rw (calls_are file reads same) (have_changed old.slots.items file here has after conduct (map (call_of store.file_length) reads) is_judged.device.calls),
        settles.1,
      )

  -- nothing of it is due
  pub none_due : (is_due : IsDue tree slot → ⊥) → due_blocks dig k tree 0 count (file_of slot) ≡ []
  none_due is_due = by (slot.tree == tree) refl
    where
      waits : (store : Option (StoreView D)) → slot.store ≡ store → slot.tree ≡ tree
          → count_by is_waiting (option_map_or (λ st. st.states) store []) ≡ 0
      waits None has same = refl
      waits (Some store) has same = elim (cases_lt 0 (count_by is_waiting store.states)) [
        | inl some ↦ absurd (is_due (record { store = store; has = has; of_tree = same; waits = some }))
        | inr none ↦ omega (arith, none)
      ]

      by : (b : Bool) → (slot.tree == tree) ≡ b → (if b then waiting_blocks dig k (file_of slot).states 0 count else []) ≡ []
      by true e = nothing_waits dig k (file_of slot).states 0 count (waits slot.store refl (eqb-true slot.tree tree e))
      by false e = refl

  pub settles_not : {conduct : Conduct D} (is_due : IsDue tree slot → ⊥) → SettlesFiles conduct dig (λ other. other == file) tree old old
  settles_not {conduct} is_due =
      let settles = settles_so [] old (sym (none_due is_due)) (λ other apart. refl) was refl in
      (reads_at file k.file_length [], settles.0, have_none conduct (disks_of old), settles.1)

-- ---- files in turn

-- the files before this number, but one
abbrev pub before : (file i : ℕ) → ℕ → Bool
before file i other = nat_lt other i && is_other file other

module _ (dig : List ℕ → List ℕ) (tree count : ℕ) where
  -- files are meant as well of which nothing is due
  pub alike_meant : {p q : ℕ → Bool} {s new : EngineState} {calls : DeviceCalls} {notes : List Note} (one : SettlesIn dig p tree 0 count s calls notes new)
      → ((f : ℕ) (state : FileState) → slice_get s.files f ≡ Some state → (if p f then due_blocks dig one.facts tree 0 count state else []) ≡ (if q f then due_blocks dig one.facts tree 0 count state else []))
      → SettlesIn dig q tree 0 count s calls notes new
  alike_meant one same = record {
    facts = one.facts;
    reads = one.reads;
    here = one.here;
    due = λ file f at. one.due file f at ∙ same file f at;
    made = one.made;
    noted = one.noted;
    files = one.files;
    others = one.others;
  }

  -- the meant files alone are named
  pub same_meant : {p q : ℕ → Bool} {s new : EngineState} {calls : DeviceCalls} {notes : List Note} → ((f : ℕ) → f < length s.files → p f ≡ q f)
      → SettlesIn dig p tree 0 count s calls notes new → SettlesIn dig q tree 0 count s calls notes new
  same_meant {p} {q} {s} same one =
      alike_meant one (λ file f at. ap (λ b. if b then due_blocks dig one.facts tree 0 count f else []) (same file (some_below s.files file at)))

  pub settles_none : (p : ℕ → Bool) (s : EngineState) {k : Facts} → slice_get s.trees tree ≡ Some k → ((f : ℕ) → p f ≡ false)
      → SettlesIn dig p tree 0 count s [] (flat_map (λ file. settling_notes dig k file []) (file_numbers s)) s
  settles_none p s {k} here none = record {
    facts = k;
    reads = λ file. [];
    here = here;
    due = λ file f at. sym (ap (λ b. if b then due_blocks dig k tree 0 count f else []) (none file));
    made = sym (flat_map_none (λ file. []) 0 (length s.files) (λ j low high. refl));
    noted = refl;
    files = λ file. sym (judged_none dig k (slice_get s.files file));
    others = refl;
  }

  -- first those below a number, and then those from there on
  module _ {p q r : ℕ → Bool} (i : ℕ) {s mid new : EngineState} {c d : DeviceCalls} {m n : List Note} (one : SettlesIn dig p tree 0 count s c m mid)
      (two : SettlesIn dig q tree 0 count mid d n new) (size : length mid.files ≡ length s.files) (low : (f : ℕ) → i ≤ f → p f ≡ false) (high : (f : ℕ) → f < i → q f ≡ false)
      (r_low : (f : ℕ) → f < i → r f ≡ p f) (r_high : (f : ℕ) → i ≤ f → r f ≡ q f) where
    k : Facts
    k = one.facts

    both_reads : ℕ → List BlockRead
    both_reads file = cond (nat_lt file i) (one.reads file) (two.reads file)

    same_tree : two.facts ≡ one.facts
    same_tree = some_is (sym two.here ∙ ap (λ (x : EngineState). slice_get x.trees tree) one.others ∙ one.here)

    reads_low : (file : ℕ) → file < i → both_reads file ≡ one.reads file
    unfolding both_reads
    reads_low file lt = ap (λ b. cond b (one.reads file) (two.reads file)) (lt-ltb file i lt)

    reads_high : (file : ℕ) → i ≤ file → both_reads file ≡ two.reads file
    unfolding both_reads
    reads_high file le = ap (λ b. cond b (one.reads file) (two.reads file)) (le-ltb file i le)

    none_high : (file : ℕ) → file < length s.files → i ≤ file → one.reads file ≡ []
    none_high file lt le =
        let f = get_some s.files file lt in
        no_reads (one.reads file) (one.due file f.0 f.1 ∙ ap (λ b. if b then due_blocks dig one.facts tree 0 count f.0 else []) (low file le))

    none_low : (file : ℕ) → file < length s.files → file < i → two.reads file ≡ []
    none_low file lt below =
        let f = get_some mid.files file (omega (arith, size, lt)) in
        no_reads (two.reads file) (two.due file f.0 f.1 ∙ ap (λ b. if b then due_blocks dig two.facts tree 0 count f.0 else []) (high file below))

    -- what a file is, where the one or the other read nothing of it
    kept_high : (file : ℕ) → file < length s.files → i ≤ file → slice_get mid.files file ≡ slice_get s.files file
    kept_high file lt le =
        one.files file ∙ ap (λ rs. option_map (judged_file dig one.facts rs) (slice_get s.files file)) (none_high file lt le)
        ∙ judged_none dig one.facts (slice_get s.files file)

    kept_low : (file : ℕ) → file < length s.files → file < i → slice_get new.files file ≡ slice_get mid.files file
    kept_low file lt below =
        two.files file ∙ ap (λ rs. option_map (judged_file dig two.facts rs) (slice_get mid.files file)) (none_low file lt below)
        ∙ judged_none dig two.facts (slice_get mid.files file)

    past : (file : ℕ) → length s.files ≤ file → (o : Option FileState) → slice_get s.files file ≡ o → o ≡ None
    past file le None at = refl
    past file le (Some f) at = absurd (let lt = some_below s.files file at in omega arith)

    files_then : (file : ℕ) → slice_get new.files file ≡ option_map (judged_file dig one.facts (both_reads file)) (slice_get s.files file)
    files_then file = elim (cases_lt file (length s.files)) [
      | inr le ↦
          let none = past file le (slice_get s.files file) refl in
          two.files file ∙ ap (option_map (judged_file dig two.facts (two.reads file))) (one.files file ∙ ap (option_map (judged_file dig one.facts (one.reads file))) none)
          ∙ sym (ap (option_map (judged_file dig one.facts (both_reads file))) none)
      | inl lt ↦ elim (cases_lt file i) [
        | inl below ↦ kept_low file lt below ∙ one.files file
            ∙ ap (λ rs. option_map (judged_file dig one.facts rs) (slice_get s.files file)) (sym (reads_low file below))
        | inr from ↦ two.files file ∙ ap (option_map (judged_file dig two.facts (two.reads file))) (kept_high file lt from)
            ∙ ap (λ t. option_map (judged_file dig t (two.reads file)) (slice_get s.files file)) same_tree
            ∙ ap (λ rs. option_map (judged_file dig one.facts rs) (slice_get s.files file)) (sym (reads_high file from))
      ]
    ]

    due_then : (file : ℕ) (f : FileState) → slice_get s.files file ≡ Some f → map block_of (both_reads file) ≡ (if r file then due_blocks dig one.facts tree 0 count f else [])
    due_then file f at = elim (cases_lt file i) [
      | inl below ↦ ap (map block_of) (reads_low file below) ∙ one.due file f at
          ∙ ap (λ b. if b then due_blocks dig one.facts tree 0 count f else []) (sym (r_low file below))
      | inr from ↦ ap (map block_of) (reads_high file from) ∙ two.due file f (kept_high file (some_below s.files file at) from ∙ at)
          ∙ ap (λ t. if q file then due_blocks dig t tree 0 count f else []) same_tree
          ∙ ap (λ b. if b then due_blocks dig one.facts tree 0 count f else []) (sym (r_high file from))
    ]

    calls_then : c ++ d ≡ flat_map (λ file. reads_at file one.facts.file_length (both_reads file)) (file_numbers s)
    calls_then =
        let n = one.facts.file_length in
        let made : d ≡ flat_map (λ file. reads_at file one.facts.file_length (two.reads file)) (file_numbers s) =
        two.made ∙ ap (λ (t : Facts). flat_map (λ file. reads_at file t.file_length (two.reads file)) (file_numbers mid)) same_tree
        ∙ ap (λ x. flat_map (λ file. reads_at file one.facts.file_length (two.reads file)) (range_with_len 0 x)) size in
        ap (λ cs. cs ++ d) one.made ∙ ap (λ cs. flat_map (λ file. reads_at file one.facts.file_length (one.reads file)) (file_numbers s) ++ cs) made
        ∙ sym (flat_map_then (λ file. reads_at file one.facts.file_length (one.reads file)) (λ file. reads_at file one.facts.file_length (two.reads file))
        (λ file. reads_at file one.facts.file_length (both_reads file)) i 0 (length s.files)
        (λ j lt below. (
          ap (reads_at j one.facts.file_length) (none_low j (omega arith) below),
          ap (reads_at j one.facts.file_length) (reads_low j below),
        ))
        (λ j lt from. (
          ap (reads_at j one.facts.file_length) (none_high j (omega arith) from),
          ap (reads_at j one.facts.file_length) (reads_high j from),
        )))

    pub settles_then : (notes : List Note) × SettlesIn dig r tree 0 count s (c ++ d) notes new
    settles_then = (
      flat_map (λ file. settling_notes dig one.facts file (both_reads file)) (file_numbers s),
      record {
        facts = one.facts;
        reads = both_reads;
        here = one.here;
        due = due_then;
        made = calls_then;
        noted = refl;
        files = files_then;
        others = two.others ∙ ap (λ (x : EngineState). record x { files = new.files }) one.others;
      },
    )

-- the slot is due that is read there once more
pub due_again : {D H : Type 0} (parts : Parts D H) (file : ℕ) {tree : ℕ} {slot other : Slot D H} → slice_get parts.slots.items file ≡ Some slot
    → slice_get parts.slots.items file ≡ Some other → IsDue tree slot → IsDue tree other
due_again {D} {H} parts file {tree = tree} here there due = subst (λ (s : Slot D H). IsDue tree s) (some_is (sym here ∙ there)) due

pub due_is : {D H : Type 0} (slot : Slot D H) (tree : ℕ) {store : StoreView D} → slot.store ≡ Some store → slot.tree ≡ tree → (n : ℕ) → n ≡ count_by is_waiting store.states
    → IsTrue (nat_lt 0 n) ↔ IsDue tree slot
due_is {D} slot tree {store} has same n is = (
  λ some. record { store = store; has = has; of_tree = same; waits = (let lt = ltb-true 0 n some in omega arith) },
  λ due. lt-ltb 0 n (omega (arith, is, due.waits, ap (λ (s : StoreView D). count_by is_waiting s.states) (some_is (sym due.has ∙ has)))),
)
