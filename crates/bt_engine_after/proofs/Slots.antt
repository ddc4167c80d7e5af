-- A file's slot whose store has changed, and the tree of a file that has grown.
use Rattle.bt_machine.proofs.Base.{[], ◌≡◌, ℕ, ◌<◌, inl, inr, Bool, is_some, List, ◌∷◌, ◌++◌, length, map, flat_map, replicate, get_or, Option, Result, Ok, Err, Some, None, refl, sym, ap, ◌∙◌, subst, arith, length-set, slice_get, slice_set, option_map_or, Facts, BlockRead, call_of, BlockState, Marked, Adopted, block_count, blocks_of}
use Rattle.std.specs.Prelude.{IfOk, IfErr}
use Rattle.std.proofs.lemmas.Bool.{cases_eq}
use Rattle.std.proofs.lemmas.List.{map-append}
use Rattle.std.specs.Vec.{with_item}
use Rattle.bt_disk.specs.Calls.{HasCalls}
use Rattle.bt_sparse.specs.SparseTree.{value_at}
use Rattle.bt_disk.specs.Law.{CallsCompose}
use Rattle.bt_store.specs.FileStore.{StoreView}
use Rattle.bt_machine.proofs.Lists.{set_cases, set_same, set_other, some_is, some_below}
use Rattle.bt_machine.specs.State.{FileState, EngineState, Hint}
use Rattle.bt_machine.specs.Devices.{calls_at, reads_at}
use Rattle.bt_machine.specs.Blocks.{states_of}
use Rattle.bt_machine.specs.Adopting.{AdoptsGroups}
use Rattle.bt_engine_state.specs.Parts.{state_of, file_of, log_of, pending_of, hints_of}
use Rattle.bt_engine_state.specs.Recount.{HasFile, with_all}
use Rattle.bt_engine_state.specs.Ties.{FitsFile, StillKnows, LeavesStay, root_and_length}
use Rattle.bt_engine_state.specs.declared.slot.Slot.{Slot}
use Rattle.bt_engine_state.specs.declared.open_log.OpenLog.{OpenLog}
use Rattle.bt_engine_state.specs.declared.parts.Parts.{Parts}
use Rattle.bt_engine_state.proofs.Leaves.{still, leaves_by, one_grown, same_names}
use Rattle.bt_engine_state.proofs.Lists.{get_mapped, get_read}
use Rattle.bt_engine_state.proofs.Recounts.{files_with}
use Rattle.bt_engine_state.proofs.SlotChanges.{file_here, files_changed, have_changed, fits_changed, fits_trees, set_again}
use Rattle.bt_engine_after.specs.GroupSteps.{log_in, file_view}
use Rattle.bt_engine_after.specs.GroupsSteps.{all_reads, file_with, AreTaken, TakesGroups, StopsTaking}
use Rattle.bt_engine_after.specs.PartsSteps.{AreFit, block_count_of_tree}
use Rattle.bt_engine_after.specs.AdoptionSteps.{AdoptsIn, StopsIn}
use Rattle.bt_engine_after.specs.Unknown.{HasUnknownLeaf}
use Rattle.bt_engine_after.proofs.Logs.{logged_same, hints_same}
use Rattle.bt_engine_after.proofs.Takings.{taken_state}
use Rattle.bt_disk.specs.Conduct.{Conduct}

-- ---- what is known of a slot with a store

pub here_at : {D H : Type 0} (parts : Parts D H) {file : ℕ} {slot : Slot D H} → file < parts.slots.len → slot ≡ get_or parts.slots.items file slot
    → slice_get parts.slots.items file ≡ Some slot
here_at parts {file} {slot} inside is = get_read parts.slots.items file slot (omega (arith, inside, parts.slots.ok.0)) is

pub there_at : {D H : Type 0} (parts : Parts D H) {tree : ℕ} {k : Facts} → tree < parts.trees.len → k ≡ get_or parts.trees.items tree k
    → slice_get parts.trees.items tree ≡ Some k
there_at parts {tree} {k} inside is = get_read parts.trees.items tree k (omega (arith, inside, parts.trees.ok.0)) is

pub has_file : {D H : Type 0} (parts : Parts D H) {file : ℕ} {slot : Slot D H} → slice_get parts.slots.items file ≡ Some slot
    → HasFile parts.torrent file (file_of slot) (state_of parts)
has_file parts {file} here = record { same_torrent = refl; here = get_mapped file_of parts.slots.items file here }

-- the file's slot, its store and its tree
pub record StandsAt {D H : Type 0} (parts : Parts D H) (file : ℕ) (slot : Slot D H) (store : StoreView D) (k : Facts) : Type 0 where
  pub here : slice_get parts.slots.items file ≡ Some slot
  pub has : slot.store ≡ Some store
  pub there : slice_get parts.trees.items slot.tree ≡ Some k
  pub same : k.file_length ≡ store.file_length

module _ {D H : Type 0} (parts : Parts D H) (file : ℕ) {slot : Slot D H} (here : slice_get parts.slots.items file ≡ Some slot) where
  pub states_are : states_of (state_of parts) file ≡ (file_of slot).states
  states_are = ap (λ o. option_map_or (λ (f : FileState). f.states) o []) (get_mapped file_of parts.slots.items file here)

  pub length_is : {store : Option (StoreView D)} → slot.store ≡ store
      → length (states_of (state_of parts) file) ≡ length (option_map_or (λ (st : StoreView D). st.states) store [])
  length_is has =
      ap (λ (xs : List BlockState). length xs) states_are ∙ ap (λ (o : Option (StoreView D)). length (option_map_or (λ st. st.states) o [])) has

  pub not_empty : 0 < length (states_of (state_of parts) file) → slot.store ≡ None → ⊥
  not_empty some none = absurd (omega (arith, some, length_is none))

  module _ {store : StoreView D} (fits : AreFit parts) (has : slot.store ≡ Some store) where
    pub tree_there : slot.tree < parts.trees.len
    tree_there =
        let of = (fits file slot here).some store has in
        omega (arith, some_below parts.trees.items slot.tree of.stands, parts.trees.ok.0)

    pub stands_at : {k : Facts} → k ≡ get_or parts.trees.items slot.tree k → StandsAt parts file slot store k
    stands_at {k} is =
        let of = (fits file slot here).some store has in
        let there = get_read parts.trees.items slot.tree k (some_below parts.trees.items slot.tree of.stands) is in
        record { here = here; has = has; there = there; same = ap (λ (f : Facts). f.file_length) (some_is (sym there ∙ of.stands)) ∙ of.same }

-- ---- what a call answers

pub if_ok_two : {X E : Type 0} {P Q : X → Type 0} {R : X → Type 0} (r : Result X E) → IfOk r P → IfOk r Q → ((x : X) → P x → Q x → R x) → IfOk r R
if_ok_two (Ok x) p q then_so = then_so x p q
if_ok_two (Err e) p q then_so = p

pub if_ok_then : {X E : Type 0} {P R : X → Type 0} (r : Result X E) → IfOk r P → ((x : X) → P x → R x) → IfOk r R
if_ok_then (Ok x) p then_so = then_so x p
if_ok_then (Err e) p then_so = p

pub if_err_then : {X E : Type 0} {P Q : Type 0} (r : Result X E) → IfErr r (λ e. P) → (P → Q) → IfErr r (λ e. Q)
if_err_then (Ok x) p then_so = p
if_err_then (Err e) p then_so = then_so p

pub if_err_two : {X E : Type 0} {P Q R : Type 0} (r : Result X E) → IfErr r (λ e. P) → IfErr r (λ e. Q) → (P → Q → R) → IfErr r (λ e. R)
if_err_two (Ok x) p q then_so = p
if_err_two (Err e) p q then_so = then_so p q

pub either_way : {X E : Type 0} {P : X → Type 0} {Q S : Type 0} (r : Result X E) → IfOk r P → IfErr r (λ e. Q) → ((x : X) → P x → S) → (Q → S) → S
either_way (Ok x) p q f g = f x p
either_way (Err e) p q f g = g q

-- ---- a store that has changed, and its tree

-- the parts then
abbrev pub parts_with : {D H : Type 0} → Parts D H → ℕ → Slot D H → StoreView D → Facts → Option (OpenLog D) → Parts D H
parts_with old file slot after grown log =
    record old { slots = with_item old.slots file (record slot { store = Some after }); trees = with_item old.trees slot.tree grown; log = log }

-- what stays of a file and its tree
pub record IsKept {D : Type 0} (k : Facts) (store : StoreView D) (grown : Facts) (after : StoreView D) : Type 0 where
  pub file_length : after.file_length ≡ store.file_length
  pub size : length after.states ≡ length store.states
  pub still : StillKnows k grown

module _ {D : Type 0} {conduct : Conduct D} {dig : List ℕ → List ℕ} {k : Facts} {store : StoreView D} {grown : Facts} {after : StoreView D} where
  pub kept_taken : {file : ℕ} {logged : Bool} {pending left : List Hint} {total : Adopted}
      → TakesGroups conduct dig file logged (file_view k store pending) total (file_view grown after left) → IsKept k store grown after
  kept_taken t = record { file_length = t.same_file; size = t.same_size; still = t.still }

  pub kept_stopped : {file : ℕ} {logged : Bool} {pending left : List Hint} → StopsTaking conduct dig file logged (file_view k store pending) (file_view grown after left) → IsKept k store grown after
  kept_stopped s = record {
    file_length = ap (λ (v : StoreView D). v.file_length) s.others ∙ s.takes.same_file;
    size = ap (λ (v : StoreView D). length v.states) s.others ∙ s.takes.same_size;
    still = s.takes.still;
  }

-- Of parts in which nothing changed but slots, trees and what waits for the log: there are as many slots as
-- before, and the trees are of the same roots, lengths and blocks. Each leaf that was known is. Of the files only
-- this one has changed, and has as many blocks as before.
pub record ChangesFile {D H : Type 0} (file : ℕ) (old new : Parts D H) : Type 0 where
  pub log : log_of new ≡ log_of old
  pub count : length new.slots.items ≡ length old.slots.items
  pub trees : map root_and_length new.trees.items ≡ map root_and_length old.trees.items
  pub alike : (with_all Marked (state_of new) file).files ≡ (with_all Marked (state_of old) file).files
  pub blocks : (tree : ℕ) → block_count_of_tree (state_of new) tree ≡ block_count_of_tree (state_of old) tree
  pub leaves : LeavesStay (state_of old) (state_of new)
  pub fits : AreFit new

module _ {D H : Type 0} {old : Parts D H} {file : ℕ} {slot : Slot D H} {store : StoreView D} {k : Facts} (at : StandsAt old file slot store k)
    {grown : Facts} {after : StoreView D} (kept : IsKept k store grown after) where
  trees : List Facts
  trees = slice_set old.trees.items slot.tree grown

  abbrev pub changed_slots : List (Slot D H)
  changed_slots = slice_set old.slots.items file (record slot { store = Some after })

  files_are : map file_of changed_slots ≡ slice_set (state_of old).files file (file_with slot.tree after.states)
  files_are = files_changed old.slots.items file at.here at.has after

  -- the file is the only one that differs
  alike : (new : Parts D H) → new.slots.items ≡ changed_slots → (with_all Marked (state_of new) file).files ≡ (with_all Marked (state_of old) file).files
  alike new is =
      let was = file_here old.slots.items file at.here at.has after in
      let files : (state_of new).files ≡ slice_set (state_of old).files file (file_with slot.tree after.states) = ap (λ (xs : List (Slot D H)). map file_of xs) is ∙ files_are in
      let now = ap (λ (fs : List FileState). slice_get fs file) files ∙ set_same (state_of old).files file was in
      let count : length (states_of (state_of new) file) ≡ length (states_of (state_of old) file) =
      ap (λ o. length (option_map_or (λ (f : FileState). f.states) o [])) now ∙ kept.size ∙ sym (ap (λ o. length (option_map_or (λ (f : FileState). f.states) o [])) was) in
      let marked = file_with slot.tree (replicate (length (states_of (state_of old) file)) Marked) in
      files_with (state_of new) file now (replicate (length (states_of (state_of new) file)) Marked)
      ∙ ap (λ n. slice_set (state_of new).files file (file_with slot.tree (replicate n Marked))) count
      ∙ ap (λ (fs : List FileState). slice_set fs file marked) files
      ∙ set_again (state_of old).files file (file_with slot.tree after.states) marked
      ∙ sym (files_with (state_of old) file was (replicate (length (states_of (state_of old) file)) Marked))

  -- each file has the tree that it had
  same_trees : (other : ℕ) (g : FileState) → slice_get (map file_of changed_slots) other ≡ Some g → (f : FileState) × (slice_get (state_of old).files other ≡ Some f) × (g.tree ≡ f.tree)
  same_trees other g there =
      elim (set_cases (state_of old).files file other (ap (λ (fs : List FileState). slice_get fs other) (sym files_are) ∙ there)) [
        | inl own ↦ (
          file_with slot.tree store.states,
          ap (slice_get (state_of old).files) own.0 ∙ file_here old.slots.items file at.here at.has store,
          ap (λ (f : FileState). f.tree) own.1,
        )
        | inr was ↦ (g, was, refl)
      ]

  blocks_kept : (tree : ℕ) → option_map_or blocks_of (slice_get trees tree) 0 ≡ block_count_of_tree (state_of old) tree
  unfolding trees
  blocks_kept tree = elim (cases_eq tree slot.tree) [
    | inl own ↦ ap (λ n. option_map_or blocks_of (slice_get (slice_set old.trees.items slot.tree grown) n) 0) own
        ∙ ap (λ o. option_map_or blocks_of o 0) (set_same old.trees.items slot.tree {x = grown} at.there) ∙ ap block_count kept.still.long
        ∙ ap (λ o. option_map_or blocks_of o 0) (sym at.there) ∙ ap (block_count_of_tree (state_of old)) (sym own)
    | inr apart ↦ ap (λ o. option_map_or blocks_of o 0) (set_other old.trees.items slot.tree tree grown apart)
  ]

  module _ (fits : AreFit old) where
    slots_fit : (i : ℕ) (other : Slot D H) → slice_get changed_slots i ≡ Some other → FitsFile old.torrent.files old.trees.items i other
    slots_fit = fits_changed old.slots.items file at.here at.has after kept.file_length fits

    -- by a call of the store alone
    pub store_changed : ChangesFile file old (record old { slots = with_item old.slots file (record slot { store = Some after }) })
    store_changed = record {
      log = refl;
      count = length-set old.slots.items file (record slot { store = Some after });
      trees = refl;
      alike = alike (record old { slots = with_item old.slots file (record slot { store = Some after }) }) refl;
      blocks = λ tree. refl;
      leaves = leaves_by (state_of old) (state_of (record old { slots = with_item old.slots file (record slot { store = Some after }) }))
          same_trees (λ tree j there. (j, there, still j));
      fits = slots_fit;
    }

    -- and its tree grew, and other hints wait for the log
    pub both_changed : (log : Option (OpenLog D)) → log_in log ≡ log_of old → ChangesFile file old (parts_with old file slot after grown log)
    unfolding trees
    both_changed log same_log = record {
      log = same_log;
      count = length-set old.slots.items file (record slot { store = Some after });
      trees = same_names old.trees.items slot.tree grown at.there kept.still;
      alike = alike (parts_with old file slot after grown log) refl;
      blocks = blocks_kept;
      leaves = leaves_by (state_of old) (state_of (parts_with old file slot after grown log))
          same_trees (one_grown old.trees.items slot.tree at.there kept.still);
      fits = fits_trees changed_slots slot.tree grown at.there kept.still.long slots_fit;
    }

-- ---- calls of a file's device

pub calls_are : (file : ℕ) {n m : ℕ} (reads : List BlockRead) → n ≡ m → reads_at file n reads ≡ calls_at file (map (call_of m) reads)
calls_are file [] same = refl
calls_are file {n} {m} (r ∷ reads) same = ap (λ x. (file, call_of x r) ∷ reads_at file n reads) same ∙ ap (λ cs. (file, call_of m r) ∷ cs) (calls_are file reads same)

group_calls : (file n : ℕ) (groups : List (List BlockRead)) → flat_map (λ c. c) (map (reads_at file n) groups) ≡ reads_at file n (all_reads groups)
group_calls file n [] = refl
group_calls file n (reads ∷ groups) =
    ap (λ cs. reads_at file n reads ++ cs) (group_calls file n groups) ∙ sym (map-append (λ read. (file, call_of n read)) reads (all_reads groups))

-- ---- groups that are taken in

module _ {D H : Type 0} {old : Parts D H} {file : ℕ} {slot : Slot D H} {store : StoreView D} {k : Facts} (at : StandsAt old file slot store k) where
  -- the machine's state then
  state_is : (after : StoreView D) (grown : Facts) {states : List BlockState} → after.states ≡ states → (log : Option (OpenLog D)) → log_in log ≡ log_of old
      → taken_state (state_of old) file slot.tree states grown (pending_of log) ≡ state_of (parts_with old file slot after grown log)
  state_is after grown {states} is log same_log =
      let new = state_of (parts_with old file slot after grown log) in
      sym (ap (λ (fs : List FileState). record new { files = fs }) (files_changed old.slots.items file at.here at.has after)
      ∙ ap (λ (xs : List BlockState). record new { files = slice_set (state_of old).files file (file_with slot.tree xs) }) is
      ∙ ap (λ b. record (taken_state (state_of old) file slot.tree states grown (pending_of log)) { logged = b; hints = hints_of log }) (logged_same log old.log same_log)
      ∙ ap (λ hs. record (taken_state (state_of old) file slot.tree states grown (pending_of log)) { hints = hs }) (hints_same log old.log same_log))

  taken_in : (dig : List ℕ → List ℕ) (after : StoreView D) (grown : Facts) (groups : List (List BlockRead)) (total : Adopted) (mid : StoreView D)
      (log : Option (OpenLog D)) → log_in log ≡ log_of old
      → AreTaken dig file (is_some old.log) (file_view k store (pending_of old.log)) groups total (file_view grown mid (pending_of log)) → after.states ≡ mid.states
      → AdoptsGroups dig (state_of old) file 0 (map (reads_at file k.file_length) groups) total (state_of (parts_with old file slot after grown log))
  taken_in dig after grown groups total mid log same_log taken is =
      subst (λ (s : EngineState). AdoptsGroups dig (state_of old) file 0 (map (reads_at file k.file_length) groups) total s) (state_is after grown is log same_log)
      (taken (state_of old) slot.tree refl refl
      (record { here = file_here old.slots.items file at.here at.has store; has_tree = at.there }))

  module _ {conduct : Conduct D} {dig : List ℕ → List ℕ} {after : StoreView D} {grown : Facts} (log : Option (OpenLog D)) (same_log : log_in log ≡ log_of old) where
    pub adopts_in : {total : Adopted}
        → TakesGroups conduct dig file (is_some old.log) (file_view k store (pending_of old.log)) total (file_view grown after (pending_of log))
        → total.next ≡ length store.states → AdoptsIn conduct dig file old total (parts_with old file slot after grown log)
    adopts_in {total} takes all = record {
      groups = map (reads_at file k.file_length) takes.groups;
      calls = rw (group_calls file k.file_length takes.groups ∙ calls_are file (all_reads takes.groups) at.same)
          (have_changed old.slots.items file at.here at.has after conduct (map (call_of store.file_length) (all_reads takes.groups)) takes.calls);
      adopts = taken_in dig after grown takes.groups total after log same_log takes.taken refl;
      all = all ∙ sym (length_is old file at.here at.has);
    }

    pub stops_in : CallsCompose conduct → 0 < length (states_of (state_of old) file)
        → StopsTaking conduct dig file (is_some old.log) (file_view k store (pending_of old.log)) (file_view grown after (pending_of log))
        → StopsIn conduct dig file old (parts_with old file slot after grown log)
    stops_in compose some s =
        let call = call_of store.file_length in
        let states = ap (λ (v : StoreView D). v.states) s.others in
        let last = subst (λ m. HasCalls conduct s.before.disk (map (call_of m) s.last) after.disk) s.takes.same_file s.calls in
        let calls : flat_map (λ c. c) (map (reads_at file k.file_length) s.takes.groups) ++ reads_at file grown.file_length s.last
        ≡ calls_at file (map (call_of store.file_length) (all_reads s.takes.groups) ++ map (call_of store.file_length) s.last) =
        ap (λ cs. cs ++ reads_at file grown.file_length s.last) (group_calls file k.file_length s.takes.groups ∙ calls_are file (all_reads s.takes.groups) at.same)
        ∙ ap (λ cs. calls_at file (map (call_of store.file_length) (all_reads s.takes.groups)) ++ cs) (calls_are file s.last (s.takes.still.long ∙ at.same))
        ∙ sym (map-append (λ call. (file, call)) (map (call_of store.file_length) (all_reads s.takes.groups)) (map (call_of store.file_length) s.last)) in
        record {
          made = flat_map (λ c. c) (map (reads_at file k.file_length) s.takes.groups) ++ reads_at file grown.file_length s.last;
          calls = rw calls (have_changed old.slots.items file at.here at.has after conduct (map call (all_reads s.takes.groups) ++ map call s.last)
              (compose store.disk s.before.disk after.disk (map call (all_reads s.takes.groups)) (map call s.last) s.takes.calls last));
          stops = record {
            state = file_with slot.tree after.states;
            tree = grown;
            groups = map (reads_at file k.file_length) s.takes.groups;
            done = s.done;
            reads = s.last;
            some = λ none. absurd (omega (arith, ap (λ (xs : List BlockState). length xs) none, ap (λ (xs : List BlockState). length xs) states, s.takes.same_size, some, length_is old file at.here at.has));
            adopts = taken_in dig after grown s.takes.groups s.done s.before log same_log s.takes.taken states;
            is_file = record {
              here = ap (λ (fs : List FileState). slice_get fs file) (files_changed old.slots.items file at.here at.has after)
                  ∙ set_same (state_of old).files file (file_here old.slots.items file at.here at.has store);
              has_tree = set_same old.trees.items slot.tree at.there;
            };
            stops = s.stops;
            made = refl;
          };
        }

    -- a leaf that its tree does not know then
    pub unknown_in : StopsTaking conduct dig file (is_some old.log) (file_view k store (pending_of old.log)) (file_view grown after (pending_of log))
        → (block : ℕ) × (block < length store.states) × (value_at dig grown 0 block ≡ None)
        → HasUnknownLeaf dig (state_of (parts_with old file slot after grown log)) file
    unknown_in s (block, inside, unknown) = record {
      state = file_with slot.tree after.states;
      tree = grown;
      block = block;
      is_file = record {
        here = ap (λ (fs : List FileState). slice_get fs file) (files_changed old.slots.items file at.here at.has after)
            ∙ set_same (state_of old).files file (file_here old.slots.items file at.here at.has store);
        has_tree = set_same old.trees.items slot.tree at.there;
      };
      inside = omega (arith, inside, ap (λ (v : StoreView D). length v.states) s.others, s.takes.same_size);
      unknown = unknown;
    }
