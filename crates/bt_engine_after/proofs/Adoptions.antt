-- The event in which what the device of a file has is taken in.
use Rattle.bt_machine.proofs.Base.{[], ◌≡◌, ◌≢◌, ℕ, zero, suc, Bool, false, ◌<◌, ◌≤◌, List, ◌∷◌, ◌++◌, length, map, flat_map, Option, Some, None, Result, Ok, Err, refl, sym, ap, ◌∙◌, subst, arith, append-nil, length-map, slice_get, option_map_or, Facts, Adopted, BlockState, max_peers, block_count, blocks_of}
use Rattle.std.specs.Prelude.{IsTrue}
use Rattle.std.specs.Vec.{vec_capacity}
use Rattle.bt_store.specs.FileStore.{StoreView}
use Rattle.bt_machine.proofs.Lists.{get_some, set_same, some_below}
use Rattle.bt_machine.proofs.Shape.{step_keeps, shape_after}
use Rattle.bt_machine.specs.declared.error.AdoptError.{AdoptError}
use Rattle.bt_machine.specs.declared.error.AdoptError.TheVariants.{NoFile, Busy, OutOfMemory}
use Rattle.bt_machine.specs.declared.event.Event.TheVariants.{Adopt}
use Rattle.bt_machine.specs.declared.event.Answer.TheVariants.{Adopted as AdoptedAnswer}
use Rattle.bt_machine.specs.State.{EngineState, FileState}
use Rattle.bt_machine.specs.Devices.{DeviceCalls, HaveCalls}
use Rattle.bt_machine.specs.Blocks.{states_of}
use Rattle.bt_machine.specs.Request.{IsFile}
use Rattle.bt_machine.specs.Settling.{SettlesIn}
use Rattle.bt_machine.specs.Shape.{IsShaped}
use Rattle.bt_machine.specs.Adopting.{AdoptsGroup, AdoptsGroups, is_other, nothing_adopted, unread, StepAdopt, no_file, busy, empty, adopts, no_memory}
use Rattle.bt_engine_state.specs.Parts.{state_of, file_of, peer_of, disks_of, pending_of}
use Rattle.bt_engine_state.specs.Ties.{IsTied, FitRoots, root_and_length}
use Rattle.bt_engine_state.specs.declared.slot.Slot.{Slot}
use Rattle.bt_engine_state.specs.declared.parts.Parts.{Parts}
use Rattle.bt_engine_state.proofs.BlockChanges.{followed_tied, tied_followed}
use Rattle.bt_engine_state.proofs.Completeness.{states_all}
use Rattle.bt_engine_state.proofs.DeviceCalls.{have_none, have_then}
use Rattle.bt_engine_state.proofs.Lists.{get_mapped}
use Rattle.bt_engine_after.proofs.Takings.{length_adopted}
use Rattle.bt_engine_after.proofs.Logs.{same_disks, state_same}
use Rattle.bt_engine_after.proofs.Slots.{states_are, not_empty, tree_there, length_is}
use Rattle.bt_engine_after.specs.PartsSteps.{AreFit, AreInLine, KeepsRest, block_count_of_tree}
use Rattle.bt_engine_after.specs.WaitingSteps.{OnlyPendingChanges}
use Rattle.bt_engine_after.specs.SettlingSteps.{SettlesOthers}
use Rattle.bt_engine_after.specs.AdoptionSteps.{AdoptsIn, StopsIn}
use Rattle.bt_disk.specs.Conduct.{Conduct}

no_items : {X : Type 0} (xs : List X) → length xs ≤ 0 → xs ≡ []
no_items [] none = refl
no_items (x ∷ xs) none = absurd (omega arith)

-- no peer is connected
pub alone_if : {X : Type 0} {xs : List X} {b : Bool} → (0 < length xs → IsTrue b) → b ≡ false → xs ≡ []
alone_if {X} {xs} {b} has off = no_items xs (by (length xs) refl)
  where
    by : (n : ℕ) → length xs ≡ n → length xs ≤ 0
    by zero e = omega arith
    by (suc n) e = absurd (let yes = has (omega arith) in cc)

module _ {D H : Type 0} (old : Parts D H) (tied : IsTied old) where
  pub in_line_first : IsShaped old.torrent (state_of old) → AreInLine old
  in_line_first shaped = record { follows = followed_tied old tied shaped; fits = tied.each }

  pub tied_last : (new : Parts D H) → KeepsRest old new → AreInLine new → IsTied new
  tied_last new rest in_line =
      tied_followed old new tied (ap (λ (p : Parts D H). p.torrent) rest.others) (ap (λ (p : Parts D H). map (λ q. q.key) p.peers.items) rest.others)
      (subst (λ (p : Parts D H). max_peers ≤ vec_capacity p.peers) (sym rest.others) tied.room) rest.peers rest.count in_line.fits
      (subst (λ (p : Parts D H). FitRoots p.torrent.files (map root_and_length new.trees.items) p.roots) (sym rest.others)
      (rw rest.trees tied.roots)) in_line.follows
      (ap (λ (p : Parts D H). p.known) rest.others) rest.leaves

-- ---- a file that has blocks

record FileStands (s : EngineState) (file : ℕ) : Type 0 where
  state : FileState
  tree : Facts
  is_file : IsFile s file state tree
  some : state.states ≢ []

module _ (dig : List ℕ → List ℕ) (file : ℕ) where
  group_size : {s new : EngineState} {from : ℕ} {calls : DeviceCalls} {one : Adopted} → AdoptsGroup dig s file from calls one new
      → length (states_of new file) ≡ length (states_of s file)
  group_size {s} g =
      ap (λ (x : EngineState). length (states_of x file)) g.after
      ∙ ap (λ o. length (option_map_or (λ (f : FileState). f.states) o [])) (set_same s.files file g.is_file.here)
      ∙ length_adopted g.adopts ∙ sym (ap (λ o. length (option_map_or (λ (f : FileState). f.states) o [])) g.is_file.here)

  -- groups leave it as many blocks as it had
  pub groups_size : (s new : EngineState) (from : ℕ) (groups : List DeviceCalls) (total : Adopted) → AdoptsGroups dig s file from groups total new
      → length (states_of new file) ≡ length (states_of s file)
  groups_size s new from [] total g = ap (λ (x : EngineState). length (states_of x file)) g.1
  groups_size s new from (calls ∷ more) total g = groups_size g.1 new g.0.next more g.2 g.4 ∙ group_size g.3

module _ {D H : Type 0} (parts : Parts D H) (file : ℕ) {slot : Slot D H} (here : slice_get parts.slots.items file ≡ Some slot) (some : 0 < length (states_of (state_of parts) file)) where
  has_store : (store : Option (StoreView D)) → slot.store ≡ store → (st : StoreView D) × (slot.store ≡ Some st)
  has_store None has = absurd (not_empty parts file here some has)
  has_store (Some st) has = (st, has)

  -- the file and its tree in the machine's state
  file_stands : AreFit parts → FileStands (state_of parts) file
  file_stands fits =
      let store = has_store slot.store refl in
      let tree = (fits file slot here).some store.0 store.1 in
      let states = ap (λ (xs : List BlockState). length xs) (states_are parts file here) in
      record {
        state = file_of slot;
        tree = tree.facts;
        is_file = record { here = get_mapped file_of parts.slots.items file here; has_tree = tree.stands };
        some = λ none. absurd (let e = ap (λ (xs : List BlockState). length xs) none in omega (arith, some, states, e));
      }

-- ---- the answers

-- in this event calls of these devices were made
abbrev pub Steps : {D H : Type 0} → Conduct D → (List ℕ → List ℕ) → Parts D H → ℕ → Result Adopted AdoptError → Parts D H → Type 0
Steps conduct dig old file answer new = (calls : DeviceCalls) × HaveCalls conduct (disks_of old) calls (disks_of new)
    × StepAdopt dig (state_of old) file calls answer (state_of new)

module _ {D H : Type 0} {conduct : Conduct D} {dig : List ℕ → List ℕ} (old : Parts D H) (file : ℕ) where
  nothing : {answer : Result Adopted AdoptError} → StepAdopt dig (state_of old) file [] answer (state_of old) → Steps conduct dig old file answer old
  nothing step = ([], have_none conduct (disks_of old), step)

  pub steps_no_file : old.slots.len ≤ file → Steps conduct dig old file (Err NoFile) old
  steps_no_file past = nothing (no_file (omega (arith, past, length-map old.slots.items file_of, old.slots.ok.0)) refl refl refl)

  pub steps_busy : file < old.slots.len → 0 < length old.peers.items → Steps conduct dig old file (Err Busy) old
  steps_busy lt some =
      nothing (busy (omega (arith, lt, length-map old.slots.items file_of, old.slots.ok.0))
      (λ none. absurd (omega (arith, some, ap (λ xs. length xs) none, length-map old.peers.items (peer_of old.book)))) refl refl refl)

  pub steps_empty : old.peers.items ≡ [] → file < old.slots.len → length (states_of (state_of old) file) ≡ 0 → Steps conduct dig old file (Ok (nothing_adopted 0)) old
  steps_empty alone lt none =
      let slot = get_some old.slots.items file (omega (arith, lt, old.slots.ok.0)) in
      nothing (empty (file_of slot.0) (ap (map (peer_of old.book)) alone) (get_mapped file_of old.slots.items file slot.1)
      (no_items (file_of slot.0).states (omega (arith, none, ap (λ (xs : List BlockState). length xs) (states_are old file slot.1)))) refl refl refl)

  pub steps_stopped : {new : Parts D H} → old.peers.items ≡ [] → StopsIn conduct dig file old new → Steps conduct dig old file (Err OutOfMemory) new
  steps_stopped alone s = (s.made, s.calls, no_memory (ap (map (peer_of old.book)) alone) s.stops refl)

module _ {D H : Type 0} (old : Parts D H) (file : ℕ) {slot : Slot D H} (here : slice_get old.slots.items file ≡ Some slot) (some : 0 < length (states_of (state_of old) file)) where
  pub tree_below : AreInLine old → slot.tree < old.trees.len
  tree_below in_line = tree_there old file here in_line.fits (has_store old file here some slot.store refl).1

  -- the file's tree is of as many blocks as the file has
  blocks_are : IsTied old → IsShaped old.torrent (state_of old) → block_count_of_tree (state_of old) slot.tree ≡ length (states_of (state_of old) file)
  blocks_are tied shaped =
      let store = has_store old file here some slot.store refl in
      let fits = (tied.each file slot here).some store.0 store.1 in
      ap (λ o. option_map_or blocks_of o 0) fits.stands ∙ ap block_count fits.same ∙ sym (states_all old tied shaped file slot here store.0 store.1)
      ∙ sym (length_is old file here store.1)

  pub steps_adopted : {conduct : Conduct D} {dig : List ℕ → List ℕ} {mid : Parts D H} {total : Adopted} (new : Parts D H) → old.peers.items ≡ [] → IsTied old → IsShaped old.torrent (state_of old)
      → AdoptsIn conduct dig file old total mid → KeepsRest old mid → SettlesOthers conduct dig file slot.tree mid new → Steps conduct dig old file (Ok total) new
  steps_adopted {conduct} {dig} {mid} {total} new alone tied shaped a rest s =
      let states = ap (λ (xs : List BlockState). length xs) (states_are old file here) in
      let count : block_count_of_tree (state_of mid) slot.tree ≡ length (file_of slot).states = rest.blocks slot.tree ∙ blocks_are tied shaped ∙ states in (
        flat_map (λ c. c) a.groups ++ s.calls,
        have_then conduct (disks_of old) (disks_of mid) (disks_of new) (flat_map (λ c. c) a.groups) s.calls a.calls s.made,
        adopts total (ap (map (peer_of old.book)) alone) (record {
          state = file_of slot;
          groups = a.groups;
          taken_in = state_of mid;
          settling = s.calls;
          notes = s.notes;
          settled = s.settled;
          here = get_mapped file_of old.slots.items file here;
          some = λ none. absurd (let e = ap (λ (xs : List BlockState). length xs) none in omega (arith, some, states, e));
          adopts = a.adopts;
          all = a.all ∙ states;
          settles = subst (λ n. SettlesIn dig (is_other file) slot.tree 0 n (state_of mid) s.calls s.notes s.settled) count s.settles;
          made = refl;
          after = s.after;
        }) refl,
      )

  -- all groups were taken in, and there was no room for what comes after them
  pub steps_unsettled : {conduct : Conduct D} {dig : List ℕ → List ℕ} {mid : Parts D H} {total : Adopted} (new : Parts D H) → old.peers.items ≡ []
      → AdoptsIn conduct dig file old total mid → KeepsRest old mid → AreInLine mid → OnlyPendingChanges mid new → pending_of new.log ≡ pending_of mid.log
      → Steps conduct dig old file (Err OutOfMemory) new
  steps_unsettled {conduct} {dig} {mid} {total} new alone a rest in_line keeps pending =
      let same : state_of new ≡ state_of mid = state_same keeps pending in
      let there = get_some mid.slots.items file (omega (arith, some_below old.slots.items file here, rest.count)) in
      let stands = file_stands mid file there.1 (omega (arith, some, groups_size dig file (state_of old) (state_of mid) 0 a.groups total a.adopts)) in_line.fits in
      let made = flat_map (λ c. c) a.groups ++ [] in (
        made,
        subst (λ ds. HaveCalls conduct (disks_of old) made ds) (sym (same_disks keeps))
            (subst (λ cs. HaveCalls conduct (disks_of old) cs (disks_of mid)) (sym (append-nil (flat_map (λ c. c) a.groups))) a.calls),
        no_memory (ap (map (peer_of old.book)) alone) (record {
          state = stands.state;
          tree = stands.tree;
          groups = a.groups;
          done = total;
          reads = [];
          some = stands.some;
          adopts = subst (λ (s : EngineState). AdoptsGroups dig (state_of old) file 0 a.groups total s) (sym same) a.adopts;
          is_file = subst (λ (s : EngineState). IsFile s file stands.state stands.tree) (sym same) stands.is_file;
          stops = unread refl;
          made = refl;
        }) refl,
      )

  -- so the engine that has taken in the groups is of its torrent's shape
  pub shaped_behind : {conduct : Conduct D} {dig : List ℕ → List ℕ} {mid : Parts D H} {total : Adopted} → old.peers.items ≡ []
      → AdoptsIn conduct dig file old total mid → KeepsRest old mid → AreInLine mid → IsShaped old.torrent (state_of old)
      → IsShaped mid.torrent (state_of mid)
  shaped_behind {dig = dig} {mid = mid} alone a rest in_line shaped =
      let steps = steps_unsettled mid alone a rest in_line (record { others = refl; log = refl }) refl in
      let kept = step_keeps dig (Adopt file) (record { devices = steps.0; log = [] }) (AdoptedAnswer (Err OutOfMemory)) (λ e. absurd cc) (Err OutOfMemory, refl, refl, steps.2) in
      subst (λ torrent. IsShaped torrent (state_of mid)) (sym (ap (λ (p : Parts D H). p.torrent) rest.others)) (shape_after dig shaped kept)
