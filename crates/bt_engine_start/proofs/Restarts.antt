-- Parts that begin anew tell a machine that does.
use Rattle.bt_machine.proofs.Base.{[], ◌≡◌, ℕ, is_some, List, ◌∷◌, length, map, Option, Some, None, refl, sym, ap, ◌∙◌, subst, slice_get, option_map, option_map_or, length-map, File, Facts}
use Rattle.std.specs.Global.{Vec}
use Rattle.bt_meta.specs.Torrent.{IsLawful}
use Rattle.bt_meta.specs.Law.{LiesInItsPiece}
use Rattle.bt_resume.specs.ResumeLog.{LogView}
use Rattle.bt_resume.specs.declared.hint.Hint.{Hint}
use Rattle.bt_store.specs.FileStore.{StoreView, new_states}
use Rattle.bt_machine.proofs.Lists.{some_is, get_map, map_some}
use Rattle.bt_machine.specs.State.{PeerState}
use Rattle.bt_machine.specs.Restart.{KeepsPlaces}
use Rattle.bt_machine.specs.Shape.{IsShaped}
use Rattle.bt_engine_state.specs.Parts.{state_of, disks_of, file_of, disk_of, peer_of, pending_of, hints_of}
use Rattle.bt_engine_state.specs.Ties.{IsTied, FitsFile, FitRoots, root_and_length}
use Rattle.bt_engine_state.specs.declared.peer.Peer.{Peer}
use Rattle.bt_engine_state.specs.declared.open_log.OpenLog.{OpenLog}
use Rattle.bt_engine_state.specs.declared.slot.Slot.{Slot}
use Rattle.bt_engine_state.specs.declared.parts.Parts.{Parts}
use Rattle.bt_engine_state.proofs.Lists.{get_mapped}
use Rattle.bt_engine_start.specs.declared.books.Books.{Books}
use Rattle.bt_engine_start.specs.AnewSteps.{cleared_store, cleared, GoesOn}
use Rattle.bt_engine_start.specs.BooksSteps.{AreNewBooks}
use Rattle.bt_engine_start.specs.MakingSteps.{AreTreesFrom}
use Rattle.bt_engine_start.specs.RecoverySteps.{HaveBegun}
use Rattle.bt_engine_start.specs.RootsSteps.{HasTreeAt}
use Rattle.bt_engine_start.specs.StartingSteps.{log_in}
use Rattle.bt_engine_start.proofs.Beginnings.{AreNewParts, have_begun}
use Rattle.bt_engine_start.proofs.ProvenTrees.{same_by, apart_alike}
use Rattle.bt_engine_start.proofs.RootTrees.{names_of_trees, tree_named}

-- ---- slots that are cleared

none_before : {D : Type 0} (o : Option (StoreView D)) → option_map cleared_store o ≡ None → o ≡ None
none_before None e = refl
none_before (Some store) e = absurd cc

module _ {D H : Type 0} where
  pub cleared_some : {slot : Slot D H} {store new : StoreView D} → slot.store ≡ Some store → new ≡ record store { states = new.states }
      → new.states ≡ new_states store.file_length → record slot { store = Some new } ≡ cleared slot
  cleared_some {slot} {store} has others states =
      ap {A = Option (StoreView D)} {B = Slot D H} (λ o. record slot { store = o })
      (ap (λ (s : StoreView D). Some s) (others ∙ ap (λ xs. record store { states = xs }) states)
      ∙ sym (ap (option_map (cleared_store {D = D})) has))

  pub cleared_none : {slot : Slot D H} → slot.store ≡ None → slot ≡ cleared slot
  cleared_none {slot} none =
      ap {A = Option (StoreView D)} {B = Slot D H} (λ o. record slot { store = o })
      (none ∙ sym (ap (option_map (cleared_store {D = D})) none))

  device_kept : (slot : Slot D H) → disk_of (cleared slot) ≡ disk_of slot
  device_kept slot = by slot.store
    where
      by : (o : Option (StoreView D)) → option_map (λ (store : StoreView D). store.disk) (option_map (cleared_store {D = D}) o)
          ≡ option_map (λ store. store.disk) o
      by None = refl
      by (Some store) = refl

  devices_kept : (slots : List (Slot D H)) → map disk_of (map cleared slots) ≡ map disk_of slots
  devices_kept [] = refl
  devices_kept (slot ∷ slots) = ap (λ d. d ∷ map disk_of (map cleared slots)) (device_kept slot) ∙ ap (λ ds. disk_of slot ∷ ds) (devices_kept slots)

  trees_kept : (slots : List (Slot D H)) → map (λ f. f.tree) (map file_of (map cleared slots)) ≡ map (λ f. f.tree) (map file_of slots)
  trees_kept [] = refl
  trees_kept (slot ∷ slots) = ap (λ ts. slot.tree ∷ ts) (trees_kept slots)

  module _ {files : List File} {old : List Facts} {i : ℕ} {slot : Slot D H} (fits : FitsFile files old i slot) where
    cleared_states : {file : File} → slice_get files i ≡ Some file → (file_of (cleared slot)).states ≡ new_states file.length
    cleared_states {file} listed = by slot.store refl ∙ ap (λ (f : File). new_states f.length) (some_is (sym fits.listed ∙ listed))
      where
        by : (o : Option (StoreView D)) → slot.store ≡ o
            → option_map_or (λ (store : StoreView D). store.states) (option_map (cleared_store {D = D}) o) [] ≡ new_states fits.file.length
        by None has = sym (ap new_states (fits.empty has))
        by (Some store) has = ap new_states (fits.some store has).long

    cleared_fits : {new : List Facts} → map root_and_length new ≡ map root_and_length old → FitsFile files new i (cleared slot)
    cleared_fits {new} names = record {
      file = fits.file;
      listed = fits.listed;
      empty = λ none. fits.empty (none_before slot.store none);
      some = λ store at. (
          let was = map_some (cleared_store {D = D}) slot.store at in
          let fit = fits.some was.0 was.1 in
          let long = ap (λ (store : StoreView D). store.file_length) was.2 in
          let k = tree_named new slot.tree (ap (λ ps. slice_get ps slot.tree) names ∙ get_mapped root_and_length old slot.tree fit.stands) in
          record { facts = k.0; stands = k.1; same = k.3 ∙ fit.same ∙ long; long = sym long ∙ fit.long }
          );
    }

-- ---- parts with another log

module _ {D H : Type 0} (parts : Parts D H) (log : Option (OpenLog D)) where
  abbrev pub with_log : Parts D H
  with_log = record parts { log = log }

  pub tied_with_log : IsTied parts → IsTied with_log
  tied_with_log tied = record {
    joined = tied.joined;
    in_order = tied.in_order;
    room = tied.room;
    wanted = tied.wanted;
    ranged = tied.ranged;
    count = tied.count;
    each = tied.each;
    roots = tied.roots;
    counted = record { unmarked = record { size = tied.counted.unmarked.size; each = tied.counted.unmarked.each }; waiting = tied.counted.waiting };
    known = record { size = tied.known.size; each = tied.known.each };
  }

  pub shaped_with_log : IsShaped parts.torrent (state_of parts) → IsShaped parts.torrent (state_of with_log)
  shaped_with_log shaped = record { same = refl; roots = shaped.roots; count = shaped.count; each = shaped.each }

  pub begun_with_log : {dig : List ℕ → List ℕ} {hints : List Hint} → HaveBegun dig hints parts → HaveBegun dig hints with_log
  begun_with_log b = record {
    bases = b.bases;
    is_new = b.is_new;
    takes = b.takes;
    missing = b.missing;
    alone = b.alone;
    shaped = shaped_with_log b.shaped;
    tied = tied_with_log b.tied;
  }

-- ---- all is begun anew

module _ {D H : Type 0} {dig : List ℕ → List ℕ} {hints : List Hint} (old : Parts D H) (slots : Vec (Slot D H)) (trees : Vec Facts) (books : Books) (log : Option (OpenLog D))
    (tied : IsTied old) (shaped : IsShaped old.torrent (state_of old)) (are : slots.items ≡ map cleared old.slots.items)
    (from : AreTreesFrom dig old.torrent old.roots.first_files.items hints trees.items) (fresh : AreNewBooks old.torrent books) where
  abbrev next : Parts D H
  next = record old { slots = slots; trees = trees; counts = books.counts; known = books.known; peers = books.peers; book = books.book; log = log }

  names : map root_and_length trees.items ≡ map root_and_length old.trees.items
  names = from.names ∙ names_of_trees from.made ∙ sym tied.roots.firsts.same

  new_parts : IsLawful old.torrent.piece_length old.torrent.files → AreNewParts dig hints next
  new_parts lawful = record {
    lawful = lawful;
    trees = from;
    apart = apart_alike trees.items old.trees.items names shaped.roots;
    roots = subst (λ (ps : List (List ℕ × ℕ)). FitRoots old.torrent.files ps old.roots) (sym names) tied.roots;
    books = fresh;
  }

  count : length slots.items ≡ length old.torrent.files
  count = ap (λ (ss : List (Slot D H)). length ss) are ∙ length-map old.slots.items cleared ∙ tied.count

  slot_before : (i : ℕ) {slot : Slot D H} → slice_get slots.items i ≡ Some slot → (was : Slot D H) × (slice_get old.slots.items i ≡ Some was) × (cleared was ≡ slot)
  slot_before i at = get_map cleared old.slots.items i (ap (λ (ss : List (Slot D H)). slice_get ss i) (sym are) ∙ at)

  all_new : (i : ℕ) (file : File) (slot : Slot D H) → slice_get old.torrent.files i ≡ Some file → slice_get slots.items i ≡ Some slot → (file_of slot).states ≡ new_states file.length
  all_new i file slot listed at =
      let was = slot_before i at in
      ap (λ (s : Slot D H). (file_of s).states) (sym was.2) ∙ cleared_states (tied.each i was.0 was.1) listed

  have_trees : (i : ℕ) (file : File) (slot : Slot D H) → slice_get old.torrent.files i ≡ Some file → slice_get slots.items i ≡ Some slot
      → HasTreeAt file (map root_and_length trees.items) slot.tree
  have_trees i file slot listed at some =
      let was = slot_before i at in
      let k = (shaped.each i file (file_of was.0) listed (get_mapped file_of old.slots.items i was.1)).has_tree some in
      ap (λ ps. slice_get ps slot.tree) names ∙ ap (λ (s : Slot D H). slice_get (map root_and_length old.trees.items) s.tree) (sym was.2)
      ∙ get_mapped root_and_length old.trees.items was.0.tree k.1 ∙ ap (λ r. Some (r, k.0.file_length)) k.2 ∙ ap (λ n. Some (file.root, n)) k.3

  pub begun_next : IsLawful old.torrent.piece_length old.torrent.files → LiesInItsPiece → HaveBegun dig hints next
  begun_next lawful lies = have_begun next (new_parts lawful) count all_new have_trees (λ i slot at. (
      let was = slot_before i at in
      subst (λ (s : Slot D H). FitsFile old.torrent.files trees.items i s) was.2 (cleared_fits (tied.each i was.0 was.1) names)
      )) lies

  pub places_next : KeepsPlaces (state_of old) (state_of next)
  places_next = record {
    roots = same_by (λ p. p.0) trees.items old.trees.items names;
    lengths = same_by (λ p. p.1) trees.items old.trees.items names;
    trees = ap (λ (ss : List (Slot D H)). map (λ f. f.tree) (map file_of ss)) are ∙ trees_kept old.slots.items;
  }

  pub devices_next : disks_of next ≡ disks_of old
  devices_next = ap (λ (ss : List (Slot D H)). map disk_of ss) are ∙ devices_kept old.slots.items

  hints_by : (o : Option (OpenLog D)) → hints_of o ≡ option_map_or (λ (l : LogView D). l.hints) (log_in o) []
  hints_by None = refl
  hints_by (Some held) = refl

  some_by : (o : Option (OpenLog D)) → is_some o ≡ is_some (log_in o)
  some_by None = refl
  some_by (Some held) = refl

  pub state_next : pending_of log ≡ [] → log_in log ≡ log_in old.log → GoesOn old next
  state_next pending same =
      let hints_are : hints_of log ≡ hints_of old.log =
      hints_by log ∙ ap (λ (o : Option (LogView D)). option_map_or (λ l. l.hints) o []) same ∙ sym (hints_by old.log) in
      let some_are : is_some log ≡ is_some old.log = some_by log ∙ ap (λ (o : Option (LogView D)). is_some o) same ∙ sym (some_by old.log) in
      ap (λ (ps : List PeerState). record (state_of next) { peers = ps }) (ap (λ (ps : List Peer). map (peer_of books.book) ps) fresh.peers)
      ∙ ap (λ b. record (state_of next) { peers = []; logged = b }) some_are
      ∙ ap (λ hs. record (state_of next) { peers = []; logged = is_some old.log; pending = hs }) pending
      ∙ ap (λ hs. record (state_of next) { peers = []; logged = is_some old.log; pending = []; hints = hs }) hints_are
