-- An engine begins where all blocks of its files are missing.
use Rattle.bt_machine.proofs.Base.{[], ◌≡◌, ◌≢◌, ℕ, zero, suc, ◌<◌, ◌≤◌, inl, inr, Bool, true, false, List, ◌∷◌, length, map, replicate, Option, Some, None, refl, sym, ap, ◌∙◌, subst, arith, slice_get, option_map, option_map_or, option_and_then, length-map, length-replicate, cases_lt, block_count, File, Facts, AllPairs, BlockId, Missing, IsLawful, total_pieces}
use Rattle.std.specs.Prelude.{◌↔◌, slice_index_or}
use Rattle.std.proofs.lemmas.List.{get_or_past}
use Rattle.std.proofs.lemmas.Option.{slice_get_past, get_or_from_slice_get}
use Rattle.bt_store.specs.BlockStates.{is_marked, is_waiting}
use Rattle.bt_store.specs.FileStore.{StoreView, new_states}
use Rattle.bt_store.specs.declared.block_states.BlockState.{BlockState}
use Rattle.bt_book.specs.Blocks.{Blocks, IsInRange, member, of_file}
use Rattle.bt_book.specs.Book.{PeerRequests}
use Rattle.bt_meta.specs.Files.{file_of as entry_of}
use Rattle.bt_meta.specs.declared.torrent.FileEntry.{FileEntry}
use Rattle.bt_resume.specs.declared.hint.Hint.{Hint}
use Rattle.bt_machine.proofs.Lists.{some_is, some_below, get_some, get_map, and_then_some}
use Rattle.bt_meta.specs.Law.{LiesInItsPiece}
use Rattle.bt_machine.specs.Shape.{IsShaped}
use Rattle.bt_machine.specs.State.{EngineState, FileState}
use Rattle.bt_machine.specs.Blocks.{state_at, piece_of, is_marked_in}
use Rattle.bt_machine.specs.Start.{AreDevicesOf, IsNewFile, IsNew}
use Rattle.bt_engine_state.proofs.Lists.{get_mapped}
use Rattle.bt_engine_state.specs.Parts.{state_of, disks_of, file_of, disk_of}
use Rattle.bt_engine_state.specs.Ties.{FitsTree, is_waiting_in, IsTied, HaveRoots, root_and_length}
use Rattle.bt_engine_state.proofs.BlockChanges.{EachFits}
use Rattle.bt_engine_state.proofs.WaitingBlocks.{none_counted}
use Rattle.bt_engine_state.specs.declared.peer.Peer.{Peer}
use Rattle.bt_engine_state.specs.declared.slot.Slot.{Slot}
use Rattle.bt_engine_state.specs.declared.parts.Parts.{Parts}
use Rattle.bt_engine_start.specs.declared.books.Books.{Books}
use Rattle.bt_engine_start.specs.BooksSteps.{AreNewBooks}
use Rattle.bt_engine_start.specs.DeviceSteps.{devices_in, IsNewSlot, AreNewSlots}
use Rattle.bt_engine_start.specs.MakingSteps.{AreTreesFrom}
use Rattle.bt_engine_start.specs.RecoverySteps.{AreMissing, HaveBegun}
use Rattle.bt_engine_start.specs.RootsSteps.{HasTreeAt, AreBareSlots, roots_and_lengths}
use Rattle.bt_engine_start.proofs.ProvenTrees.{apart_alike}
use Rattle.bt_engine_start.proofs.RootTrees.{names_of_trees, torrent_trees, tree_named}
use Rattle.bt_engine_start.proofs.Sizes.{sizes_unmarked}

-- ---- a set of no piece

no_member : (n q : ℕ) → slice_get (replicate n false) q ≡ Some true → ⊥
no_member zero q e = absurd cc
no_member (suc n) zero e = absurd cc
no_member (suc n) (suc q) e = no_member n q e

none_among : (n : ℕ) (o : Option ℕ) → option_and_then (λ q. slice_get (replicate n false) q) o ≡ Some true → ⊥
none_among n o e = let q = and_then_some (λ q. slice_get (replicate n false) q) o e in no_member n q.0 q.2

-- ---- a book that wants all blocks, where all blocks are missing

missing_at : (n i : ℕ) → (slice_index_or (replicate n true) i false ≡ true) ↔ (slice_get (replicate n Missing) i ≡ Some Missing)
missing_at zero zero = (λ e. absurd cc, λ e. absurd cc)
missing_at zero (suc i) = (λ e. absurd cc, λ e. absurd cc)
missing_at (suc n) zero = (λ e. refl, λ e. refl)
missing_at (suc n) (suc i) = missing_at n i

none_marked : (n i : ℕ) → option_map_or is_marked (slice_get (replicate n Missing) i) false ≡ false
none_marked zero zero = refl
none_marked zero (suc i) = refl
none_marked (suc n) zero = refl
none_marked (suc n) (suc i) = none_marked n i

none_waiting : (n i : ℕ) → option_map_or is_waiting (slice_get (replicate n Missing) i) false ≡ false
none_waiting zero zero = refl
none_waiting zero (suc i) = refl
none_waiting (suc n) zero = refl
none_waiting (suc n) (suc i) = none_waiting n i

module _ (s : EngineState) (wanted : Blocks) (files : List File) (is : wanted ≡ map (λ file. replicate (block_count file.length) true) files)
    (count : length s.files ≡ length files)
    (missing : (i : ℕ) (file : File) (f : FileState) → slice_get files i ≡ Some file → slice_get s.files i ≡ Some f → f.states ≡ new_states file.length)
    (b : BlockId) where
  block_in : b.file < length files → (n : ℕ) × (of_file wanted b.file ≡ replicate n true) × (state_at s b ≡ slice_get (replicate n Missing) b.block)
  block_in lt =
      let file = get_some files b.file lt in
      let f = get_some s.files b.file (omega (arith, count)) in
      let listed = get_mapped (λ (file : File). replicate (block_count file.length) true) files b.file file.1 in (
        block_count file.0.length,
        ap (λ (set : Blocks). of_file set b.file) is
            ∙ get_or_from_slice_get (map (λ (file : File). replicate (block_count file.length) true) files) b.file (replicate (block_count file.0.length) true) [] listed,
        ap (λ (o : Option FileState). option_and_then (λ f. slice_get f.states b.block) o) f.1
            ∙ ap (λ (states : List BlockState). slice_get states b.block) (missing b.file file.0 f.0 file.1 f.1),
      )

  state_past : length files ≤ b.file → state_at s b ≡ None
  state_past past =
      ap (λ (o : Option FileState). option_and_then (λ f. slice_get f.states b.block) o) (slice_get_past s.files b.file (omega (arith, count)))

  wanted_past : length files ≤ b.file → member wanted b ≡ false
  wanted_past past =
      let size = ap (λ (set : Blocks). length set) is ∙ length-map files (λ (file : File). replicate (block_count file.length) true) in
      ap (λ (xs : List Bool). slice_index_or xs b.block false) (get_or_past wanted b.file [] (omega (arith, size))) ∙ get_or_past [] b.block false (omega arith)

  wanted_missing : (member wanted b ≡ true) ↔ (state_at s b ≡ Some Missing)
  wanted_missing = elim (cases_lt b.file (length files)) [
    | inl lt ↦ (
        let own = block_in lt in
        let both = missing_at own.0 b.block in
        let bit = ap (λ (xs : List Bool). slice_index_or xs b.block false) own.1 in
        (λ e. own.2 ∙ both.0 (sym bit ∙ e), λ e. bit ∙ both.1 (sym own.2 ∙ e))
        )
    | inr past ↦ (
        let first = wanted_past past in
        let second = state_past past in
        (λ e. absurd cc, λ e. absurd cc)
        )
  ]

  known_ranged : (x : BlockState) → state_at s b ≡ Some x → IsInRange wanted b
  known_ranged x at = elim (cases_lt b.file (length files)) [
    | inl lt ↦ (
        let own = block_in lt in
        let below = some_below (replicate own.0 Missing) b.block (sym own.2 ∙ at) in
        omega (arith, below, length-replicate own.0 Missing, length-replicate own.0 true, ap (λ (xs : List Bool). length xs) own.1)
        )
    | inr past ↦ absurd (let none = state_past past in cc)
  ]

  not_marked : is_marked_in s b ≡ false
  not_marked = elim (cases_lt b.file (length files)) [
    | inl lt ↦ (let own = block_in lt in ap (λ (o : Option BlockState). option_map_or is_marked o false) own.2 ∙ none_marked own.0 b.block)
    | inr past ↦ ap (λ (o : Option BlockState). option_map_or is_marked o false) (state_past past)
  ]

  not_waiting : is_waiting_in s b ≡ false
  not_waiting = elim (cases_lt b.file (length files)) [
    | inl lt ↦ (let own = block_in lt in ap (λ (o : Option BlockState). option_map_or is_waiting o false) own.2 ∙ none_waiting own.0 b.block)
    | inr past ↦ ap (λ (o : Option BlockState). option_map_or is_waiting o false) (state_past past)
  ]

-- ---- a slot that has its device

module _ {D H : Type 0} {file : File} {slot : Slot D H} (new : IsNewSlot file slot) where
  states_new : (file_of slot).states ≡ new_states file.length
  states_new = elim (cases_lt 0 file.length) [
    | inl some ↦ (let store = new.some some in ap (λ (o : Option (StoreView D)). option_map_or (λ store. store.states) o []) store.1 ∙ store.3)
    | inr none ↦ (
        let empty : file.length ≡ 0 = omega arith in
        ap (λ (o : Option (StoreView D)). option_map_or (λ store. store.states) o []) (new.empty empty) ∙ sym (ap new_states empty)
        )
  ]

  empty_without : slot.store ≡ None → file.length ≡ 0
  empty_without none = elim (cases_lt 0 file.length) [
    | inl some ↦ absurd (let store = new.some some in let clash = sym none ∙ store.1 in cc)
    | inr le ↦ omega arith
  ]

  has_device : (Some (disk_of slot) ≡ Some None) ↔ (file.length ≡ 0)
  has_device = (
    λ e. elim (cases_lt 0 file.length) [
      | inl some ↦ absurd (
          let store = new.some some in
          let disk = ap (λ (o : Option (StoreView D)). option_map (λ store. store.disk) o) store.1 in
          let clash = sym disk ∙ some_is e in
          cc
          )
      | inr le ↦ omega arith
    ],
    λ empty. ap (λ (o : Option (StoreView D)). Some (option_map (λ store. store.disk) o)) (new.empty empty),
  )

  fits_tree : {trees : List Facts} → HasTreeAt file (map root_and_length trees) slot.tree → (store : StoreView D) → slot.store ≡ Some store → FitsTree trees slot.tree file store
  fits_tree {trees} has_tree store at = elim (cases_lt 0 file.length) [
    | inl some ↦ (
        let own = new.some some in
        let same : own.0 ≡ store = some_is (sym own.1 ∙ at) in
        let long = ap (λ (store : StoreView D). store.file_length) (sym same) ∙ own.2 in
        let k = tree_named trees slot.tree (has_tree some) in
        record { facts = k.0; stands = k.1; same = k.3 ∙ sym long; long = long }
        )
    | inr le ↦ absurd (let clash = sym (new.empty (omega arith)) ∙ at in cc)
  ]

-- ---- the parts, where their trees and books are new

-- the parts that are made anew each time that all begins
abbrev pub books_of : {D H : Type 0} → Parts D H → Books
books_of parts = record {
  counts = parts.counts;
  known = parts.known;
  peers = parts.peers;
  book = parts.book;
}

-- the torrent's trees, which have taken the proofs of hints, with the files of their roots, and its books
pub record AreNewParts {D H : Type 0} (dig : List ℕ → List ℕ) (hints : List Hint) (parts : Parts D H) : Type 0 where
  pub lawful : IsLawful parts.torrent.piece_length parts.torrent.files
  pub trees : AreTreesFrom dig parts.torrent parts.roots.first_files.items hints parts.trees.items
  pub apart : AllPairs (λ j k. j.root ≢ k.root) parts.trees.items
  pub roots : HaveRoots parts
  pub books : AreNewBooks parts.torrent (books_of parts)

module _ {D H : Type 0} {dig : List ℕ → List ℕ} {hints : List Hint} (parts : Parts D H) (is : AreNewParts dig hints parts)
    (count : length parts.slots.items ≡ length parts.torrent.files)
    (all_new : (i : ℕ) (file : File) (slot : Slot D H) → slice_get parts.torrent.files i ≡ Some file → slice_get parts.slots.items i ≡ Some slot
    → (file_of slot).states ≡ new_states file.length)
    (have_trees : (i : ℕ) (file : File) (slot : Slot D H) → slice_get parts.torrent.files i ≡ Some file → slice_get parts.slots.items i ≡ Some slot
    → HasTreeAt file (map root_and_length parts.trees.items) slot.tree) where
  -- with the trees as they are, or as they were before they took the proofs
  new_file : (trees : List Facts) → map root_and_length parts.trees.items ≡ map root_and_length trees → (i : ℕ) (file : File) (f : FileState)
      → slice_get parts.torrent.files i ≡ Some file → slice_get (map file_of parts.slots.items) i ≡ Some f → IsNewFile file trees f
  new_file trees names i file f listed at =
      let slot = get_map file_of parts.slots.items i at in
      subst (λ (f : FileState). IsNewFile file trees f) slot.2 (record {
        missing = all_new i file slot.0 listed slot.1;
        has_tree = λ some. tree_named trees slot.0.tree (ap (λ ps. slice_get ps slot.0.tree) (sym names) ∙ have_trees i file slot.0 listed slot.1 some);
      })

  as_many_files : length (map file_of parts.slots.items) ≡ length parts.torrent.files
  as_many_files = length-map parts.slots.items file_of ∙ count

  is_new : IsNew dig parts.torrent is.trees.bases (map file_of parts.slots.items)
  is_new =
      let trees = torrent_trees is.trees.made is.roots.firsts.each (apart_alike is.trees.bases parts.trees.items (sym is.trees.names) is.apart) in
      record { roots = trees.roots; each_tree = trees.each; count = as_many_files; each_file = new_file is.trees.bases is.trees.names }

  in_shape : IsShaped parts.torrent (state_of parts)
  in_shape = record {
    same = refl;
    roots = is.apart;
    count = as_many_files;
    each = λ i file f listed at. (
        let new = new_file parts.trees.items refl i file f listed at in
        record {
          blocks = ap (λ (states : List BlockState). length states) new.missing ∙ length-replicate (block_count file.length) Missing;
          has_tree = new.has_tree;
        }
        );
  }

  missing : (i : ℕ) (file : File) (f : FileState) → slice_get parts.torrent.files i ≡ Some file → slice_get (state_of parts).files i ≡ Some f → f.states ≡ new_states file.length
  missing i file f listed at = (new_file parts.trees.items refl i file f listed at).missing

  module _ (fits : EachFits parts.torrent.files parts.trees.items parts.slots.items) where
    all_missing : AreMissing parts.slots.items
    all_missing file slot store at has =
        let fit = fits file slot at in
        sym (ap (λ (o : Option (StoreView D)). option_map_or (λ store. store.states) o []) has) ∙ all_new file fit.file slot fit.listed at
        ∙ ap new_states (sym (fit.some store has).long)

    tied_anew : LiesInItsPiece → IsTied parts
    tied_anew lies = record {
      joined = ap (λ (ps : List Peer). map (λ p. p.key) ps) is.books.peers ∙ sym (ap (λ (rs : List PeerRequests). map (λ r. r.peer) rs) is.books.unasked);
      in_order = λ i j d lt within. absurd (omega (arith, within, ap (λ (ps : List Peer). length ps) is.books.peers));
      room = is.books.room;
      wanted = wanted_missing (state_of parts) parts.book.wanted parts.torrent.files is.books.wanted as_many_files missing;
      ranged = known_ranged (state_of parts) parts.book.wanted parts.torrent.files is.books.wanted as_many_files missing;
      count = count;
      each = fits;
      roots = is.roots;
      known = record {
        size = ap (λ (bs : List Bool). length bs) is.books.known ∙ length-replicate (total_pieces parts.torrent) false;
        each = λ b k has among at.
            absurd (none_among (total_pieces parts.torrent) (piece_of parts.torrent b)
            (ap (λ (bs : List Bool). option_and_then (λ q. slice_get bs q) (piece_of parts.torrent b)) (sym is.books.known) ∙ among));
      };
      counted = record {
        unmarked = sizes_unmarked lies (state_of parts) in_shape is.lawful.piece is.lawful.laid_out
            (not_marked (state_of parts) parts.book.wanted parts.torrent.files is.books.wanted as_many_files missing) is.books.sizes;
        waiting = is.books.waiting
            ∙ sym (none_counted (state_of parts) (not_waiting (state_of parts) parts.book.wanted parts.torrent.files is.books.wanted as_many_files missing));
      };
    }

    pub have_begun : LiesInItsPiece → HaveBegun dig hints parts
    have_begun lies = record {
      bases = is.trees.bases;
      is_new = is_new;
      takes = is.trees.takes;
      missing = all_missing;
      alone = is.books.peers;
      shaped = in_shape;
      tied = tied_anew lies;
    }

-- ---- the parts, once devices were handed out

module _ {D H : Type 0} {dig : List ℕ → List ℕ} {hints : List Hint} (parts : Parts D H) (is : AreNewParts dig hints parts) (bare : List (Slot D H))
    (were : AreBareSlots parts.torrent.files (roots_and_lengths parts.torrent.files parts.roots.first_files.items) bare)
    (new : AreNewSlots parts.torrent.files parts.slots.items) (trees : map (λ slot. slot.tree) parts.slots.items ≡ map (λ slot. slot.tree) bare) where
  as_many : length parts.slots.items ≡ length parts.torrent.files
  as_many =
      sym (length-map parts.slots.items (λ (slot : Slot D H). slot.tree)) ∙ ap (λ (ts : List ℕ). length ts) trees
      ∙ length-map bare (λ (slot : Slot D H). slot.tree) ∙ were.count

  slot_tree : (i : ℕ) (file : File) (slot : Slot D H) → slice_get parts.torrent.files i ≡ Some file → slice_get parts.slots.items i ≡ Some slot
      → HasTreeAt file (map root_and_length parts.trees.items) slot.tree
  slot_tree i file slot listed at some =
      let old = get_map (λ (slot : Slot D H). slot.tree) bare i
      (ap (λ (ts : List ℕ). slice_get ts i) (sym trees) ∙ get_mapped (λ (slot : Slot D H). slot.tree) parts.slots.items i at) in
      ap (λ t. slice_get (map root_and_length parts.trees.items) t) (sym old.2)
      ∙ ap (λ ps. slice_get ps old.0.tree) (is.trees.names ∙ names_of_trees is.trees.made)
      ∙ (were.each i file old.0 listed old.1).has_tree some

  slot_states : (i : ℕ) (file : File) (slot : Slot D H) → slice_get parts.torrent.files i ≡ Some file → slice_get parts.slots.items i ≡ Some slot
      → (file_of slot).states ≡ new_states file.length
  slot_states i file slot listed at = states_new (new i file slot listed at)

  pub first_devices : {given : List D} → devices_in parts.slots.items ≡ given → AreDevicesOf parts.torrent.files given (disks_of parts)
  first_devices in_order = record {
    count = length-map parts.slots.items disk_of ∙ as_many;
    empty = λ i file listed. (
        let slot = get_some parts.slots.items i (omega (arith, as_many, some_below parts.torrent.files i listed)) in
        let there = get_mapped disk_of parts.slots.items i slot.1 in
        let both = has_device (new i file slot.0 listed slot.1) in
        (λ e. both.0 (sym there ∙ e), λ e. there ∙ both.1 e)
        );
    in_order = in_order;
  }

  pub first_begun : LiesInItsPiece → HaveBegun dig hints parts
  first_begun lies = have_begun parts is as_many slot_states slot_tree (λ i slot at. (
      let file = get_some parts.torrent.files i (omega (arith, as_many, some_below parts.slots.items i at)) in
      let own = new i file.0 slot file.1 at in
      record { file = file.0; listed = file.1; empty = empty_without own; some = fits_tree own (slot_tree i file.0 slot file.1 at) }
      )) lies

-- ---- a book that wants all blocks of files

pub counts_wanted : (files : List FileEntry) → map (λ n. replicate n true) (map (λ file. block_count file.length) files)
    ≡ map (λ file. replicate (block_count file.length) true) (map entry_of files)
counts_wanted [] = refl
counts_wanted (file ∷ files) = ap (λ set. replicate (block_count file.length) true ∷ set) (counts_wanted files)
