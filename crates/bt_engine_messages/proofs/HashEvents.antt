-- Hashes that come, over the parts of an engine.
use Rattle.bt_machine.proofs.Base.{[], ◌≡◌, ◌≢◌, ℕ, ◌<◌, inl, inr, AllPairs, cases_lt, lt-ltb, false, sum_by, List, length, map, is_some, Option, Some, None, refl, sym, ap, ◌∙◌, subst, arith, slice_get, option_map, PeerKey, Facts, HashKey, Message, Hashes}
use Rattle.std.specs.Global.{Vec}
use Rattle.std.specs.Prelude.{nat_lt}
use Rattle.std.specs.Vec.{with_item, with_items, vec_len}
use Rattle.bt_book.specs.Book.{asked_of, peers_of}
use Rattle.bt_store.specs.FileStore.{StoreView}
use Rattle.std.proofs.lemmas.Option.{get_or_from_slice_get}
use Rattle.bt_machine.proofs.Lists.{some_is, some_below, get_some, map_some, get_map}
use Rattle.bt_machine.proofs.Shape.{map_set}
use Rattle.bt_machine.specs.State.{EngineState, PeerState, FileState, Hint}
use Rattle.bt_machine.specs.Blocks.{with_peer}
use Rattle.bt_machine.specs.HashMessages.{Resolves, settled_count, new_proofs}
use Rattle.bt_machine.specs.Shape.{IsShaped}
use Rattle.bt_machine.specs.declared.answer.Note.{Note}
use Rattle.bt_machine.specs.declared.answer.Why.{Why}
use Rattle.bt_machine.specs.declared.hash_state.HashState.{HashState}
use Rattle.bt_machine.specs.declared.hash_state.HashState.TheVariants.{Idle}
use Rattle.bt_machine.specs.Devices.{HaveCalls}
use Rattle.bt_machine.specs.HashMessages.{HandlesHashes}
use Rattle.bt_machine.specs.Output.{no_effect}
use Rattle.bt_engine_state.specs.BlockChange.{AreFollowed}
use Rattle.bt_engine_state.specs.Parts.{state_of, disks_of, peer_of, file_of, disk_of}
use Rattle.bt_engine_state.specs.Roots.{AreNumbered, LeadThrough}
use Rattle.bt_engine_state.specs.Ties.{NoneWaits, IsTied, LeavesStay}
use Rattle.bt_engine_state.specs.declared.peer.Peer.{Peer}
use Rattle.bt_engine_state.specs.declared.slot.Slot.{Slot}
use Rattle.bt_engine_state.specs.declared.parts.Parts.{Parts}
use Rattle.bt_engine_state.proofs.BlockChanges.{EachFits, followed_alike, followed_tied, tied_followed, state_kept}
use Rattle.bt_engine_state.proofs.Chains.{roots_numbered, tree_leads}
use Rattle.bt_engine_state.proofs.DeviceCalls.{have_none}
use Rattle.bt_engine_state.proofs.Leaves.{leaves_by, one_grown, same_names, still_joined}
use Rattle.bt_engine_state.proofs.SlotChanges.{fits_trees}
use Rattle.bt_engine_state.proofs.Lists.{get_mapped}
use Rattle.bt_engine_state.proofs.Ties.{state_set}
use Rattle.bt_engine_state.proofs.WaitingBlocks.{none_waits}
use Rattle.bt_engine_messages.specs.Outcome.{IsHandled}
use Rattle.bt_engine_messages.specs.Hashes.{IsNoteRoom}
use Rattle.bt_engine_messages.specs.NoteRooms.{slot_room, run_room}
use Rattle.bt_engine_messages.specs.HashesSteps.{AreNotesOf, IsBehind}
use Rattle.bt_engine_messages.specs.HintSteps.{hint_of, kept_hint}
use Rattle.bt_engine_messages.specs.LearningSteps.{HasRoot, AreRefused, Learns, ChangesByHashes, FitLengths, IsRoomFor}
use Rattle.bt_engine_messages.specs.declared.learning.Learnt.{Learnt}
use Rattle.bt_engine_messages.specs.declared.outcome.Outcome.TheVariants.{Closed, Stays}
use Rattle.bt_engine_messages.specs.declared.outcome.Reply.TheVariants.{Settled}
use Rattle.bt_engine_messages.proofs.HashesHandled.{at_file, refused_so, learning_calls, have_learning_calls, learnt_so}
use Rattle.bt_engine_messages.proofs.KeptHints.{keeps_none, keeps_proofs}
use Rattle.bt_engine_messages.proofs.NotedBlocks.{slots_noted}
use Rattle.bt_engine_messages.proofs.Vectors.{vec_kept}
use Rattle.bt_disk.specs.Conduct.{Conduct}

-- each slot has a store of its tree's length
fits_lengths : {D H : Type 0} (parts : Parts D H) → IsTied parts → FitLengths parts.trees.items parts.slots.items
fits_lengths {D} parts tied file slot k here stands = λ same store has.
    let of = (tied.each file slot here).some store has in
    ap (λ (x : Facts). x.file_length) (some_is (sym stands ∙ of.stands)) ∙ of.same

-- the lists that were lent are the parts'
pub changes_of : {D H : Type 0} (conduct : Conduct D) (dig : List ℕ → List ℕ) (key : HashKey) (digests : List ℕ)
    (hint : Option Hint) (old : Parts D H) (trees : List Facts) (slots : List (Slot D H)) (said learnt : Learnt) (grown : List Facts) (settled : List (Slot D H))
    → trees ≡ old.trees.items → slots ≡ old.slots.items → said ≡ learnt
    → ChangesByHashes conduct dig key digests hint trees slots said grown settled
    → ChangesByHashes conduct dig key digests hint old.trees.items old.slots.items learnt grown settled
changes_of {D} {H} conduct dig key digests hint old trees slots said learnt grown settled same_trees same_slots is changes =
    subst (λ (ts : List Facts). ChangesByHashes conduct dig key digests hint ts old.slots.items learnt grown settled) same_trees
    (subst (λ (ss : List (Slot D H)). ChangesByHashes conduct dig key digests hint trees ss learnt grown settled) same_slots
    (subst (λ (l : Learnt). ChangesByHashes conduct dig key digests hint trees slots l grown settled) is changes))

-- the same trees and slots were written over the parts'
pub parts_kept : {D H : Type 0} (old : Parts D H) (trees : List Facts) (slots : List (Slot D H)) → length trees ≡ vec_len old.trees → trees ≡ old.trees.items
    → length slots ≡ vec_len old.slots → slots ≡ old.slots.items
    → record old { trees = with_items old.trees trees; slots = with_items old.slots slots } ≡ old
parts_kept {D} {H} old trees slots tree_count same_trees slot_count same_slots =
    ap {B = Parts D H} (λ ts. record old { trees = ts; slots = with_items old.slots slots }) (vec_kept old.trees trees tree_count same_trees)
    ∙ ap {B = Parts D H} (λ ss. record old { slots = ss }) (vec_kept old.slots slots slot_count same_slots)

-- hashes that are refused
pub takes_refused : {D H : Type 0} (conduct : Conduct D) (dig : List ℕ → List ℕ) (key : HashKey) (digests : List ℕ)
    (old new : Parts D H) (i : ℕ) (why : Why) → new ≡ old → AreRefused dig old.trees.items key digests why
    → IsHandled conduct dig old i (Message (Hashes key digests)) (Closed why) new
takes_refused {D} {H} conduct dig key digests old new i why same refusal = record {
  calls = [];
  proofs = [];
  made = subst (λ (x : Parts D H). HaveCalls conduct (disks_of old) [] (disks_of x)) (sym same) (have_none conduct (disks_of old));
  handles = λ p at. refused_so dig key digests old.trees.items why refusal (state_of old) i p (state_of new) refl (ap (λ (x : Parts D H). state_of x) same);
  keeps = keeps_none old refl;
}

no_store : {D : Type 0} (o : Option (StoreView D)) → option_map (λ store. store.file_length) o ≡ None → o ≡ None
no_store None e = refl
no_store (Some store) e = absurd cc

module _ {D H : Type 0} (conduct : Conduct D) (dig : List ℕ → List ℕ) (key : HashKey) (digests : List ℕ)
    (old : Parts D H) (tied : IsTied old) (notes : Vec Note) (grown : List Facts) (settled : List (Slot D H))
    (l : Learns conduct dig key digests old.trees.items old.slots.items notes.items grown settled) where
  pub fits_settled : EachFits old.torrent.files grown settled
  fits_settled i slot at =
      let o = at_file conduct dig l.new l.tree key.index (settled_count key) old.slots.items settled l.settles i at in
      let was = subst (λ (ts : List Facts). EachFits old.torrent.files ts old.slots.items) (sym l.grows)
      (fits_trees old.slots.items l.tree l.new l.here.here l.accepts.joins.file_length tied.each) i o.0 o.1 in
      let same_tree : slot.tree ≡ o.0.tree = ap (λ (f : FileState). f.tree) o.2.judged in
      record {
        file = was.file;
        listed = was.listed;
        empty = λ none. was.empty (no_store o.0.store (sym o.2.same_file ∙ ap (option_map (λ (store : StoreView D). store.file_length)) none));
        some = λ store has.
            let before = map_some (λ (store : StoreView D). store.file_length) o.0.store
            (sym o.2.same_file ∙ ap (option_map (λ (store : StoreView D). store.file_length)) has) in
            let of = was.some before.0 before.1 in
            record {
              facts = of.facts;
              stands = ap (λ n. slice_get grown n) same_tree ∙ of.stands;
              same = of.same ∙ before.2;
              long = sym before.2 ∙ of.long;
            };
      }

  module _ (next : Parts D H) (i : ℕ) {p : Peer} (q : Peer) (here : slice_get old.peers.items i ≡ Some p) (same : q.key ≡ p.key)
      (trees : next.trees.items ≡ grown) (slots : next.slots.items ≡ settled) where
    -- the parts before the notes are followed
    abbrev learnt_parts : Parts D H
    learnt_parts = record old { trees = next.trees; slots = next.slots; peers = with_item old.peers i q }

    -- and then
    abbrev new_parts : Parts D H
    new_parts = record old { trees = next.trees; slots = next.slots; peers = with_item old.peers i q; book = next.book; counts = next.counts }

    pub notes_behind : IsShaped old.torrent (state_of old) → IsBehind old.book.wanted old.counts notes.items (state_of learnt_parts)
    notes_behind shaped =
        let first : EngineState = record (state_of learnt_parts) { files = map file_of old.slots.items } in
        record {
          first = first;
          same_torrent = refl;
          followed = followed_alike first (followed_tied old tied shaped) refl refl;
          noted = subst (λ (ss : List (Slot D H)). AreNotesOf first notes.items (record (state_of learnt_parts) { files = map file_of ss })) (sym slots)
              (slots_noted dig l.new conduct l.tree key.index (settled_count key) old.slots.items settled notes.items l.settles (state_of learnt_parts));
        }

    pub keys_kept : map (λ p. p.key) new_parts.peers.items ≡ map (λ p. p.key) old.peers.items
    keys_kept = map_set (λ p. p.key) old.peers.items i q here same

    -- the tree of the root has grown, and each file has the tree that it had
    leaves_learnt : LeavesStay (state_of old) (state_of new_parts)
    leaves_learnt = leaves_by (state_of old) (state_of new_parts)
        (λ file f at.
        let n = get_map file_of settled file (ap (λ (ss : List (Slot D H)). slice_get (map file_of ss) file) (sym slots) ∙ at) in
        let o = at_file conduct dig l.new l.tree key.index (settled_count key) old.slots.items settled l.settles file n.1 in
        (file_of o.0, get_mapped file_of old.slots.items file o.1, ap (λ (g : FileState). g.tree) (sym n.2 ∙ o.2.judged)))
        (λ tree j at.
        one_grown old.trees.items l.tree l.here.here (still_joined l.accepts.joins) tree j
        (ap (λ (ts : List Facts). slice_get ts tree) (sym (trees ∙ l.grows)) ∙ at))

    pub tied_learnt : IsShaped old.torrent (state_of old) → peers_of next.book ≡ peers_of old.book
        → ((s : EngineState) → s.torrent ≡ old.torrent → IsBehind old.book.wanted old.counts notes.items s → AreFollowed s next.book.wanted next.counts)
        → IsTied new_parts
    tied_learnt shaped joined followed =
        tied_followed old new_parts tied refl keys_kept tied.room joined
        (ap (λ (ss : List (Slot D H)). length ss) slots ∙ l.settles.size)
        (subst (λ (ts : List Facts). EachFits old.torrent.files ts next.slots.items) (sym trees)
        (subst (λ (ss : List (Slot D H)). EachFits old.torrent.files grown ss) (sym slots) fits_settled))
        (rw (trees ∙ l.grows) (rw (same_names old.trees.items l.tree l.new l.here.here (still_joined l.accepts.joins)) tied.roots))
        (followed_alike (state_of new_parts) (followed (state_of learnt_parts) refl (notes_behind shaped)) refl refl) refl leaves_learnt

    state_learnt : ((known : PeerKey) → asked_of next.book known ≡ asked_of old.book known)
        → state_of new_parts ≡ with_peer (record (state_of old) { trees = grown; files = map file_of settled }) i (peer_of old.book q)
    state_learnt asked =
        state_kept learnt_parts next.book next.counts (λ j x at. asked x.key)
        ∙ ap {A = EngineState} {B = EngineState} (λ s. record s { trees = next.trees.items; files = map file_of next.slots.items }) (state_set old i q tied here same)
        ∙ ap (λ (ts : List Facts). with_peer (record (state_of old) { trees = ts; files = map file_of next.slots.items }) i (peer_of old.book q)) trees
        ∙ ap (λ (ss : List (Slot D H)). with_peer (record (state_of old) { trees = grown; files = map file_of ss }) i (peer_of old.book q)) slots

    pub takes_learnt : (hash : HashState) → q ≡ record p { hash = hash } → Resolves key Idle p.hash hash
        → ((known : PeerKey) → asked_of next.book known ≡ asked_of old.book known)
        → (hint kept : Option Hint) → hint ≡ hint_of (is_some old.log) key digests → kept ≡ kept_hint l.old l.new hint
        → IsHandled conduct dig old i (Message (Hashes key digests)) (Stays (Settled notes) kept) new_parts
    takes_learnt hash is resolves asked hint kept made keeps =
        let calls = learning_calls dig key digests old.trees.items conduct old.slots.items grown settled l in
        let proofs = new_proofs key digests l.old l.new in
        record {
          calls = calls;
          proofs = proofs;
          made = subst (λ (ss : List (Slot D H)). HaveCalls conduct (disks_of old) calls (map disk_of ss)) (sym slots)
              (have_learning_calls dig key digests old.trees.items conduct old.slots.items grown settled l);
          handles = λ x at.
              let own : peer_of old.book p ≡ x = some_is (sym (get_mapped (peer_of old.book) old.peers.items i here) ∙ at) in
              let after : peer_of old.book q ≡ record x { hash = hash } =
              ap (peer_of old.book) is ∙ ap {A = PeerState} {B = PeerState} (λ y. record y { hash = hash }) own in
              let last = state_learnt asked
              ∙ ap (λ (y : PeerState). with_peer (record (state_of old) { trees = grown; files = map file_of settled }) i y) after in
              subst (λ (t : EngineState). HandlesHashes dig (state_of old) i x key digests calls (record no_effect { notes = notes.items; proofs = proofs }) t) (sym last)
              (learnt_so dig key digests old.trees.items conduct old.slots.items grown settled l (state_of old) i x hash refl refl
              (subst (λ (y : PeerState). Resolves key Idle y.hash hash) own resolves));
          keeps = keeps_proofs key digests old l.claims l.old l.new hint kept made keeps;
        }

-- room for the notes of the parts is room for those of their trees and slots
pub room_of : {D H : Type 0} (old : Parts D H) (trees : List Facts) (slots : List (Slot D H)) (key : HashKey) (room : ℕ)
    → trees ≡ old.trees.items → slots ≡ old.slots.items → IsNoteRoom old key room → IsRoomFor trees slots key room
room_of {D} {H} old trees slots key room same_trees same_slots enough =
    subst (λ (ts : List Facts). IsRoomFor ts slots key room) (sym same_trees)
    (subst (λ (ss : List (Slot D H)). IsRoomFor old.trees.items ss key room) (sym same_slots)
    (λ i k has. omega (arith, enough.known i k (record { here = has.here; same_root = has.same_root }))))

-- the slots and trees that were lent fit each other
pub fits_lent : {D H : Type 0} (old : Parts D H) (trees : List Facts) (slots : List (Slot D H)) → trees ≡ old.trees.items → slots ≡ old.slots.items
    → IsTied old → FitLengths trees slots
fits_lent {D} {H} old trees slots same_trees same_slots tied =
    subst (λ (ts : List Facts). FitLengths ts slots) (sym same_trees)
    (subst (λ (ss : List (Slot D H)). FitLengths old.trees.items ss) (sym same_slots) (fits_lengths old tied))

pub numbered_lent : {D H : Type 0} (old : Parts D H) (trees : List Facts) → trees ≡ old.trees.items → IsTied old → AreNumbered (map (λ k. k.root) trees) old.roots.trees
numbered_lent old trees same tied = subst (λ (ts : List Facts). AreNumbered (map (λ k. k.root) ts) old.roots.trees) (sym same) (roots_numbered tied)

pub leads_lent : {D H : Type 0} (old : Parts D H) (trees : List Facts) (slots : List (Slot D H)) → trees ≡ old.trees.items → slots ≡ old.slots.items
    → IsTied old → IsShaped old.torrent (state_of old) → (tree : ℕ) → tree < length trees → LeadThrough slots old.roots tree
leads_lent {D} {H} old trees slots same_trees same_slots tied shaped tree lt =
    let k = get_some old.trees.items tree (omega (arith, lt, ap (λ (ts : List Facts). length ts) same_trees)) in
    subst (λ (ss : List (Slot D H)). LeadThrough ss old.roots tree) (sym same_slots) (tree_leads tied shaped tree k.1)

-- nor does a block of the slots that were lent wait, where none is counted
pub idle_lent : {D H : Type 0} (old : Parts D H) (slots : List (Slot D H)) → slots ≡ old.slots.items → IsTied old → nat_lt 0 old.counts.waiting ≡ false
    → NoneWaits (map file_of slots)
idle_lent {D} {H} old slots same tied none =
    subst (λ (ss : List (Slot D H)). NoneWaits (map file_of ss)) (sym same) (none_waits tied.counted (elim (cases_lt 0 old.counts.waiting) [
      | inl some ↦ absurd (let yes = lt-ltb 0 old.counts.waiting some in cc)
      | inr zero ↦ omega (arith, zero)
    ]))

-- ---- the room for notes

one_tree : (trees : List Facts) (root : List ℕ) (i j : ℕ) {a b : Facts} → AllPairs (λ j k. j.root ≢ k.root) trees → HasRoot trees root i a → HasRoot trees root j b → i ≡ j
one_tree trees root i j {a} {b} apart first second = elim (cases_lt i j) [
  | inl lt ↦ absurd (distinct i j first second lt)
  | inr le ↦ elim (cases_lt j i) [ inl lt ↦ absurd (distinct j i second first lt) | inr more ↦ omega arith ]
]
  where
    distinct : (m n : ℕ) {c d : Facts} → HasRoot trees root m c → HasRoot trees root n d → m < n → ⊥
    distinct m n {c} {d} one other lt =
        apart m n c lt (some_below trees n other.here)
        (ap (λ (k : Facts). k.root) (get_or_from_slice_get trees m c c one.here) ∙ one.same_root
        ∙ sym (ap (λ (k : Facts). k.root) (get_or_from_slice_get trees n d c other.here) ∙ other.same_root))

-- the tree that was found is the only one of its root
pub room_found : {D H : Type 0} (parts : Parts D H) (key : HashKey) (i : ℕ) {k : Facts} (slots : List (Slot D H)) (count room : ℕ)
    → IsShaped parts.torrent (state_of parts) → slots ≡ parts.slots.items → HasRoot parts.trees.items key.root i k
    → count ≡ run_room key → room ≡ sum_by (slot_room i count) slots → IsNoteRoom parts key room
room_found {D} {H} parts key i {k} slots count room shaped same_slots found counted is =
    record {
      known = λ tree j of. (
          let same = one_tree parts.trees.items key.root i tree shaped.roots found (record { here = of.here; same_root = of.same_root }) in
          is ∙ ap (λ n. sum_by (slot_room i n) slots) counted ∙ ap (λ (ss : List (Slot D H)). sum_by (slot_room i (run_room key)) ss) same_slots
          ∙ ap (λ n. sum_by (slot_room n (run_room key)) parts.slots.items) same
          );
      unknown = λ none. absurd (none i k (record { here = found.here; same_root = found.same_root }));
    }
