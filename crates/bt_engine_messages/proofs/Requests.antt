-- A request for a range of a piece, in the parts of an engine.
use Rattle.bt_machine.proofs.Base.{[], ◌≡◌, ◌≢◌, ℕ, ◌+◌, ◌-◌, ◌^◌, min, Bool, true, false, List, ◌∷◌, ◌++◌, map, Some, None, refl, sym, ap, ◌∙◌, subst, slice_get, slice_set, option_and_then, Contains, Contains-append_right, Span, Facts, BlockRead, given, failed, call_of, IsRight, BlockState, Missing, Marked, Ask, Message, Request, Piece, PeerKey}
use Rattle.std.specs.Global.{Vec}
use Rattle.std.specs.Vec.{with_item}
use Rattle.std.specs.Bool.{OnFalse}
use Rattle.bt_store.specs.FileStore.{StoreView}
use Rattle.bt_book.specs.Book.{BookState, asked_of}
use Rattle.bt_machine.proofs.Lists.{some_is, here as first_of}
use Rattle.bt_machine.specs.declared.answer.Note.{Note}
use Rattle.bt_machine.specs.declared.answer.Note.TheVariants.{Damaged as DamagedNote, Device as DeviceNote}
use Rattle.bt_machine.specs.State.{EngineState, PeerState, FileState}
use Rattle.bt_machine.specs.Blocks.{block_id, state_at, with_file, with_peer, IsAsked}
use Rattle.bt_machine.specs.Devices.{DeviceCalls, calls_at, reads_at}
use Rattle.bt_machine.specs.Output.{noting, sending}
use Rattle.bt_machine.specs.Request.{AreMarked, HandlesRequest, FindsFault, served, stopped, damaged as machine_damaged, fault as machine_fault}
use Rattle.bt_machine.specs.Spans.{first_block, last_block, spanned_blocks}
use Rattle.bt_engine_state.specs.Parts.{state_of, peer_of, file_of}
use Rattle.bt_engine_state.specs.Ties.{IsTied}
use Rattle.bt_engine_state.specs.declared.counts.Counts.{Counts}
use Rattle.bt_engine_state.specs.declared.peer.Peer.{Peer}
use Rattle.bt_engine_state.specs.declared.slot.Slot.{Slot}
use Rattle.bt_engine_state.specs.declared.parts.Parts.{Parts}
use Rattle.bt_engine_state.proofs.Lists.{get_mapped}
use Rattle.bt_engine_state.proofs.SlotChanges.{file_here}
use Rattle.bt_engine_state.proofs.Ties.{tied_set, state_set}
use Rattle.bt_engine_messages.specs.Outcome.{IsHandled, effect_of}
use Rattle.bt_engine_messages.specs.RequestSteps.{CanRead, IsLookedAt, SendsFromSlot, StopsInSlot}
use Rattle.bt_engine_messages.specs.ServingSteps.{Finds, damaged, fault}
use Rattle.bt_engine_messages.specs.SpansSteps.{IsShortSpan}
use Rattle.bt_engine_messages.specs.declared.outcome.Outcome.{Outcome}
use Rattle.bt_engine_messages.specs.declared.outcome.Outcome.TheVariants.{Stays}
use Rattle.bt_engine_messages.specs.declared.outcome.Reply.TheVariants.{Sends, Noted}
use Rattle.bt_engine_messages.specs.declared.serving.ReadFault.{ReadFault}
use Rattle.bt_engine_messages.specs.declared.serving.ReadFault.TheVariants.{Damaged, Device}
use Rattle.bt_engine_messages.proofs.KeptHints.{keeps_none}
use Rattle.bt_engine_messages.proofs.SpanReads.{spans_first, spans_last}
use Rattle.bt_engine_messages.proofs.Stores.{has_state}
use Rattle.bt_engine_messages.proofs.StoreChanges.{ChangesParts, ChangesBlock, is_file, file_before, have_calls, state_same, tied_same, state_new}
use Rattle.bt_disk.specs.Conduct.{Conduct}

-- ---- which blocks are marked

unmarked_by : (s : EngineState) (span : Span) (i : ℕ) → Contains (spanned_blocks span) i → (b : Bool)
    → OnFalse b (state_at s (block_id span.file i) ≢ Some Marked) → OnFalse b (¬ AreMarked s span)
unmarked_by s span i among true not_it = tt
unmarked_by s span i among false not_it = λ are. not_it (are i among)

module _ {D H : Type 0} (parts : Parts D H) (span : Span) (short : IsShortSpan span) (yes : Bool) (i : ℕ) where
  pub unmarked_first : i ≡ first_block span → OnFalse yes (state_at (state_of parts) (block_id span.file i) ≢ Some Marked)
      → OnFalse yes (¬ AreMarked (state_of parts) span)
  unmarked_first is not_it =
      unmarked_by (state_of parts) span i (subst (λ i. Contains (spanned_blocks span) i) (sym is) (spans_first short)) yes not_it

  pub unmarked_last : i ≡ last_block span → OnFalse yes (state_at (state_of parts) (block_id span.file i) ≢ Some Marked)
      → OnFalse yes (¬ AreMarked (state_of parts) span)
  unmarked_last is not_it =
      unmarked_by (state_of parts) span i (subst (λ i. Contains (spanned_blocks span) i) (sym is) (spans_last short)) yes not_it

-- the state of a block is that in the store of its slot, if there is one
module _ {D H : Type 0} (parts : Parts D H) (file block : ℕ) {slot : Slot D H} (here : slice_get parts.slots.items file ≡ Some slot) where
  pub in_slot : state_at (state_of parts) (block_id file block) ≡ slice_get (file_of slot).states block
  in_slot = ap (option_and_then (λ (f : FileState). slice_get f.states block)) (get_mapped file_of parts.slots.items file here)

-- the blocks can be read
pub can_read : {D H : Type 0} (parts : Parts D H) (span : Span) → IsTied parts → IsShortSpan span → AreMarked (state_of parts) span
    → CanRead parts.slots.items parts.trees.items span
can_read parts span tied short are =
    let first = block_id span.file (first_block span) in
    let s = has_state parts first Marked tied (are (first_block span) (spans_first short)) in
    record {
      slot = s.slot;
      store = s.store;
      tree = s.tree;
      has_store = s.has_store;
      marked = record {
        marked = λ i among.
            ap (λ o. option_and_then (λ (f : FileState). slice_get f.states i) o) (sym (file_here parts.slots.items span.file s.has_store.here s.has_store.has s.store))
            ∙ are i among;
      };
    }

-- the calls of reads of a file are its reads
calls_are : (file n : ℕ) (reads : List BlockRead) → calls_at file (map (call_of n) reads) ≡ reads_at file n reads
calls_are file n [] = refl
calls_are file n (read ∷ reads) = ap (λ cs. (file, call_of n read) ∷ cs) (calls_are file n reads)

-- ---- what a read found

finds_damaged : (dig : List ℕ → List ℕ) (k : Facts) (i : ℕ) (read : BlockRead) (block : ℕ) (old new : List BlockState) → Finds dig k i read (Damaged block) old new
    → (bytes : List ℕ) × (read ≡ given i bytes) × (¬ IsRight dig k i bytes) × (block ≡ i) × (new ≡ slice_set old i Missing)
finds_damaged dig k i read block old new (damaged bytes e wrong is after) = (bytes, e, wrong, cc, after)
finds_damaged dig k i read block old new (fault e is after) = absurd cc

finds_device : (dig : List ℕ → List ℕ) (k : Facts) (i : ℕ) (read : BlockRead) (old new : List BlockState) → Finds dig k i read Device old new
    → (read ≡ failed i) × (new ≡ old)
finds_device dig k i read old new (damaged bytes e wrong is after) = absurd cc
finds_device dig k i read old new (fault e is after) = (e, after)

-- ---- what a request comes to

abbrev pub sent_whole : Ask → Vec ℕ → Outcome
sent_whole ask bytes = Stays (Sends (Piece ask.piece ask.begin bytes.items)) None

abbrev pub just_noted : Note → Outcome
just_noted note = Stays (Noted note) None

-- the flag of the peer that stands there
pub choking_is : {D H : Type 0} (parts : Parts D H) (i : ℕ) {p : Peer} → slice_get parts.peers.items i ≡ Some p → (x : PeerState)
    → slice_get (state_of parts).peers i ≡ Some x → x.am_choking ≡ p.am_choking
choking_is parts i here x at =
    ap (λ (x : PeerState). x.am_choking) (some_is (sym at ∙ get_mapped (peer_of parts.book) parts.peers.items i here))

-- what the machine makes of the peer it makes of whatever stands there
takes_by : {D H : Type 0} {dig : List ℕ → List ℕ} {old : Parts D H} {i : ℕ} {ask : Ask} {span : Span} (look : IsLookedAt old i ask span) (outcome : Outcome)
    (calls : DeviceCalls) (new : EngineState)
    → HandlesRequest dig (state_of old) i (peer_of old.book look.peer) ask calls (effect_of (peer_of old.book look.peer) outcome []) new
    → (x : PeerState) → slice_get (state_of old).peers i ≡ Some x → HandlesRequest dig (state_of old) i x ask calls (effect_of x outcome []) new
takes_by {dig = dig} {old = old} {i = i} {ask = ask} look outcome calls new handles x at =
    subst (λ (x : PeerState). HandlesRequest dig (state_of old) i x ask calls (effect_of x outcome []) new)
    (some_is (sym (get_mapped (peer_of old.book) old.peers.items i look.here) ∙ at)) handles

module _ {D H : Type 0} {conduct : Conduct D} {dig : List ℕ → List ℕ} {old : Parts D H} {i : ℕ} {ask : Ask} {span : Span}
    (look : IsLookedAt old i ask span) (next : Parts D H) where
  -- the range is sent
  module _ (bytes : Vec ℕ) (payload : ℕ) (r : SendsFromSlot conduct dig old.slots.items old.trees.items span bytes.items next.slots.items) where
    parts : ChangesParts old next span.file r.before r.after r.tree
    parts = record { tied = look.tied; shaped = look.shaped; store = r.changes }

    same : r.after.states ≡ r.before.states
    same = ap (λ (v : StoreView D). v.states) r.sends.others

    pub tied_sent : IsTied (record old { slots = next.slots; peers = with_item old.peers i (record look.peer { payload = payload }) })
    tied_sent = tied_set (record old { slots = next.slots }) i (record look.peer { payload = payload }) (tied_same parts same) look.here refl

    pub takes_sent : payload ≡ min (2 ^ 64 - 1) (look.peer.payload + span.length) → IsHandled conduct dig old i (Message (Request ask)) (sent_whole ask bytes)
        (record old { slots = next.slots; peers = with_item old.peers i (record look.peer { payload = payload }) })
    takes_sent paid =
        let calls = map (call_of r.tree.file_length) r.sends.reads in
        record {
          calls = calls_at span.file calls;
          proofs = [];
          made = have_calls parts calls r.sends.calls;
          handles = takes_by look (sent_whole ask bytes) (calls_at span.file calls) (state_of (record old { slots = next.slots; peers = with_item old.peers i (record look.peer { payload = payload }) }))
              (served span look.open_to look.place look.are (record {
                file = file_before parts;
                tree = r.tree;
                bytes = r.sends.bytes;
                reads = r.sends.reads;
                is_file = is_file parts;
                right = r.sends.right;
                made = calls_are span.file r.tree.file_length r.sends.reads;
                sent = ap (λ l. sending (peer_of old.book look.peer) (Piece ask.piece ask.begin l)) r.sends.cut;
                after = state_set (record old { slots = next.slots }) i (record look.peer { payload = payload }) (tied_same parts same) look.here refl
                    ∙ ap (λ (s : EngineState). with_peer s i (peer_of old.book (record look.peer { payload = payload }))) (state_same parts same)
                    ∙ ap (λ n. with_peer (state_of old) i (peer_of old.book (record look.peer { payload = n }))) paid;
              }));
          keeps = keeps_none old refl;
        }

  -- it stops at a fault
  stops_so : {found : ReadFault} (r : StopsInSlot conduct dig old.slots.items old.trees.items span found next.slots.items) (note : Note) (new : EngineState)
      → FindsFault dig r.tree (state_of old) span.file r.stops.block (record { tree = r.changes.slot.tree; states = r.before.states }) r.stops.read (noting note) new
      → (x : PeerState) → slice_get (state_of old).peers i ≡ Some x
      → HandlesRequest dig (state_of old) i x ask (calls_at span.file (map (call_of r.tree.file_length) (r.stops.reads ++ r.stops.read ∷ []))) (noting note) new
  stops_so r note new finds =
      let parts : ChangesParts old next span.file r.before r.after r.tree = record { tied = look.tied; shaped = look.shaped; store = r.changes } in
      takes_by look (just_noted note) (calls_at span.file (map (call_of r.tree.file_length) (r.stops.reads ++ r.stops.read ∷ []))) new (stopped span look.open_to look.place look.are (record {
        file = file_before parts;
        tree = r.tree;
        before = r.stops.before;
        block = r.stops.block;
        after = r.stops.after;
        bytes = r.stops.bytes;
        reads = r.stops.reads;
        read = r.stops.read;
        is_file = is_file parts;
        blocks = r.stops.parts;
        right = r.stops.right;
        finds = finds;
        made = calls_are span.file r.tree.file_length (r.stops.reads ++ r.stops.read ∷ []);
      }))

  -- at a damaged block
  module _ {block : ℕ} (r : StopsInSlot conduct dig old.slots.items old.trees.items span (Damaged block) next.slots.items) where
    found : (bytes : List ℕ) × (r.stops.read ≡ given r.stops.block bytes) × (¬ IsRight dig r.tree r.stops.block bytes) × (block ≡ r.stops.block)
        × (r.after.states ≡ slice_set r.before.states r.stops.block Missing)
    found = finds_damaged dig r.tree r.stops.block r.stops.read block r.before.states r.after.states r.stops.finds

    pub damage_changes : ChangesBlock old next (block_id span.file block) Marked Missing
    damage_changes = record {
      before = r.before;
      after = r.after;
      tree = r.tree;
      parts = record { tied = look.tied; shaped = look.shaped; store = r.changes };
      had = ap (λ i. slice_get r.before.states i) found.3
          ∙ r.marked.marked r.stops.block (subst (λ (blocks : List ℕ). Contains blocks r.stops.block) (sym r.stops.parts)
          (Contains-append_right r.stops.before (r.stops.block ∷ r.stops.after) r.stops.block (first_of r.stops.after refl)));
      states = found.4 ∙ ap (λ i. slice_set r.before.states i Missing) (sym found.3);
    }

    pub takes_damaged : (book : BookState) (counts : Counts) → ((key : PeerKey) → asked_of book key ≡ asked_of old.book key)
        → IsHandled conduct dig old i (Message (Request ask)) (just_noted (DamagedNote (block_id span.file block))) (record old { slots = next.slots; book = book; counts = counts })
    unfolding damage_changes
    takes_damaged book counts asked =
        let kept : Marked ≡ Missing → Missing ≢ Missing → ¬ IsAsked (state_of old) (block_id span.file block) = λ e. absurd cc in
        let calls = map (call_of r.tree.file_length) (r.stops.reads ++ r.stops.read ∷ []) in
        let finds = machine_damaged found.0 found.1 found.2 (ap (λ n. noting (DamagedNote (block_id span.file n))) found.3) (
        state_new damage_changes book counts asked kept
        ∙ ap (λ (states : List BlockState). with_file (state_of old) span.file (record { tree = r.changes.slot.tree; states = states })) found.4
        ) in
        record {
          calls = calls_at span.file calls;
          proofs = [];
          made = have_calls damage_changes.parts calls r.stops.calls;
          handles = stops_so r (DamagedNote (block_id span.file block)) (state_of (record old { slots = next.slots; book = book; counts = counts })) finds;
          keeps = keeps_none old refl;
        }

  -- at a fault of the device
  module _ (r : StopsInSlot conduct dig old.slots.items old.trees.items span Device next.slots.items) where
    device_parts : ChangesParts old next span.file r.before r.after r.tree
    device_parts = record { tied = look.tied; shaped = look.shaped; store = r.changes }

    failed_read : (r.stops.read ≡ failed r.stops.block) × (r.after.states ≡ r.before.states)
    failed_read = finds_device dig r.tree r.stops.block r.stops.read r.before.states r.after.states r.stops.finds

    pub tied_device : IsTied (record old { slots = next.slots })
    tied_device = tied_same device_parts failed_read.1

    pub takes_device : IsHandled conduct dig old i (Message (Request ask)) (just_noted (DeviceNote span.file)) (record old { slots = next.slots })
    takes_device =
        let calls = map (call_of r.tree.file_length) (r.stops.reads ++ r.stops.read ∷ []) in
        record {
          calls = calls_at span.file calls;
          proofs = [];
          made = have_calls device_parts calls r.stops.calls;
          handles = stops_so r (DeviceNote span.file) (state_of (record old { slots = next.slots })) (machine_fault failed_read.0 refl (state_same device_parts failed_read.1));
          keeps = keeps_none old refl;
        }
