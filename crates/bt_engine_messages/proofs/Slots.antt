-- A file's store that is read or written in its slot.
use Rattle.bt_machine.proofs.Base.{◌≡◌, ℕ, ◌<◌, List, length, Some, None, sym, ap, ◌∙◌, arith, subst, slice_get, slice_set, BlockId, Facts, Missing, BlockState, Result, Ok, Err, Put, StoreError, Already, Wrong, PutMarked, PutWaiting, Range, DeviceFault, PutIsDue, calls_of_put, states_after_put, Span, refl}
use Rattle.std.specs.Prelude.{slice_index_or}
use Rattle.std.proofs.lemmas.Option.{get_or_from_slice_get}
use Rattle.bt_machine.proofs.Lists.{some_below, some_is}
use Rattle.bt_disk.specs.Calls.{HasCalls}
use Rattle.bt_store.specs.FileStore.{StoreView}
use Rattle.bt_store.specs.Arrival.{IsBlock}
use Rattle.bt_engine_state.specs.declared.slot.Slot.{Slot}
use Rattle.bt_engine_messages.specs.SlotSteps.{HasStore, ChangesStore}
use Rattle.bt_engine_messages.specs.PieceSteps.{CanPut, PutsInSlot, IsOfMissing}
use Rattle.std.specs.Global.{Vec}
use Rattle.std.specs.Vec.{with_items}
use Rattle.std.proofs.lemmas.List.{with_items_is}
use Rattle.std.specs.Prelude.{IfOk, IfErr}
use Rattle.bt_engine_messages.specs.declared.serving.ReadFault.{ReadFault}
use Rattle.bt_machine.specs.Spans.{spanned_blocks}
use Rattle.bt_engine_messages.specs.RequestSteps.{CanRead, SendsFromSlot, StopsInSlot}
use Rattle.bt_engine_messages.specs.ServingSteps.{IsMarkedSpan, SendsSpan, StopAtFault}
use Rattle.bt_disk.specs.Conduct.{Conduct}

module _ {D H : Type 0} {slots : List (Slot D H)} {trees : List Facts} {file : ℕ} {slot : Slot D H} {store : StoreView D} {tree : Facts}
    (at : HasStore slots trees file slot store tree) where
  pub below_slots : file < length slots
  below_slots = some_below slots file at.here

  -- the slot, its store and its tree as they are read
  module _ (r : Slot D H) where
    slot_is : slice_index_or slots file r ≡ slot
    slot_is = get_or_from_slice_get slots file slot r at.here

    pub has_store : (slice_index_or slots file r).store ≡ None → ⊥
    has_store none = let has = sym none ∙ ap (λ (s : Slot D H). s.store) slot_is ∙ at.has in absurd cc

    pub below_trees : (slice_index_or slots file r).tree < length trees
    below_trees =
        let is = ap (λ (s : Slot D H). s.tree) slot_is in
        let lt = some_below trees slot.tree at.has_tree in
        omega arith

    module _ (s : StoreView D) (is : (slice_index_or slots file r).store ≡ Some s) where
      pub store_is : s ≡ store
      store_is = some_is (sym is ∙ ap (λ (s : Slot D H). s.store) slot_is ∙ at.has)

      module _ (k : Facts) (read : k ≡ slice_index_or trees (slice_index_or slots file r).tree k) where
        tree_is : k ≡ tree
        tree_is =
            read ∙ ap (λ (s : Slot D H). slice_index_or trees s.tree k) slot_is ∙ get_or_from_slice_get trees slot.tree tree k at.has_tree

        pub geometry : k.file_length ≡ s.file_length
        geometry =
            ap (λ (k : Facts). k.file_length) tree_is ∙ at.same_length ∙ ap (λ (s : StoreView D). s.file_length) (sym store_is)

        pub changes_store : (after : StoreView D) → after.file_length ≡ s.file_length
            → ChangesStore trees file slots s after k (slice_set slots file (record { tree = (slice_index_or slots file r).tree; store = Some after }))
        changes_store after same = record {
          slot = slice_index_or slots file r;
          has_store = record {
            here = at.here ∙ ap (λ (s : Slot D H). Some s) (sym slot_is);
            has = is;
            has_tree = ap (λ (s : Slot D H). slice_get trees s.tree) slot_is ∙ at.has_tree ∙ ap (λ (k : Facts). Some k) (sym tree_is);
            same_length = geometry;
          };
          same_file = same;
          is = refl;
        }

-- ---- a block that is put there

of_missing : (dig : List ℕ → List ℕ) (k : Facts) (i : ℕ) (bytes : List ℕ) (states : List BlockState) (answer : Result Put StoreError) → slice_get states i ≡ Some Missing → IsBlock k.file_length i bytes → PutIsDue dig k i bytes states answer → IsOfMissing answer
of_missing dig k i bytes states (Ok Already) missing whole due = due.1 missing
of_missing dig k i bytes states (Ok Wrong) missing whole due = tt
of_missing dig k i bytes states (Ok PutMarked) missing whole due = tt
of_missing dig k i bytes states (Ok PutWaiting) missing whole due = tt
of_missing dig k i bytes states (Err Range) missing whole due = due whole
of_missing dig k i bytes states (Err DeviceFault) missing whole due = tt

module _ {D H : Type 0} {slots : List (Slot D H)} {trees : List Facts} {b : BlockId} {bytes : List ℕ} (can : CanPut slots trees b bytes) (r : Slot D H)
    (s : StoreView D) (is : (slice_index_or slots b.file r).store ≡ Some s) (k : Facts) (read : k ≡ slice_index_or trees (slice_index_or slots b.file r).tree k) where
  pub puts_in_slot : (conduct : Conduct D) (dig : List ℕ → List ℕ) (after : StoreView D) (answer : Result Put StoreError)
      → PutIsDue dig k b.block bytes s.states answer → after.states ≡ states_after_put b.block answer s.states
      → HasCalls conduct s.disk (calls_of_put b.block bytes answer) after.disk → after.file_length ≡ s.file_length
      → PutsInSlot conduct dig slots trees b bytes answer
      (slice_set slots b.file (record { tree = (slice_index_or slots b.file r).tree; store = Some after }))
  puts_in_slot conduct dig after answer due states made same =
      let same_store = store_is can.has_store r s is in
      let missing = ap (λ (s : StoreView D). slice_get s.states b.block) same_store ∙ can.missing in
      let whole = subst (λ (s : StoreView D). IsBlock s.file_length b.block bytes) (sym same_store) can.whole in
      let length = geometry can.has_store r s is k read in
      record {
        before = s;
        after = after;
        tree = k;
        changes = changes_store can.has_store r s is k read after same;
        of_missing = of_missing dig k b.block bytes s.states answer missing (subst (λ n. IsBlock n b.block bytes) (sym length) whole) due;
        due = due;
        states = states;
        made = made;
      }

-- the same, of the slots and trees of parts that were lent
pub puts_of : {D H : Type 0} {conduct : Conduct D} {dig : List ℕ → List ℕ} {xs : List (Slot D H)} {ks : List Facts}
    {b : BlockId} {bytes : List ℕ} {answer : Result Put StoreError} {ys : List (Slot D H)} (old : Vec (Slot D H)) (trees : Vec Facts)
    → PutsInSlot conduct dig xs ks b bytes answer ys → xs ≡ old.items → ks ≡ trees.items → length ys ≡ old.len
    → PutsInSlot conduct dig old.items trees.items b bytes answer (with_items old ys).items
puts_of {ys = ys} old trees p e f size = rw (with_items_is old ys size, ← e, ← f) p

-- ---- a span that is read there

pub span_marked : {D H : Type 0} {slots : List (Slot D H)} {trees : List Facts} {span : Span} (can : CanRead slots trees span) (r : Slot D H) (s : StoreView D)
    → (slice_index_or slots span.file r).store ≡ Some s → IsMarkedSpan s.states span
span_marked {span = span} can r s is =
    subst (λ s. IsMarkedSpan s.states span) (sym (store_is can.has_store r s is)) can.marked

module _ {D H : Type 0} {slots : List (Slot D H)} {trees : List Facts} {span : Span} (can : CanRead slots trees span) (r : Slot D H) (s : StoreView D)
    (is : (slice_index_or slots span.file r).store ≡ Some s) (k : Facts) (read : k ≡ slice_index_or trees (slice_index_or slots span.file r).tree k)
    (conduct : Conduct D) (dig : List ℕ → List ℕ) (after : StoreView D) (same : after.file_length ≡ s.file_length) where
  abbrev then_slots : List (Slot D H)
  then_slots = slice_set slots span.file (record { tree = (slice_index_or slots span.file r).tree; store = Some after })

  pub sends_from_slot : (answer : Result (Vec ℕ) ReadFault) → IfOk answer (λ bytes. SendsSpan conduct dig k span bytes.items s after)
      → IfOk answer (λ bytes. SendsFromSlot conduct dig slots trees span bytes.items then_slots)
  sends_from_slot (Ok bytes) sends = record {
    before = s;
    after = after;
    tree = k;
    changes = changes_store can.has_store r s is k read after same;
    marked = span_marked can r s is;
    sends = sends;
  }
  sends_from_slot (Err found) sends = tt

  pub stops_in_slot : (answer : Result (Vec ℕ) ReadFault) → IfErr answer (λ found. StopAtFault conduct dig k (spanned_blocks span) found s after)
      → IfErr answer (λ found. StopsInSlot conduct dig slots trees span found then_slots)
  stops_in_slot (Ok bytes) stops = tt
  stops_in_slot (Err found) stops = record {
    before = s;
    after = after;
    tree = k;
    changes = changes_store can.has_store r s is k read after same;
    marked = span_marked can r s is;
    stops = stops;
  }

-- the same, of the slots and trees of parts that were lent
pub sends_of : {D H : Type 0} {conduct : Conduct D} {dig : List ℕ → List ℕ} {xs : List (Slot D H)} {ks : List Facts}
    {span : Span} {bytes : List ℕ} {ys : List (Slot D H)} (old : Vec (Slot D H)) (trees : Vec Facts)
    → SendsFromSlot conduct dig xs ks span bytes ys → xs ≡ old.items → ks ≡ trees.items → length ys ≡ old.len
    → SendsFromSlot conduct dig old.items trees.items span bytes (with_items old ys).items
sends_of {ys = ys} old trees p e f size = rw (with_items_is old ys size, ← e, ← f) p

pub stops_of : {D H : Type 0} {conduct : Conduct D} {dig : List ℕ → List ℕ} {xs : List (Slot D H)} {ks : List Facts}
    {span : Span} {found : ReadFault} {ys : List (Slot D H)} (old : Vec (Slot D H)) (trees : Vec Facts)
    → StopsInSlot conduct dig xs ks span found ys → xs ≡ old.items → ks ≡ trees.items → length ys ≡ old.len
    → StopsInSlot conduct dig old.items trees.items span found (with_items old ys).items
stops_of {ys = ys} old trees p e f size = rw (with_items_is old ys size, ← e, ← f) p
