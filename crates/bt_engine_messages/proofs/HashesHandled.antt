-- Hashes that change these trees and files are taken so by the machine.
use Rattle.bt_machine.proofs.Base.{◌≡◌, ◌≢◌, ℕ, zero, suc, ◌+◌, ◌<◌, ◌≤◌, inl, inr, Bool, true, false, List, [], ◌∷◌, ◌++◌, length, map, flat_map, filter, Option, Some, None, refl, sym, ap, ◌∙◌, subst, arith, ◌==◌, eq-eqb, eqb-true, slice_get, slice_set, option_map, Contains, filter-append, length-map, range_with_len, append-nil, Facts, Call, BlockRead, call_of, HashKey, cases_lt}
use Rattle.std.proofs.lemmas.List.{map-append}
use Rattle.bt_disk.specs.Calls.{HasCalls}
use Rattle.bt_machine.proofs.Lists.{some_is, some_below, set_same, get_map, get_some, contains_none, contains_map, map_contains, contains_flat_map, range_limits}
use Rattle.bt_machine.specs.State.{EngineState, PeerState, FileState}
use Rattle.bt_machine.specs.Devices.{DeviceCalls, HaveCalls, calls_of, reads_at}
use Rattle.bt_machine.specs.Blocks.{with_tree, with_peer}
use Rattle.bt_machine.specs.Output.{no_effect, closing}
use Rattle.bt_machine.specs.Settling.{judged_file, due_blocks, settling_notes, SettlesIn}
use Rattle.bt_machine.specs.declared.answer.Note.{Note}
use Rattle.bt_machine.specs.declared.answer.Why.{Why}
use Rattle.bt_machine.specs.declared.hash_state.HashState.{HashState}
use Rattle.bt_machine.specs.declared.hash_state.HashState.TheVariants.{Idle}
use Rattle.bt_machine.specs.HashMessages.{HandlesHashes, Resolves, settled_count, unknown_root as no_such_root, no_claim as makes_no_claim, refused as is_refused, accepts_hashes, new_proofs}
use Rattle.bt_engine_state.specs.Parts.{file_of, disk_of}
use Rattle.bt_engine_messages.specs.RunSteps.{HasCallsIfAny, SettlesSlot, SettlesSlots}
use Rattle.bt_engine_messages.specs.LearningSteps.{AreRefused, unknown_root, no_claim, refused, Learns}
use Rattle.bt_engine_state.specs.declared.slot.Slot.{Slot}
use Rattle.bt_disk.specs.Conduct.{Conduct}

-- ---- reads of one file among those of all

not_same : (i j : ℕ) → i ≢ j → (i == j) ≡ false
not_same i j apart = by (i == j) refl
  where
    by : (t : Bool) → (i == j) ≡ t → (i == j) ≡ false
    by true e = absurd (apart (eqb-true i j e))
    by false e = e

calls_append : (file : ℕ) (xs ys : DeviceCalls) → calls_of file (xs ++ ys) ≡ calls_of file xs ++ calls_of file ys
calls_append file xs ys =
    ap (λ (cs : DeviceCalls). map (λ c. c.1) cs) (filter-append (λ (c : ℕ × Call). c.0 == file) xs ys)
    ∙ map-append (λ (c : ℕ × Call). c.1) (filter (λ c. c.0 == file) xs) (filter (λ c. c.0 == file) ys)

module _ (n : ℕ) where
  own_reads : (i : ℕ) (reads : List BlockRead) → calls_of i (reads_at i n reads) ≡ map (call_of n) reads
  own_reads i [] = refl
  own_reads i (r ∷ reads) = rw (eq-eqb i i refl) (ap (λ cs. call_of n r ∷ cs) (own_reads i reads))

  other_reads : (file i : ℕ) (reads : List BlockRead) → file ≢ i → calls_of file (reads_at i n reads) ≡ []
  other_reads file i [] apart = refl
  other_reads file i (r ∷ reads) apart = rw (not_same i file (λ e. apart (sym e))) (other_reads file i reads apart)

  module _ (reads : ℕ → List BlockRead) where
    abbrev all_reads : ℕ → ℕ → DeviceCalls
    all_reads a count = flat_map (λ file. reads_at file n (reads file)) (range_with_len a count)

    none_before : (file a count : ℕ) → file < a → calls_of file (all_reads a count) ≡ []
    none_before file a zero lt = refl
    none_before file a (suc count) lt =
        calls_append file (reads_at a n (reads a)) (all_reads (a + 1) count)
        ∙ ap (λ cs. cs ++ calls_of file (all_reads (a + 1) count)) (other_reads file a (reads a) (λ e. absurd (omega arith)))
        ∙ none_before file (a + 1) count (omega arith)

    calls_of_file : (file a count : ℕ) → a ≤ file → file < a + count → calls_of file (all_reads a count) ≡ map (call_of n) (reads file)
    calls_of_file file a zero low lt = absurd (omega arith)
    calls_of_file file a (suc count) low lt =
        calls_append file (reads_at a n (reads a)) (all_reads (a + 1) count)
        ∙ by (file == a) refl (λ apart. calls_of_file file (a + 1) count (omega (arith, apart)) (omega arith))
      where
        by : (t : Bool) → (file == a) ≡ t → (file ≢ a → calls_of file (all_reads (a + 1) count) ≡ map (call_of n) (reads file)) → calls_of file (reads_at a n (reads a)) ++ calls_of file (all_reads (a + 1) count) ≡ map (call_of n) (reads file)
        by true e rest =
            let same : file ≡ a = eqb-true file a e in
            ap (λ cs. calls_of file (reads_at a n (reads a)) ++ cs) (none_before file (a + 1) count (omega arith))
            ∙ append-nil (calls_of file (reads_at a n (reads a)))
            ∙ ap (λ f. calls_of file (reads_at f n (reads f))) (sym same) ∙ own_reads file (reads file)
        by false e rest =
            let apart : file ≢ a = (λ same. absurd (let t = eq-eqb file a same in cc)) in
            ap (λ cs. cs ++ calls_of file (all_reads (a + 1) count)) (other_reads file a (reads a) apart) ∙ rest apart

-- ---- lists that are mapped

get_map_is : {X Y : Type 0} (f : X → Y) (xs : List X) (i : ℕ) → slice_get (map f xs) i ≡ option_map f (slice_get xs i)
get_map_is f [] zero = refl
get_map_is f [] (suc i) = refl
get_map_is f (x ∷ xs) zero = refl
get_map_is f (x ∷ xs) (suc i) = get_map_is f xs i

no_element : {X : Type 0} (xs : List X) (i : ℕ) (o : Option X) → slice_get xs i ≡ o → length xs ≤ i → o ≡ None
no_element xs i None at past = refl
no_element xs i (Some x) at past = absurd (let lt = some_below xs i at in omega arith)

module _ {D H : Type 0} (conduct : Conduct D) (dig : List ℕ → List ℕ) (k : Facts) (tree from count : ℕ)
    (old new : List (Slot D H)) {notes : List Note} (s : SettlesSlots conduct dig k tree from count old [] notes new) where
  abbrev pub the_calls : DeviceCalls
  the_calls = all_reads k.file_length s.reads 0 (length old)

  any_none : (calls : List Call) (o : Option D) (n : Option D) → HasCallsIfAny conduct o calls n → (o ≡ None → n ≡ None) × (n ≡ None → o ≡ None)
  any_none calls None n has = ((λ e. has.1), (λ e. refl))
  any_none calls (Some d) n has = ((λ e. absurd cc), (λ e. absurd (let is = has.1 in cc)))

  any_some : (calls : List Call) (o : Option D) (n : Option D) {after : D} → HasCallsIfAny conduct o calls n → n ≡ Some after
      → (before : D) × (o ≡ Some before) × HasCalls conduct before calls after
  any_some calls None n has e = absurd (let is = has.1 in cc)
  any_some calls (Some d) n has e = (d, refl, subst (λ x. HasCalls conduct d calls x) (some_is (sym has.1 ∙ e)) has.2)

  any_called : (calls : List Call) (call : Call) (o : Option D) (n : Option D) → HasCallsIfAny conduct o calls n → Contains calls call
      → (after : D) × (n ≡ Some after)
  any_called calls call None n has c = absurd (contains_none (subst (λ cs. Contains cs call) has.0 c))
  any_called calls call (Some d) n has c = (has.0, has.1)

  -- the old slot of a file, and what became of it
  pub at_file : (file : ℕ) {n : Slot D H} → slice_get new file ≡ Some n → (o : Slot D H) × (slice_get old file ≡ Some o)
      × SettlesSlot conduct dig k tree from count o (s.reads file) n
  at_file file {n} there =
      let lt = some_below new file there in
      let o = get_some old file (let size = s.size in omega arith) in
      let e = s.each file o.0 o.1 in
      (o.0, o.1, subst (λ (x : Slot D H). SettlesSlot conduct dig k tree from count o.0 (s.reads file) x) (some_is (sym e.1 ∙ there)) e.2)

  own : (file : ℕ) {o : Slot D H} → slice_get old file ≡ Some o → calls_of file the_calls ≡ map (call_of k.file_length) (s.reads file)
  own file here = calls_of_file k.file_length s.reads file 0 (length old) (omega arith) (let lt = some_below old file here in omega arith)

  pub have_calls : HaveCalls conduct (map disk_of old) the_calls (map disk_of new)
  have_calls = record {
    count = length-map new disk_of ∙ s.size ∙ sym (length-map old disk_of);
    none = λ file. (
      (λ e. let o = get_map disk_of old file e in let n = s.each file o.0 o.1 in
          get_map_is disk_of new file ∙ ap (option_map disk_of) n.1 ∙ ap (λ x. Some x) ((any_none _ (disk_of o.0) (disk_of n.0) n.2.made).0 o.2)),
      (λ e. let n = get_map disk_of new file e in let o = at_file file n.1 in
          get_map_is disk_of old file ∙ ap (option_map disk_of) o.1 ∙ ap (λ x. Some x) ((any_none _ (disk_of o.0) (disk_of n.0) o.2.made).1 n.2)),
    );
    of_devices = λ file call c. (
        let m = contains_flat_map (λ f. reads_at f k.file_length (s.reads f)) (range_with_len 0 (length old)) c in
        let r = contains_map (λ read. (m.0, call_of k.file_length read)) (s.reads m.0) m.2 in
        let same : m.0 ≡ file = ap (λ x. x.0) r.2 in
        let is : call_of k.file_length r.0 ≡ call = ap (λ x. x.1) r.2 in
        let o = get_some old m.0 (let lim = range_limits 0 (length old) m.1 in omega arith) in
        let n = s.each m.0 o.0 o.1 in
        let d = any_called _ (call_of k.file_length r.0) (disk_of o.0) (disk_of n.0) n.2.made (map_contains (call_of k.file_length) (s.reads m.0) r.1) in
        (d.0, ap (slice_get (map disk_of new)) (sym same) ∙ get_map_is disk_of new m.0 ∙ ap (option_map disk_of) n.1 ∙ ap (λ x. Some x) d.1)
        );
    each = λ file after there. (
        let n = get_map disk_of new file there in
        let o = at_file file n.1 in
        let b = any_some _ (disk_of o.0) (disk_of n.0) o.2.made n.2 in (
          b.0,
          get_map_is disk_of old file ∙ ap (option_map disk_of) o.1 ∙ ap (λ x. Some x) b.1,
          subst (λ cs. HasCalls conduct b.0 cs after) (sym (own file o.1)) b.2,
        )
        );
  }

  module _ (e : EngineState) (files : e.files ≡ map file_of old) (here : slice_get e.trees tree ≡ Some k) where
    size_is : length e.files ≡ length old
    size_is = ap (λ (fs : List FileState). length fs) files ∙ length-map old file_of

    files_then : (file : ℕ) (o : Option (Slot D H)) → slice_get old file ≡ o
        → slice_get (map file_of new) file ≡ option_map (judged_file dig k (s.reads file)) (option_map file_of o)
    files_then file None at =
        get_map_is file_of new file
        ∙ ap (option_map file_of) (no_element new file (slice_get new file) refl (let size = s.size in past file at))
      where
        past : (file : ℕ) → slice_get old file ≡ None → length new ≤ file
        past file at = elim (cases_lt file (length old)) [
          | inl lt ↦ absurd (let x = get_some old file lt in let y = x.1 in cc)
          | inr le ↦ (let size = s.size in omega arith)
        ]
    files_then file (Some slot) at =
        let n = s.each file slot at in
        get_map_is file_of new file ∙ ap (option_map file_of) n.1 ∙ ap (λ (f : FileState). Some f) n.2.judged

    pub settles_in : SettlesIn dig (λ file. true) tree from count e the_calls notes (record e { files = map file_of new })
    settles_in = record {
      facts = k;
      reads = s.reads;
      here = here;
      due = λ file f at. (
          let o = get_map file_of old file (ap (λ (fs : List FileState). slice_get fs file) (sym files) ∙ at) in
          (s.each file o.0 o.1).2.due ∙ ap (λ (x : FileState). due_blocks dig k tree from count x) o.2
          );
      made = ap (λ n. all_reads k.file_length s.reads 0 n) (sym size_is);
      noted = s.noted ∙ ap (λ n. flat_map (λ file. settling_notes dig k file (s.reads file)) (range_with_len 0 n)) (sym size_is);
      files = λ file. files_then file (slice_get old file) refl
          ∙ ap (option_map (judged_file dig k (s.reads file))) (sym (get_map_is file_of old file) ∙ ap (λ (fs : List FileState). slice_get fs file) (sym files));
      others = refl;
    }

-- ---- the event

module _ (dig : List ℕ → List ℕ) (key : HashKey) (digests : List ℕ) (trees : List Facts) where
  pub refused_so : (why : Why) → AreRefused dig trees key digests why → (s : EngineState) (i : ℕ) (p : PeerState) (handled : EngineState)
      → s.trees ≡ trees → handled ≡ s → HandlesHashes dig s i p key digests [] (closing why) handled
  refused_so why (unknown_root none) s i p handled same is =
      no_such_root (λ tree k of. none tree k (record { here = ap (λ ts. slice_get ts tree) (sym same) ∙ of.here; same_root = of.same_root })) refl refl is
  refused_so why (no_claim fault tree k has memory unmade) s i p handled same is =
      makes_no_claim fault (λ unknown. unknown tree k (record { here = ap (λ ts. slice_get ts tree) same ∙ has.here; same_root = has.same_root })) unmade
      (record { not_memory = memory; made = refl; has_effect = refl; after = is })
  refused_so why (refused fault tree k claim has memory claims bad) s i p handled same is =
      is_refused fault tree k claim (record { here = ap (λ ts. slice_get ts tree) same ∙ has.here; same_root = has.same_root }) claims bad
      (record { not_memory = memory; made = refl; has_effect = refl; after = is })

  module _ {D H : Type 0} (conduct : Conduct D) (slots : List (Slot D H)) {notes : List Note}
      (grown : List Facts) (settled : List (Slot D H)) (l : Learns conduct dig key digests trees slots notes grown settled) where
    -- the calls of the devices
    abbrev pub learning_calls : DeviceCalls
    learning_calls = the_calls conduct dig l.new l.tree key.index (settled_count key) slots settled l.settles

    pub have_learning_calls : HaveCalls conduct (map disk_of slots) learning_calls (map disk_of settled)
    have_learning_calls = have_calls conduct dig l.new l.tree key.index (settled_count key) slots settled l.settles

    pub learnt_so : (s : EngineState) (i : ℕ) (p : PeerState) (hash : HashState) → s.trees ≡ trees → s.files ≡ map file_of slots → Resolves key Idle p.hash hash
        → HandlesHashes dig s i p key digests learning_calls (record no_effect { notes = notes; proofs = new_proofs key digests l.old l.new })
        (with_peer (record s { trees = grown; files = map file_of settled }) i (record p { hash = hash }))
    learnt_so s i p hash same files resolves =
        let was : slice_get s.trees l.tree ≡ Some l.old = ap (λ ts. slice_get ts l.tree) same ∙ l.here.here in
        accepts_hashes (record {
          tree = l.tree;
          old = l.old;
          new = l.new;
          claim = l.claim;
          notes = notes;
          settled = record (with_tree s l.tree l.new) { files = map file_of settled };
          hash = hash;
          here = record { here = was; same_root = l.here.same_root };
          claims = l.claims;
          accepts = l.accepts;
          settles = settles_in conduct dig l.new l.tree key.index (settled_count key) slots settled l.settles (with_tree s l.tree l.new) files
              (set_same s.trees l.tree was);
          resolves = resolves;
          has_effect = refl;
          after = ap (λ (ts : List Facts). with_peer (record s { trees = ts; files = map file_of settled }) i (record p { hash = hash }))
              (l.grows ∙ ap (λ ts. slice_set ts l.tree l.new) (sym same));
        })
