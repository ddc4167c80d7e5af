-- The files of an engine are restored in its parts.
use Rattle.bt_machine.proofs.Base.{[], ◌≡◌, ℕ, zero, suc, ◌+◌, ◌<◌, inl, inr, ◌&&◌, cond, is_some, Bool, false, List, ◌∷◌, length, map, filter, replicate, Option, Some, None, refl, sym, ap, ◌∙◌, subst, arith, slice_get, option_map, option_map_or, range_with_len, length-map, length-replicate, cases_lt, block_count, value_at, BlockId, BlockState, Missing, Facts}
use Rattle.std.specs.Global.{Vec}
use Rattle.std.specs.Vec.{with_items}
use Rattle.std.proofs.lemmas.Simd.{map-map}
use Rattle.std.proofs.lemmas.Option.{slice_get_past, slice_get-map}
use Rattle.bt_book.specs.Book.{BookState, peers_of}
use Rattle.bt_resume.specs.declared.hint.Hint.{Hint}
use Rattle.bt_store.specs.FileStore.{StoreView, new_states}
use Rattle.bt_machine.specs.Blocks.{block_id}
use Rattle.bt_machine.specs.Hints.{is_recorded}
use Rattle.bt_machine.specs.Recovery.{RestoresFile, empty as no_block, restored as all_read, RestoresFiles, Recovers}
use Rattle.bt_machine.specs.Restart.{KeepsPlaces}
use Rattle.bt_machine.specs.Shape.{IsShaped}
use Rattle.bt_machine.specs.Start.{IsNew}
use Rattle.bt_meta.specs.Torrent.{Metainfo}
use Rattle.bt_machine.specs.State.{EngineState, FileState, PeerState}
use Rattle.bt_machine.proofs.Lists.{some_is, some_below, get_some, get_map, map_some, set_id}
use Rattle.bt_engine_state.specs.BlockChange.{AreFollowed}
use Rattle.bt_engine_state.specs.Parts.{state_of, disks_of, file_of, peer_of, hints_of}
use Rattle.bt_engine_state.specs.Ties.{IsTied, LeavesStay}
use Rattle.bt_engine_state.specs.declared.counts.Counts.{Counts}
use Rattle.bt_engine_state.specs.declared.peer.Peer.{Peer}
use Rattle.bt_engine_state.specs.declared.slot.Slot.{Slot}
use Rattle.bt_engine_state.specs.declared.parts.Parts.{Parts}
use Rattle.bt_engine_state.proofs.BlockChanges.{EachFits, followed_alike, followed_tied, tied_followed}
use Rattle.bt_engine_state.proofs.DeviceCalls.{have_none}
use Rattle.bt_engine_state.proofs.Leaves.{leaves_by, still}
use Rattle.bt_engine_state.proofs.Lists.{get_mapped}
use Rattle.bt_engine_start.specs.declared.runs.MarkRun.{MarkRun}
use Rattle.bt_engine_start.specs.FollowingSteps.{missing_file, missing_from}
use Rattle.bt_engine_start.specs.RecoverySteps.{AreMissing, HaveBegun, RecoversFiles}
use Rattle.bt_engine_start.specs.RestoringSteps.{tree_and_length, block_total, HaveTrees, RestoresSlots}
use Rattle.bt_engine_start.specs.Runs.{AreRunsOf}
use Rattle.bt_engine_start.proofs.FileRecallings.{same_lists}
use Rattle.bt_disk.specs.Conduct.{Conduct}

-- ---- where no block is recorded, no file is read

none_filtered : (p q : ℕ → Bool) → ((i : ℕ) → p i ≡ false) → (xs : List ℕ) → filter (λ i. p i && q i) xs ≡ []
none_filtered p q none [] = refl
none_filtered p q none (x ∷ xs) =
    let rest = filter (λ i. p i && q i) xs in
    ap (λ (b : Bool). cond (b && q x) (x ∷ rest) rest) (none x) ∙ none_filtered p q none xs

module _ (dig : List ℕ → List ℕ) (hints : List Hint) (s : EngineState) (shaped : IsShaped s.torrent s) (none : (b : BlockId) → is_recorded hints b ≡ false) where
  file_unread : (i : ℕ) (f : FileState) → slice_get s.files i ≡ Some f → (states : List BlockState) → f.states ≡ states → RestoresFile dig hints i s [] s
  file_unread i f at [] is = no_block f at is refl refl
  file_unread i f at (x ∷ states) is =
      let file = get_some s.torrent.files i (omega (arith, some_below s.files i at, shaped.count)) in
      let shape = shaped.each i file.0 f file.1 at in
      elim (cases_lt 0 file.0.length) [
        | inl long ↦ (
            let k = shape.has_tree long in
            all_read f k.0 [] (record { here = at; has_tree = k.1 }) (λ blank. absurd (let clash = sym is ∙ blank in cc))
            (sym (none_filtered (λ j. is_recorded hints (block_id i j)) (λ j. is_some (value_at dig k.0 0 j)) (λ j. none (block_id i j))
            (range_with_len 0 (length f.states))))
            refl (ap (λ (fs : List FileState). record s { files = fs }) (sym (set_id s.files i at)))
            )
        | inr short ↦ absurd (
            let zero_long : file.0.length ≡ 0 = omega arith in
            let no_state : length f.states ≡ 0 = shape.blocks ∙ ap block_count zero_long in
            let one_state : length f.states ≡ length (x ∷ states) = ap (λ (xs : List BlockState). length xs) is in
            omega (arith, no_state, one_state)
            )
      ]

  one_unread : (i : ℕ) → i < length s.files → RestoresFile dig hints i s [] s
  one_unread i lt = let f = get_some s.files i lt in file_unread i f.0 f.1 f.0.states refl

  all_unread : (a n : ℕ) → ((i : ℕ) → i < a + n → RestoresFile dig hints i s [] s) → RestoresFiles dig hints (range_with_len a n) s [] s
  all_unread a zero each = (refl, refl)
  all_unread a (suc n) each = (s, [], [], each a (omega arith), all_unread (a + 1) n (λ i lt. each i (omega arith)), refl)

  none_restored : RestoresFiles dig hints (range_with_len 0 (length s.files)) s [] s
  none_restored = all_unread 0 (length s.files) (λ i lt. one_unread i (omega arith))

none_recorded : {hints : List Hint} (runs : List MarkRun) → length runs ≡ 0 → AreRunsOf hints runs → (b : BlockId) → is_recorded hints b ≡ false
none_recorded [] none are b = sym (are.recorded b)
none_recorded (run ∷ runs) none are b = absurd (omega (arith, none))

pub none_recovered : {D H : Type 0} {conduct : Conduct D} {dig : List ℕ → List ℕ} (parts : Parts D H) {runs : List MarkRun} → IsShaped parts.torrent (state_of parts)
    → length runs ≡ 0 → AreRunsOf (hints_of parts.log) runs → RecoversFiles conduct dig parts parts
none_recovered {conduct = conduct} {dig = dig} parts {runs} shaped none are = record {
  calls = [];
  made = have_none conduct (disks_of parts);
  restores = none_restored dig (hints_of parts.log) (state_of parts) shaped (none_recorded runs none are);
}

-- ---- restored files are what the machine recovers

pub recovers_from : {D H : Type 0} {conduct : Conduct D} {dig : List ℕ → List ℕ} {hints : List Hint} {begun new : Parts D H} (s : EngineState) → HaveBegun dig hints begun
    → state_of begun ≡ record s { trees = (state_of begun).trees; files = (state_of begun).files; peers = []; pending = []; hints = hints }
    → (recovers : RecoversFiles conduct dig begun new) → Recovers dig s hints recovers.calls (state_of new)
recovers_from {dig = dig} {begun = begun} {new = new} s b state recovers = record {
  bases = b.bases;
  trees = (state_of begun).trees;
  files = (state_of begun).files;
  is_new = subst (λ (t : Metainfo). IsNew dig t b.bases (state_of begun).files) (ap (λ (x : EngineState). x.torrent) state) b.is_new;
  count = b.takes.count;
  proves = b.takes.each;
  restores = subst (λ (x : EngineState). RestoresFiles dig x.hints (range_with_len 0 (length x.files)) x recovers.calls (state_of new)) state recovers.restores;
}

-- ---- a slot whose blocks are missing

missing_states : {D H : Type 0} (slot : Slot D H) → ((store : StoreView D) → slot.store ≡ Some store → store.states ≡ new_states store.file_length)
    → replicate (block_total slot) Missing ≡ (file_of slot).states
missing_states {D} slot missing = by slot.store refl
  where
    by : (o : Option (StoreView D)) → slot.store ≡ o
        → replicate (length (option_map_or (λ store. store.states) o [])) Missing ≡ option_map_or (λ store. store.states) o []
    by None has = refl
    by (Some store) has =
        let new = missing store has in
        ap (λ n. replicate n Missing) (ap (λ (xs : List BlockState). length xs) new ∙ length-replicate _ Missing) ∙ sym new

-- ---- slots that were lent and made

pub seen_alike : {D H X : Type 0} (f : Slot D H → X) (old : Vec (Slot D H)) {lent made : List (Slot D H)} → (with_items old made).items ≡ made
    → map f made ≡ map f lent → lent ≡ old.items → map f (with_items old made).items ≡ map f old.items
seen_alike f old are same lends = ap (map f) are ∙ same ∙ ap (map f) lends

pub restored_alike : {D H : Type 0} {conduct : Conduct D} {dig : List ℕ → List ℕ} {hints more : List Hint} {trees ks : List Facts}
    {lent made old new : List (Slot D H)} → hints ≡ more → trees ≡ ks → lent ≡ old → new ≡ made
    → RestoresSlots conduct dig hints trees lent made → RestoresSlots conduct dig more ks old new
restored_alike {D} {H} {conduct} {dig} {hints} {more} {trees} {ks} {lent} {made} {old} {new} a b c d restored =
    subst (λ hs. RestoresSlots conduct dig hs ks old new) a
    (subst (λ ts. RestoresSlots conduct dig hints ts old new) b
    (subst (λ xs. RestoresSlots conduct dig hints trees xs new) c
    (subst (λ xs. RestoresSlots conduct dig hints trees lent xs) (sym d) restored)))

-- the files of tied parts have their trees
pub trees_of_tied : {D H : Type 0} {parts : Parts D H} → IsTied parts → HaveTrees parts.trees.items parts.slots.items
trees_of_tied {D} {H} {parts} tied file slot at n long =
    let store = map_some (λ (s : StoreView D). s.file_length) slot.store long in
    let of = (tied.each file slot at).some store.0 store.1 in
    (of.facts, of.stands, of.same ∙ store.2)

module _ {D H : Type 0} (old : Parts D H) (slots : Vec (Slot D H)) (named : map tree_and_length slots.items ≡ map tree_and_length old.slots.items)
    (sized : map block_total slots.items ≡ map block_total old.slots.items) where
  abbrev pub mid : Parts D H
  mid = record old { slots = slots }

  pub as_many : length slots.items ≡ length old.slots.items
  as_many =
      sym (length-map slots.items (λ (s : Slot D H). tree_and_length s)) ∙ ap (λ (xs : List (ℕ × Option ℕ)). length xs) named
      ∙ length-map old.slots.items (λ (s : Slot D H). tree_and_length s)

  -- the slot that stood there
  slot_was : (i : ℕ) {slot : Slot D H} → slice_get slots.items i ≡ Some slot
      → (was : Slot D H) × (slice_get old.slots.items i ≡ Some was) × (tree_and_length was ≡ tree_and_length slot)
  slot_was i at = get_map tree_and_length old.slots.items i (ap (λ (xs : List (ℕ × Option ℕ)). slice_get xs i) (sym named) ∙ get_mapped tree_and_length slots.items i at)

  -- and the slot that stands there
  slot_is : (i : ℕ) {was : Slot D H} → slice_get old.slots.items i ≡ Some was
      → (slot : Slot D H) × (slice_get slots.items i ≡ Some slot) × (tree_and_length slot ≡ tree_and_length was)
  slot_is i at = get_map tree_and_length slots.items i (ap (λ (xs : List (ℕ × Option ℕ)). slice_get xs i) named ∙ get_mapped tree_and_length old.slots.items i at)

  same_total : (i : ℕ) {was slot : Slot D H} → slice_get old.slots.items i ≡ Some was → slice_get slots.items i ≡ Some slot → block_total slot ≡ block_total was
  same_total i at here =
      some_is (sym (get_mapped block_total slots.items i here) ∙ ap (λ (xs : List ℕ). slice_get xs i) sized ∙ get_mapped block_total old.slots.items i at)

  module _ (missing : AreMissing old.slots.items) where
    abbrev emptied : List FileState
    emptied = map missing_file (map file_of slots.items)

    emptied_at : (i : ℕ) (o : Option (Slot D H)) → slice_get old.slots.items i ≡ o → slice_get emptied i ≡ option_map file_of o
    emptied_at i None none = elim (cases_lt i (length old.slots.items)) [
      | inl lt ↦ absurd (let slot = get_some old.slots.items i lt in let clash = sym none ∙ slot.1 in cc)
      | inr past ↦ slice_get_past emptied i (omega (arith, past, as_many, length-map slots.items file_of, length-map (map file_of slots.items) missing_file))
    ]
    emptied_at i (Some was) at =
        let slot = slot_is i at in
        get_mapped missing_file (map file_of slots.items) i (get_mapped file_of slots.items i slot.1)
        ∙ ap (λ p. Some (record { tree = p.0; states = replicate (block_total slot.0) Missing })) slot.2
        ∙ ap (λ n. Some (record { tree = was.tree; states = replicate n Missing })) (same_total i at slot.1)
        ∙ ap (λ states. Some (record { tree = was.tree; states = states })) (missing_states was (λ store has. missing i was store at has))

    all_emptied : emptied ≡ map file_of old.slots.items
    all_emptied = same_lists emptied (map file_of old.slots.items)
        (λ i. emptied_at i (slice_get old.slots.items i) refl ∙ sym (slice_get-map file_of old.slots.items i))

    pub follows_first : IsTied old → IsShaped old.torrent (state_of old) → AreFollowed (missing_from 0 (state_of mid)) old.book.wanted old.counts
    follows_first tied shaped = followed_alike (missing_from 0 (state_of mid)) (followed_tied old tied shaped) refl all_emptied

  fits_then : IsTied old → EachFits old.torrent.files old.trees.items slots.items
  fits_then tied i slot at =
      let was = slot_was i at in
      let fit = tied.each i was.0 was.1 in
      let lengths : option_map (λ (s : StoreView D). s.file_length) was.0.store ≡ option_map (λ s. s.file_length) slot.store = ap (λ p. p.1) was.2 in
      record {
        file = fit.file;
        listed = fit.listed;
        empty = λ none. fit.empty (none_before was.0.store (lengths ∙ ap (option_map (λ (s : StoreView D). s.file_length)) none));
        some = λ store has. (
            let before = map_some (λ (s : StoreView D). s.file_length) was.0.store (lengths ∙ ap (option_map (λ (s : StoreView D). s.file_length)) has) in
            let of = fit.some before.0 before.1 in
            record {
              facts = of.facts;
              stands = ap (λ (p : ℕ × Option ℕ). slice_get old.trees.items p.0) (sym was.2) ∙ of.stands;
              same = of.same ∙ before.2;
              long = sym before.2 ∙ of.long;
            }
            );
      }
    where
      none_before : (o : Option (StoreView D)) → option_map (λ s. s.file_length) o ≡ None → o ≡ None
      none_before None e = refl
      none_before (Some store) e = absurd cc

  module _ (book : BookState) (counts : Counts) where
    abbrev new : Parts D H
    new = record mid { book = book; counts = counts }

    leaves_then : LeavesStay (state_of old) (state_of new)
    leaves_then = leaves_by (state_of old) (state_of new)
        (λ file g at. (
        let slot = get_map file_of slots.items file at in
        let was = slot_was file slot.1 in
        (file_of was.0, get_mapped file_of old.slots.items file was.1, sym (ap (λ (f : FileState). f.tree) slot.2) ∙ ap (λ (p : ℕ × Option ℕ). p.0) (sym was.2))
        ))
        (λ tree j at. (j, at, still j))

    pub tied_then : IsTied old → peers_of book ≡ peers_of old.book → AreFollowed (state_of mid) book.wanted counts → IsTied new
    tied_then tied peers follows =
        tied_followed old new tied refl refl tied.room peers as_many (fits_then tied) tied.roots (followed_alike (state_of new) follows refl refl) refl leaves_then

    no_peers : (peers : List Peer) → peers ≡ [] → map (peer_of book) peers ≡ map (peer_of old.book) peers
    no_peers peers none = ap (map (peer_of book)) none ∙ ap (map (peer_of old.book)) (sym none)

    state_then : old.peers.items ≡ [] → state_of new ≡ record (state_of old) { files = map file_of slots.items }
    state_then alone =
        ap (λ (ps : List PeerState). record (state_of old) { files = map file_of slots.items; peers = ps }) (no_peers old.peers.items alone)

    pub recovers : {conduct : Conduct D} {dig : List ℕ → List ℕ} → old.peers.items ≡ []
        → RestoresSlots conduct dig (state_of old).hints old.trees.items old.slots.items slots.items
        → RecoversFiles conduct dig old new
    recovers {conduct} {dig} alone restored = record {
      calls = restored.calls;
      made = restored.made;
      restores = subst (λ (s : EngineState). RestoresFiles dig (state_of old).hints (range_with_len 0 (length (state_of old).files)) (state_of old) restored.calls s)
          (sym (state_then alone))
          (subst (λ n. RestoresFiles dig (state_of old).hints (range_with_len 0 n) (state_of old) restored.calls (record (state_of old) { files = map file_of slots.items }))
          (sym (length-map old.slots.items file_of)) (restored.restores (state_of old) refl refl));
    }

    tree_numbers : map (λ f. f.tree) (map file_of slots.items) ≡ map (λ f. f.tree) (map file_of old.slots.items)
    tree_numbers =
        map-map (λ (f : FileState). f.tree) file_of slots.items ∙ sym (map-map (λ (p : ℕ × Option ℕ). p.0) tree_and_length slots.items)
        ∙ ap (map (λ (p : ℕ × Option ℕ). p.0)) named ∙ map-map (λ (p : ℕ × Option ℕ). p.0) tree_and_length old.slots.items
        ∙ sym (map-map (λ (f : FileState). f.tree) file_of old.slots.items)

    pub places : old.peers.items ≡ [] → KeepsPlaces (state_of old) (state_of new)
    places alone = subst (λ (s : EngineState). KeepsPlaces (state_of old) s) (sym (state_then alone)) (record { roots = refl; lengths = refl; trees = tree_numbers })
