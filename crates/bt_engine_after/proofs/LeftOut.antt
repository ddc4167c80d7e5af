-- A file is left out, changes, and is counted in again, while no peer is connected.
use Rattle.bt_machine.proofs.Base.{[], ◌≡◌, ℕ, Bool, List, map, refl, sym, ap, ◌∙◌, subst, Option, Adopted, Facts, Marked}
use Rattle.std.specs.Global.{Vec}
use Rattle.bt_book.specs.Blocks.{Blocks}
use Rattle.bt_book.specs.Book.{BookState, peers_of}
use Rattle.bt_machine.specs.State.{EngineState, PeerState}
use Rattle.bt_machine.specs.Settling.{SettlesIn}
use Rattle.bt_machine.specs.Adopting.{AdoptsGroups, StopsAdopting}
use Rattle.bt_engine_state.specs.BlockChange.{AreFollowed}
use Rattle.bt_engine_state.specs.Parts.{state_of, peer_of}
use Rattle.bt_engine_state.specs.Recount.{with_all}
use Rattle.bt_engine_state.specs.declared.counts.Counts.{Counts}
use Rattle.bt_engine_state.specs.declared.open_log.OpenLog.{OpenLog}
use Rattle.bt_engine_state.specs.declared.slot.Slot.{Slot}
use Rattle.bt_engine_state.specs.declared.parts.Parts.{Parts}
use Rattle.bt_engine_state.proofs.BlockChanges.{followed_alike}
use Rattle.bt_engine_after.specs.PartsSteps.{AreInLine, KeepsRest, block_count_of_tree}
use Rattle.bt_engine_after.specs.SettlingSteps.{SettlesFiles}
use Rattle.bt_engine_after.specs.AdoptionSteps.{AdoptsIn, StopsIn}
use Rattle.bt_engine_after.specs.Unknown.{HasUnknownLeaf}
use Rattle.bt_engine_after.proofs.Slots.{ChangesFile}
use Rattle.bt_disk.specs.Conduct.{Conduct}

-- ---- parts with another book and other counts, which no peer sees

module _ {D H : Type 0} (mid : Parts D H) (book : BookState) (counts : Counts) (alone : mid.peers.items ≡ []) where
  abbrev recounted : Parts D H
  recounted = record mid { book = book; counts = counts }

  same_state : state_of recounted ≡ state_of mid
  same_state = ap (λ (ps : List PeerState). record (state_of mid) { peers = ps }) (ap (map (peer_of book)) alone ∙ ap (map (peer_of mid.book)) (sym alone))

  module _ {conduct : Conduct D} {dig : List ℕ → List ℕ} (old : Parts D H) where
    pub adopts_again : {file : ℕ} {total : Adopted} → AdoptsIn conduct dig file old total mid → AdoptsIn conduct dig file old total recounted
    adopts_again {file} {total} a = record {
      groups = a.groups;
      calls = a.calls;
      adopts = subst (λ (s : EngineState). AdoptsGroups dig (state_of old) file 0 a.groups total s) (sym same_state) a.adopts;
      all = a.all;
    }

    pub stops_again : {file : ℕ} → StopsIn conduct dig file old mid → StopsIn conduct dig file old recounted
    stops_again {file} a = record {
      made = a.made;
      calls = a.calls;
      stops = subst (λ (s : EngineState). StopsAdopting dig (state_of old) file a.made s) (sym same_state) a.stops;
    }

    pub settles_again : {is_meant : ℕ → Bool} {tree : ℕ} → SettlesFiles conduct dig is_meant tree old mid → SettlesFiles conduct dig is_meant tree old recounted
    settles_again {is_meant} {tree} (calls, notes, have, settles) = (
      calls,
      notes,
      have,
      subst (λ (s : EngineState). SettlesIn dig is_meant tree 0 (block_count_of_tree (state_of old) tree) (state_of old) calls notes s) (sym same_state) settles,
    )

  pub unknown_again : {dig : List ℕ → List ℕ} {file : ℕ} → HasUnknownLeaf dig (state_of mid) file → HasUnknownLeaf dig (state_of recounted) file
  unknown_again {dig} {file} leaf = subst (λ (s : EngineState). HasUnknownLeaf dig s file) (sym same_state) leaf

-- ---- what is kept where a file has changed

module _ {D H : Type 0} {file : ℕ} (old : Parts D H) (slots : Vec (Slot D H)) (trees : Vec Facts) (log : Option (OpenLog D))
    (changes : ChangesFile file old (record old { slots = slots; trees = trees; log = log })) where
  abbrev mid : Parts D H
  mid = record old { slots = slots; trees = trees; log = log }

  -- the file's change leaves the book and the counts right for the engine without it
  pub follows_still : {blocks : Blocks} {counts : Counts} → AreFollowed (with_all Marked (state_of old) file) blocks counts
      → AreFollowed (with_all Marked (state_of mid) file) blocks counts
  follows_still followed = followed_alike (with_all Marked (state_of mid) file) followed refl changes.alike

  module _ (book : BookState) (counts : Counts) where
    pub in_line_again : AreFollowed (state_of mid) book.wanted counts → AreInLine (record mid { book = book; counts = counts })
    in_line_again followed = record {
      follows = followed_alike (state_of (record mid { book = book; counts = counts })) followed refl refl;
      fits = changes.fits;
    }

    pub rest_again : peers_of book ≡ peers_of old.book → KeepsRest old (record mid { book = book; counts = counts })
    rest_again peers = record {
      others = refl;
      log = changes.log;
      count = changes.count;
      trees = changes.trees;
      blocks = changes.blocks;
      leaves = changes.leaves;
      peers = peers;
    }
