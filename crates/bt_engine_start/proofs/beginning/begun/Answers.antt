use Rattle.std.proofs.Common.{◌≡◌, None, List, length, map, All, refl, sym, ap, ◌∙◌, subst}
use Rattle.std.specs.Vec.{with_items}
use Rattle.std.proofs.lemmas.List.{length-map, with_items_is}
use Rattle.bt_meta.specs.Files.{File, file_of}
use Rattle.bt_machine.specs.Start.{device_count}
use Rattle.bt_engine_state.specs.Parts.{hints_of}
use Rattle.bt_engine_state.specs.declared.parts.Parts.{Parts}
use Rattle.bt_engine_state.specs.declared.slot.Slot.{Slot}
use Rattle.bt_engine_start.specs.DeviceSteps.{devices_in, AreNewSlots}
use Rattle.bt_engine_start.proofs.Beginnings.{AreNewParts, first_begun, first_devices}
use Rattle.bt_engine_start.proofs.ProvenTrees.{same_by}
use Rattle.bt_engine_start.proofs.RootTrees.{all_short, names_of_trees, none_bare, numbered_names, roots_of_trees, trees_apart}
use Rattle.bt_engine_start.proofs.beginning.begun.Goals as goal

pub made_anew-requires-clause-firsts : goal.made_anew-requires-clause-firsts
made_anew-requires-clause-firsts g c = rw c.files.ensures.said at c.in_ok-roots.ensures.firsts

pub made_anew-requires-clause-numbered : goal.made_anew-requires-clause-numbered
made_anew-requires-clause-numbered g c = rw c.files.ensures.said at c.in_ok-roots.ensures.numbered

pub hand_out-requires-clause-count : goal.hand_out-requires-clause-count
hand_out-requires-clause-count g c =
    ap (λ xs. length xs) c.deref_mut.ensures.value ∙ c.in_ok-roots.ensures.slots.count ∙ ap (λ (files : List File). length files) c.files.ensures.said
    ∙ sym (ap (λ (files : List File). length files) c.files-2.ensures.said) ∙ length-map c.files-2.result.now file_of

pub hand_out-requires-clause-short : goal.hand_out-requires-clause-short
hand_out-requires-clause-short g c = all_short c.files-2.result.now c.files-2.ensures.lawful

pub hand_out-requires-clause-bare : goal.hand_out-requires-clause-bare
hand_out-requires-clause-bare g c =
    subst (λ (slots : List (Slot g.row.D.Denot g.row.H.Denot)). All (λ slot. slot.store ≡ None) slots) (sym c.deref_mut.ensures.value)
    (none_bare c.in_ok-roots.ensures.slots)

pub hand_out-requires-clause-enough : goal.hand_out-requires-clause-enough
hand_out-requires-clause-enough g c = c.requires.enough ∙ ap device_count (sym c.files-2.ensures.said)

pub returns : goal.returns
returns g c =
    let Slots : Type 0 = List (Slot g.row.D.Denot g.row.H.Denot) in
    let dig = g.H.NodeHash.digest in
    let files = c.args.torrent.files in
    let said = c.files.ensures.said in
    let roots = c.in_ok-roots.roots in
    let firsts = roots.first_files.items in
    let from = c.in_ok-trees.ensures.trees in
    let names = from.names ∙ names_of_trees from.made in
    let made = c.hand_out.new.slots in
    let are = with_items_is c.in_ok-roots.slots made (c.hand_out.auto.slots ∙ c.deref_mut.ensures.len) in
    let parts : Parts g.row.D.Denot g.row.H.Denot = record {
      torrent = c.args.torrent;
      trees = c.in_ok-trees.trees;
      roots = roots;
      slots = with_items c.in_ok-roots.slots made;
      counts = c.in_ok-trees.books.counts;
      known = c.in_ok-trees.books.known;
      peers = c.in_ok-trees.books.peers;
      book = c.in_ok-trees.books.book;
      last_key = 0;
      turn = 0;
      log = None;
    } in
    let is : AreNewParts dig (hints_of c.args.log.now) parts = record {
      lawful = c.keeps_laws.ensures.lawful;
      trees = from;
      apart = trees_apart parts.trees.items _ (same_by (λ p. p.0) parts.trees.items from.bases from.names ∙ roots_of_trees from.made) (rw said at c.in_ok-roots.ensures.apart);
      roots = record {
        firsts = record { each = rw said at c.in_ok-roots.ensures.firsts; same = names };
        nexts = rw said at c.in_ok-roots.ensures.nexts;
        numbered = numbered_names files firsts roots.trees names (rw said at c.in_ok-roots.ensures.numbered);
      };
      books = c.in_ok-trees.ensures.books;
    } in
    let were = rw said at c.in_ok-roots.ensures.slots in
    let new = subst (λ (slots : Slots). AreNewSlots files slots) (sym are)
    (subst (λ (files : List File). AreNewSlots files made) c.files-2.ensures.said c.in_ok-hand_out.ensures.slots) in
    let trees = ap (λ (slots : Slots). map (λ slot. slot.tree) slots) are ∙ c.in_ok-hand_out.ensures.trees
    ∙ ap (λ (slots : Slots). map (λ slot. slot.tree) slots) c.deref_mut.ensures.value in
    record {
      torrent = refl;
      first = record { lawful = c.keeps_laws.ensures.lawful; first_key = refl; first_turn = refl; no_log = refl };
      devices = first_devices parts is c.in_ok-roots.slots.items were new trees (ap (λ (slots : Slots). devices_in slots) are ∙ c.in_ok-hand_out.ensures.devices);
      begun = first_begun parts is c.in_ok-roots.slots.items were new trees c.blocks_and_ranges_agree.ensures.in_piece;
      runs = c.in_ok-trees.ensures.runs;
      refused = tt;
    }
