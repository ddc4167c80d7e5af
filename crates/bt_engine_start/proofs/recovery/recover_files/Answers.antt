use Rattle.std.proofs.Common.{List, length, map, refl, sym, ap, ◌∙◌, subst}
use Rattle.std.proofs.lemmas.Bool.{eqb-true}
use Rattle.std.proofs.lemmas.List.{with_items_is}
use Rattle.std.specs.Vec.{with_items}
use Rattle.bt_engine_state.specs.Parts.{state_of, file_of, hints_of}
use Rattle.bt_engine_state.specs.declared.slot.Slot.{Slot}
use Rattle.bt_engine_start.specs.RecoverySteps.{AreMissing}
use Rattle.bt_engine_start.specs.RestoringSteps.{tree_and_length, block_total, HaveTrees}
use Rattle.bt_engine_start.proofs.Recovers.{none_recovered, trees_of_tied, seen_alike, as_many, restored_alike, follows_first, recovers, places, tied_then}
use Rattle.bt_engine_start.proofs.recovery.recover_files.Goals as goal

pub returns-then-is_empty : goal.returns-then-is_empty
returns-then-is_empty g c = record {
  recovers = none_recovered c.args.parts.now c.requires.shaped (eqb-true (length c.args.runs.now) 0 (sym c.is_empty.ensures ∙ c.if-is_empty.true)) c.requires.runs;
  places = record { roots = refl; lengths = refl; trees = refl };
  torrent = refl;
  log = refl;
  tied = c.requires.tied;
}

pub restore_files-requires-clause-trees : goal.restore_files-requires-clause-trees
restore_files-requires-clause-trees g c =
    subst (λ slots. HaveTrees c.deref.result.now slots) (sym c.deref_mut.ensures.value)
    (subst (λ trees. HaveTrees trees c.args.parts.now.slots.items) (sym c.deref.ensures.value) (trees_of_tied c.requires.tied))

pub restore_files-requires-clause-missing : goal.restore_files-requires-clause-missing
restore_files-requires-clause-missing g c = subst (λ slots. AreMissing slots) (sym c.deref_mut.ensures.value) c.requires.missing

pub follow_files-requires-clause-count : goal.follow_files-requires-clause-count
follow_files-requires-clause-count g c =
    let old = c.args.parts.now in
    let made = c.restore_files.new.slots in
    let are = with_items_is old.slots made (c.restore_files.auto.slots ∙ c.deref_mut.ensures.len) in
    ap (λ (slots : List (Slot g.row.D.Denot g.row.H.Denot)). length slots) c.deref-2.ensures.value
    ∙ as_many old (with_items old.slots made) (seen_alike tree_and_length old.slots are c.restore_files.ensures.kept c.deref_mut.ensures.value)
    (seen_alike block_total old.slots are c.restore_files.ensures.sizes c.deref_mut.ensures.value) ∙ c.requires.tied.count

pub follow_files-requires-clause-followed : goal.follow_files-requires-clause-followed
follow_files-requires-clause-followed g c =
    let old = c.args.parts.now in
    let made = c.restore_files.new.slots in
    let are = with_items_is old.slots made (c.restore_files.auto.slots ∙ c.deref_mut.ensures.len) in (
      state_of (record old { slots = with_items old.slots made }),
      record { same_torrent = refl; files = ap (map file_of) (sym c.deref-2.ensures.value) },
      follows_first old (with_items old.slots made) (seen_alike tree_and_length old.slots are c.restore_files.ensures.kept c.deref_mut.ensures.value)
          (seen_alike block_total old.slots are c.restore_files.ensures.sizes c.deref_mut.ensures.value) c.requires.missing c.requires.tied c.requires.shaped,
    )

pub returns : goal.returns
returns g c =
    let old = c.args.parts.now in
    let made = c.restore_files.new.slots in
    let slots = with_items old.slots made in
    let are = with_items_is old.slots made (c.restore_files.auto.slots ∙ c.deref_mut.ensures.len) in
    let named = seen_alike tree_and_length old.slots are c.restore_files.ensures.kept c.deref_mut.ensures.value in
    let sized = seen_alike block_total old.slots are c.restore_files.ensures.sizes c.deref_mut.ensures.value in
    let b = c.requires in
    record {
      recovers = recovers old slots named sized c.follow_files.new.book c.follow_files.new.counts b.alone
          (restored_alike refl c.deref.ensures.value c.deref_mut.ensures.value are (c.restore_files.ensures.restores (hints_of old.log) c.requires.runs));
      places = places old slots named sized c.follow_files.new.book c.follow_files.new.counts b.alone;
      torrent = refl;
      log = refl;
      tied = tied_then old slots named sized c.follow_files.new.book c.follow_files.new.counts b.tied c.follow_files.ensures.peers
          (c.follow_files.ensures.followed (state_of (record old { slots = slots })) (record { same_torrent = refl; files = ap (map file_of) (sym c.deref-2.ensures.value) })
          (follows_first old slots named sized b.missing b.tied b.shaped));
    }
