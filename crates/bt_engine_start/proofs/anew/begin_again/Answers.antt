use Rattle.std.proofs.Common.{map, ap, refl, ◌∙◌}
use Rattle.std.proofs.lemmas.List.{with_items_is}
use Rattle.std.specs.Vec.{with_items}
use Rattle.bt_engine_start.specs.AnewSteps.{cleared}
use Rattle.bt_engine_start.proofs.Restarts.{begun_next, devices_next, places_next, state_next}
use Rattle.bt_engine_start.proofs.anew.begin_again.Goals as goal

pub returns : goal.returns
returns g c =
    let old = c.args.parts.now in
    let slots = with_items old.slots c.clear_slots.new.slots in
    let are = with_items_is old.slots c.clear_slots.new.slots (c.clear_slots.auto.slots ∙ c.deref_mut.ensures.len) ∙ c.clear_slots.ensures
    ∙ ap (map cleared) c.deref_mut.ensures.value in
    let tied = c.requires.sound.tied in
    let shaped = c.requires.sound.shaped in
    let trees = c.args.trees in
    let books = c.args.books in
    let log = c.drop_pending.new.log in
    record {
      begun = begun_next old slots trees books log tied shaped are c.requires.trees c.requires.books c.keeps_laws.ensures.lawful
          c.blocks_and_ranges_agree.ensures.in_piece;
      state = state_next old slots trees books log tied shaped are c.requires.trees c.requires.books c.drop_pending.ensures.pending c.drop_pending.ensures.log;
      places = places_next old slots trees books log tied shaped are c.requires.trees c.requires.books;
      devices = devices_next old slots trees books log tied shaped are c.requires.trees c.requires.books;
      torrent = refl;
      log = c.drop_pending.ensures.log;
    }
