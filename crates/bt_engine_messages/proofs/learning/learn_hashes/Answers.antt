use Rattle.std.proofs.Common.{◌≡◌, ◌≤◌, ℕ, List, [], length, rules, refl, sym, ap, ◌∙◌, get_or, subst, arith}
use Rattle.std.specs.List.{sum_by}
use Rattle.std.proofs.lemmas.Option.{slice_get-get_or}
use Rattle.std.specs.Prelude.{slice_set}
use Rattle.bt_machine.proofs.Lists.{set_id, some_below}
use Rattle.bt_machine.specs.declared.answer.Note.{Note}
use Rattle.bt_engine_state.proofs.Lists.{fits_below}
use Rattle.bt_engine_messages.specs.RunSteps.{SettlesSlots}
use Rattle.bt_engine_messages.specs.NoteRooms.{note_count, slot_room, run_room}
use Rattle.bt_engine_messages.specs.LearningSteps.{unknown_root, no_claim, refused, IsRoomFor, ChangesByHashes}
use Rattle.bt_engine_messages.proofs.KeptHints.{kept_if_added}
use Rattle.bt_engine_messages.proofs.Learnings.{fits_all, root_found, root_lacks, if_ok_by, if_err_by, root_at}
use Rattle.bt_engine_messages.proofs.learning.learn_hashes.Goals as goal

pub returns-in_default-clause-changes : goal.returns-in_default-clause-changes
returns-in_default-clause-changes g c =
    (unknown_root (root_lacks c.args.trees.now c.args.roots.now.trees c.requires.numbered c.args.key.now.root (sym c.in_default.ensures)), refl, refl)

pub returns-in-Err-clause-changes : goal.returns-in-Err-clause-changes
returns-in-Err-clause-changes g c =
    let d = g.D.Disk in
    let has = (root_found c.args.trees.now c.args.roots.now.trees c.requires.numbered c.args.key.now.root c.in-Some.index (sym c.in-Some.ensures)) in
    if_ok_by (λ learnt. ChangesByHashes d.conduct g.H.NodeHash.digest c.args.key.now c.args.digests.now c.args.hint c.args.trees.now c.args.slots.now learnt c.args.trees.now c.args.slots.now)
    c.refusal.result c.refusal.ensures.ok c.refusal.ensures.other
    (λ memory. (no_claim c.in-Err.fault c.in-Some.index has.0 has.1 memory c.in-Err.ensures.refused, refl, refl))

pub returns-in-Err-accept-clause-changes : goal.returns-in-Err-accept-clause-changes
returns-in-Err-accept-clause-changes g c =
    let d = g.D.Disk in
    let x = get_or c.args.trees.now c.in-Some.index c.index-trees-index.result in
    let trees = c.args.trees.now in
    let here = slice_get-get_or trees c.in-Some.index c.index-trees-index.result (some_below c.args.trees.now c.in-Some.index (root_found c.args.trees.now c.args.roots.now.trees c.requires.numbered c.args.key.now.root c.in-Some.index (sym c.in-Some.ensures)).1.here) in
    let same = ap (λ k. slice_set trees c.in-Some.index k) c.in-Err-accept.ensures.unchanged ∙ set_id trees c.in-Some.index here in
    if_ok_by (λ learnt. ChangesByHashes d.conduct g.H.NodeHash.digest c.args.key.now c.args.digests.now c.args.hint trees c.args.slots.now learnt (slice_set trees c.in-Some.index c.accept.new.self) c.args.slots.now)
    c.refusal-in-Err-accept.result c.refusal-in-Err-accept.ensures.ok c.refusal-in-Err-accept.ensures.other
    (λ memory. (refused c.in-Err-accept.fault c.in-Some.index x c.in-Ok.claim (root_at trees c.args.key.now.root c.in-Some.index here (root_found c.args.trees.now c.args.roots.now.trees c.requires.numbered c.args.key.now.root c.in-Some.index (sym c.in-Some.ensures))) memory c.in-Ok.ensures.claim c.in-Err-accept.ensures.refused, same, refl))

pub returns-in-Err-accept-clause-trees : goal.returns-in-Err-accept-clause-trees
returns-in-Err-accept-clause-trees g c =
    let trees = c.args.trees.now in
    let here = slice_get-get_or trees c.in-Some.index c.index-trees-index.result (some_below c.args.trees.now c.in-Some.index (root_found c.args.trees.now c.args.roots.now.trees c.requires.numbered c.args.key.now.root c.in-Some.index (sym c.in-Some.ensures)).1.here) in
    if_err_by c.refusal-in-Err-accept.result (ap (λ k. slice_set trees c.in-Some.index k) c.in-Err-accept.ensures.unchanged ∙ set_id trees c.in-Some.index here)

pub returns-in-Err-accept-clause-slots : goal.returns-in-Err-accept-clause-slots
returns-in-Err-accept-clause-slots g c = if_err_by c.refusal-in-Err-accept.result refl

pub settle_slots-requires-clause-fits : goal.settle_slots-requires-clause-fits
settle_slots-requires-clause-fits g c =
    let trees = c.args.trees.now in
    let here = slice_get-get_or trees c.in-Some.index c.index-trees-index.result (some_below c.args.trees.now c.in-Some.index (root_found c.args.trees.now c.args.roots.now.trees c.requires.numbered c.args.key.now.root c.in-Some.index (sym c.in-Some.ensures)).1.here) in
    fits_all trees c.args.slots.now c.in-Some.index (get_or trees c.in-Some.index c.index-trees-index.result) c.accept.new.self c.requires.fit here c.in-Ok-accept.ensures.ok.joins.file_length

pub returns-clause-changes : goal.returns-clause-changes
returns-clause-changes g c =
    let d = g.D.Disk in
    let dig = g.H.NodeHash.digest in
    let trees = c.args.trees.now in
    let slots = c.args.slots.now in
    let key = c.args.key.now in
    let index = c.in-Some.index in
    let new = c.accept.new.self in
    let notes = c.settle_slots.new.notes.items in
    let settled = c.settle_slots.new.slots in
    let here = slice_get-get_or trees index c.index-trees-index.result (some_below c.args.trees.now c.in-Some.index (root_found c.args.trees.now c.args.roots.now.trees c.requires.numbered c.args.key.now.root c.in-Some.index (sym c.in-Some.ensures)).1.here) in
    let settles = subst (λ (n : ℕ). SettlesSlots d.conduct dig new index key.index n slots [] notes settled) c.settled_count-count.ensures.value
    (subst (λ (ns : List Note). SettlesSlots d.conduct dig new index key.index c.settled_count-count.result slots ns notes settled) c.in_ok-notes.ensures.items c.settle_slots.ensures.settles) in
    let old = get_or trees index c.index-trees-index.result in (
      record {
        tree = index;
        old = old;
        new = new;
        claim = c.in-Ok.claim;
        here = root_at trees key.root index here (root_found c.args.trees.now c.args.roots.now.trees c.requires.numbered c.args.key.now.root c.in-Some.index (sym c.in-Some.ensures));
        claims = c.in-Ok.ensures.claim;
        accepts = c.in-Ok-accept.ensures.ok;
        grows = refl;
        settles = settles;
      },
      c.hint_if_added.ensures ∙ kept_if_added old new c.args.hint c.in-Ok-accept.added c.in-Ok-accept.ensures.count,
    )

pub returns-clause-few : goal.returns-clause-few
returns-clause-few g c = λ room fits.
    let trees = c.args.trees.now in
    let slots = c.args.slots.now in
    let key = c.args.key.now in
    let index = c.in-Some.index in
    let count = c.settled_count-count.result in
    let here = slice_get-get_or trees index c.index-trees-index.result (some_below c.args.trees.now c.in-Some.index (root_found c.args.trees.now c.args.roots.now.trees c.requires.numbered c.args.key.now.root c.in-Some.index (sym c.in-Some.ensures)).1.here) in
    let enough = fits index (get_or trees index c.index-trees-index.result) (root_at trees key.root index here (root_found c.args.trees.now c.args.roots.now.trees c.requires.numbered c.args.key.now.root c.in-Some.index (sym c.in-Some.ensures))) in
    let limit = c.in-Ok.ensures.claim.shape.run.limit in
    let same : run_room key ≡ count = omega (arith, c.settled_count-count.ensures.value, c.settled_count-count.ensures.few, limit) in
    omega (arith, c.settle_slots.ensures.few, c.in_ok-notes.ensures.len, enough, ap (λ n. sum_by (slot_room index n) slots) same)

pub bounds-trees-index : goal.bounds-trees-index
bounds-trees-index g c =
    let has = root_found c.args.trees.now c.args.roots.now.trees c.requires.numbered c.args.key.now.root c.in-Some.index (sym c.in-Some.ensures) in
    omega (arith, some_below c.args.trees.now c.in-Some.index has.1.here)

pub room_for-requires-clause-lead : goal.room_for-requires-clause-lead
room_for-requires-clause-lead g c =
    let has = root_found c.args.trees.now c.args.roots.now.trees c.requires.numbered c.args.key.now.root c.in-Some.index (sym c.in-Some.ensures) in
    c.requires.lead c.in-Some.index (some_below c.args.trees.now c.in-Some.index has.1.here)

pub room_for-requires-clause-idle : goal.room_for-requires-clause-idle
room_for-requires-clause-idle g c = c.requires.idle

pub settle_slots-requires-clause-idle : goal.settle_slots-requires-clause-idle
settle_slots-requires-clause-idle g c = c.requires.idle

pub settle_slots-requires-clause-lead : goal.settle_slots-requires-clause-lead
settle_slots-requires-clause-lead g c =
    let has = root_found c.args.trees.now c.args.roots.now.trees c.requires.numbered c.args.key.now.root c.in-Some.index (sym c.in-Some.ensures) in
    c.requires.lead c.in-Some.index (some_below c.args.trees.now c.in-Some.index has.1.here)

pub offset_bounds-trees-index : goal.offset_bounds-trees-index
offset_bounds-trees-index g c =
    let has = root_found c.args.trees.now c.args.roots.now.trees c.requires.numbered c.args.key.now.root c.in-Some.index (sym c.in-Some.ensures) in
    fits_below c.in-Some.index (length c.args.trees.now) _ (some_below c.args.trees.now c.in-Some.index has.1.here) (first_of (omega arith, search rules))

pub returns-in-Err-accept-clause-few : goal.returns-in-Err-accept-clause-few
returns-in-Err-accept-clause-few g c =
    if_ok_by (λ learnt. (room : ℕ) → IsRoomFor c.args.trees.now c.args.slots.now c.args.key.now room → note_count learnt ≤ room)
    c.refusal-in-Err-accept.result c.refusal-in-Err-accept.ensures.ok c.refusal-in-Err-accept.ensures.other (λ memory room fits. omega arith)
