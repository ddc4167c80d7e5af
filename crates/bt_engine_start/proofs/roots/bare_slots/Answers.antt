use Rattle.std.proofs.Common.{◌∷◌, [], List, length, map, None, refl, sym, ap, ◌∙◌, subst, arith}
use Rattle.std.specs.Prelude.{slice_get}
use Rattle.std.proofs.lemmas.List.{length-map, length-append}
use Rattle.bt_meta.specs.Files.{file_of}
use Rattle.bt_machine.proofs.Lists.{get_some}
use Rattle.bt_engine_state.specs.Ties.{root_and_length_of}
use Rattle.bt_engine_state.specs.declared.slot.Slot.{Slot}
use Rattle.bt_engine_start.specs.RootsSteps.{AreBareSlotsSoFar, roots_and_lengths}
use Rattle.bt_engine_start.proofs.RootTrees.{extends_mapped, roots_apart, slot_pushed}
use Rattle.bt_engine_start.proofs.roots.bare_slots.Goals as goal

pub loop-index-preserved : goal.loop-index-preserved
loop-index-preserved g c =
    let l = c.loop-index in
    let files = map file_of c.args.files.now in
    let firsts = c.number_of.new.self.first_files.items in
    let file = get_some files l.index (omega (arith, c.loop-index-test.true, length-map c.args.files.now file_of)) in
    let made : Slot g.row.D.Denot g.row.H.Denot = record { tree = c.in_ok-tree.tree; store = None } in
    record {
      by_root = c.in_ok-tree.ensures.by_root;
      limit = c.in_ok-tree.ensures.limit;
      count = ap (λ xs. length xs) c.in_ok-push.ensures.items ∙ omega (arith, length-append l.slots.items (made ∷ []), l.invariant.count);
      each = subst (λ (xs : List (Slot g.row.D.Denot g.row.H.Denot)). AreBareSlotsSoFar files (roots_and_lengths files firsts) xs) (sym c.in_ok-push.ensures.items)
          (slot_pushed files l.slots.items {slot = made} l.invariant.each
          (extends_mapped (root_and_length_of files) l.roots.first_files.items firsts c.in_ok-tree.ensures.grown)
          (ap (λ n. slice_get files n) l.invariant.count ∙ file.1) (record { bare = refl; has_tree = c.in_ok-tree.ensures.number file.0 file.1 }));
    }

pub returns-clause-apart : goal.returns-clause-apart
returns-clause-apart g c = roots_apart c.loop-index.invariant.by_root

pub returns-clause-slots : goal.returns-clause-slots
returns-clause-slots g c = record {
  count = omega (arith, c.loop-index.invariant.count, c.loop-index-test.false, c.loop-index.auto.index-end, length-map c.args.files.now file_of);
  each = c.loop-index.invariant.each;
}

pub returns-clause-numbered : goal.returns-clause-numbered
returns-clause-numbered g c = c.loop-index.invariant.by_root.numbered
