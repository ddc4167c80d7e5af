use Rattle.std.proofs.Common.{◌+◌, ◌<◌, [], length, get_or, sym, ap, ◌∙◌, arith, add-one}
use Rattle.bt_store.specs.GroupsSteps.{noted, noted_found, counted, counted_found}
use Rattle.bt_store.specs.declared.batches.BlockFound.TheVariants.{Whole, Failed}
use Rattle.bt_store.proofs.Found.{get_or_defaults}
use Rattle.bt_store.proofs.GroupReads.{noted_none, noted_more, counted_none, counted_more}
use Rattle.bt_store.proofs.groups.note_found.Goals as goal

pub loop-j-init : goal.loop-j-init
loop-j-init c = record {
  digests = noted_none c.args.at c.args.blocks_found.now c.args.digests.now;
  tally = counted_none c.args.blocks_found.now c.args.tally;
  whole = omega arith;
  faults = omega arith;
}

pub loop-j-preserved : goal.loop-j-preserved
loop-j-preserved c =
    let j = c.loop-j.j in
    let before = c.loop-j.invariant in
    let blocks_found = c.args.blocks_found.now in
    let few : j < length blocks_found = omega (arith, c.loop-j-test.true, c.loop-j.auto.j-end, c.requires.few) in
    let same = get_or_defaults blocks_found j (Whole []) Failed few in
    record {
      digests = c.note.ensures ∙ ap (λ f. noted (c.args.at + j) f c.loop-j.digests) same ∙ ap (noted (c.args.at + j) (get_or blocks_found j Failed)) before.digests
          ∙ sym (noted_more c.args.at blocks_found j c.args.digests.now) ∙ ap (λ m. noted_found c.args.at blocks_found m c.args.digests.now) (sym (add-one j));
      tally = c.with-tally.ensures.value ∙ ap (λ f. counted f c.loop-j.tally) same ∙ ap (counted (get_or blocks_found j Failed)) before.tally
          ∙ sym (counted_more blocks_found j c.args.tally) ∙ ap (λ m. counted_found blocks_found m c.args.tally) (sym (add-one j));
      whole = omega (arith, c.with-tally.ensures.whole, before.whole);
      faults = omega (arith, c.with-tally.ensures.faults, before.faults);
    }
