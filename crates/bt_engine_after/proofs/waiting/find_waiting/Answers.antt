use Rattle.std.proofs.Common.{◌+◌, List, length, map, sym, ap, ◌∙◌, subst, arith}
use Rattle.std.proofs.lemmas.List.{length-map}
use Rattle.std.proofs.lemmas.List.Elements.{All-nil}
use Rattle.bt_engine_state.specs.Parts.{file_of}
use Rattle.bt_engine_state.proofs.Chains.{stands_there, none_passed, walk_begins, walk_goes_on}
use Rattle.bt_engine_state.proofs.Lists.{get_mapped, get_read}
use Rattle.bt_engine_after.specs.declared.waiting.FileRuns.{FileRuns}
use Rattle.bt_engine_after.specs.MarksSteps.{AreRuns}
use Rattle.bt_engine_after.specs.WaitingSteps.{listed_blocks, AreListed}
use Rattle.bt_engine_after.proofs.OtherMarks.{waiting_before, listed_own, listed_other, listed_past}
use Rattle.bt_engine_after.proofs.waiting.find_waiting.Goals as goal
use Rattle.bt_engine_after.proofs.waiting.find_waiting.Goals.{then-other-file+in_ok-add_waiting, else-other-file}

pub loop-other-init : goal.loop-other-init
loop-other-init g c =
    let is = walk_begins c.requires c.index-other.result.now c.index-other.ensures in
    let none = c.new-listed.ensures.items in
    record {
      stands = stands_there is;
      blocks = listed_past c.args.file c.args.tree c.args.slots.now 0 c.index-other.result.now (ap (λ (listed : List FileRuns). listed_blocks listed) none) is.inside is.limit (none_passed is);
      runs = subst (λ (listed : List FileRuns). AreListed listed) (sym none) (All-nil (λ (one : FileRuns). AreRuns one.runs.items));
      few = omega (arith, ap (λ (listed : List FileRuns). length listed) none);
    }

pub loop-other-preserved : goal.loop-other-preserved
loop-other-preserved g c =
    let l = c.loop-other in
    let slots = c.args.slots.now in
    let files = map file_of slots in
    let is = walk_goes_on c.requires c.index-other-in-loop-other.result.now l.invariant.stands c.loop-other-test.true c.index-other-in-loop-other.ensures in
    elim c.if-other-file.branch [
      | then-other-file+in_ok-add_waiting w ↦
          let here = get_read slots l.other w.index-slots-other.result c.loop-other-test.true w.index-slots-other.is in
          record {
            stands = stands_there is;
            blocks = listed_past c.args.file c.args.tree slots (l.other + 1) c.index-other-in-loop-other.result.now
                (listed_other c.args.file c.args.tree files l.other l.invariant.blocks w.if-other-file.true (get_mapped file_of slots l.other here)
                (ap (λ v. listed_blocks v.items) w.listed-is ∙ w.in_ok-add_waiting.ensures.blocks)) is.inside is.limit (none_passed is);
            runs = subst (λ v. AreListed v.items) (sym w.listed-is) w.in_ok-add_waiting.ensures.runs;
            few = omega (arith, ap (λ v. length v.items) w.listed-is, w.in_ok-add_waiting.ensures.few, l.invariant.few, is.inside);
          }
      | else-other-file w ↦ record {
        stands = stands_there is;
        blocks = listed_past c.args.file c.args.tree slots (l.other + 1) c.index-other-in-loop-other.result.now
            (ap (λ v. listed_blocks v.items) w.listed-is ∙ listed_own c.args.file c.args.tree files l.other l.invariant.blocks w.if-other-file.false) is.inside is.limit (none_passed is);
        runs = subst (λ v. AreListed v.items) (sym w.listed-is) l.invariant.runs;
        few = omega (arith, ap (λ v. length v.items) w.listed-is, l.invariant.few, is.inside);
      }
    ]

pub loop-other-smaller : goal.loop-other-smaller
loop-other-smaller g c =
    let is = walk_goes_on c.requires c.index-other-in-loop-other.result.now c.loop-other.invariant.stands c.loop-other-test.true c.index-other-in-loop-other.ensures in
    omega (arith, is.inside, c.loop-other-test.true)

pub returns-clause-blocks : goal.returns-clause-blocks
returns-clause-blocks g c =
    c.loop-other.invariant.blocks
    ∙ ap (waiting_before c.args.file c.args.tree (map file_of c.args.slots.now))
    (omega (arith, c.loop-other-test.false, c.loop-other.invariant.stands.limit, length-map c.args.slots.now file_of))
