use Rattle.std.proofs.Common.{ℕ, ◌<◌, slice_index, sym, arith, ◌∙◌}
use Rattle.std.proofs.Math.ListN.{length-set}
use Rattle.sha2.specs.Sha256.{schedule}
use Rattle.bt_lanes.specs.LaneSteps.{lane_of}
use Rattle.bt_lanes.proofs.LaneWords.{slice_index-lane_of}
use Rattle.bt_lanes.proofs.ScheduleRows.{row_more, first_word, next_is}
use Rattle.bt_lanes.proofs.schedules.schedules.Goals as goal

pub rest-init : goal.rest-init
rest-init c = record {
  size = c.first.invariant.size;
  words = λ j k block lt below is.
      c.first.invariant.words j k (omega arith) ∙ sym (slice_index-lane_of c.args.blocks.now j k)
      ∙ first_word block (lane_of j c.args.blocks.now) k below is;
}

pub rest-preserved : goal.rest-preserved
rest-preserved c =
    let t = c.rest.t in
    let next = c.next_row-next.result in
    record {
      size = length-set c.rest.schedules t next ∙ c.rest.invariant.size;
      words = λ j k block lt below is.
          let before = λ (i : ℕ) (under : i < t). c.rest.invariant.words j i block lt under is in
          row_more (λ (i : ℕ). slice_index (schedule block 48) i) c.rest.schedules t j next (omega (arith, c.rest.invariant.size)) before
          (next_is block c.rest.schedules t j _ (omega arith) (omega arith) before (c.next_row-next.ensures j lt)) k below;
    }

pub returns : goal.returns
returns c = λ j k block lt below is. c.rest.invariant.words j k block lt (omega arith) is
