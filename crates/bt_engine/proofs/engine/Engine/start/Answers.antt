use Rattle.std.proofs.Common.{ap}
use Rattle.bt_engine_start.specs.Starting.{answer_of}
use Rattle.bt_engine.specs.Kept.{view_of}
use Rattle.bt_engine.proofs.Reopenings.{reopened, backed_by_log}
use Rattle.bt_engine.proofs.engine.Engine.start.Goals as goal

pub invariant_of-result : goal.invariant_of-result
invariant_of-result g c = record {
  digest = c.requires;
  lawful = c.in-Ok.ensures.lawful;
  tied = c.in-Ok.ensures.tied;
  shaped = c.in-Ok.ensures.shaped;
  orderly = c.in-Ok.ensures.orderly;
  sparse = c.in-Ok.ensures.sparse;
  rooted = c.in-Ok.ensures.rooted;
  sound = c.in-Ok.ensures.sound;
}

pub returns-in-Ok-clause-again : goal.returns-in-Ok-clause-again
returns-in-Ok-clause-again g c =
    reopened g.D.Disk.conduct g.H.NodeHash.digest c.flushed_blocks_are_marked_again.ensures.marked (view_of c.in-Ok.parts) c.start.ensures.answer (ap answer_of c.in-Ok.is)

pub returns-in-Ok-clause-backed : goal.returns-in-Ok-clause-backed
returns-in-Ok-clause-backed g c =
    backed_by_log g.D.Disk.conduct g.H.NodeHash.digest c.logs_back_engines.ensures.starts (view_of c.in-Ok.parts) c.infohash_is_whole.ensures
    c.start.ensures.answer (ap answer_of c.in-Ok.is)
