use Rattle.std.proofs.Common.{sym}
use Rattle.bt_replay.proofs.Telling.{told_more, file_there}
use Rattle.bt_replay.proofs.event.push_files.Goals as goal

pub loop-file-preserved : goal.loop-file-preserved
loop-file-preserved g c = record {
  told = told_more c.args.engine.now.state c.loop-file.file c.in-Some.told _ _ _ c.loop-file.invariant.told (sym c.in-Some.ensures) c.in_ok-push_file-in-Some.ensures;
  within = file_there c.args.engine.now.state c.loop-file.file c.in-Some.told (sym c.in-Some.ensures);
}
