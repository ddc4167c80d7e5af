use Rattle.std.proofs.Common.{sym}
use Rattle.bt_replay.proofs.output.push_sent.Goals as goal

pub frame_words-requires : goal.frame_words-requires
frame_words-requires c = c.requires c.loop-key-item.result (c.loop-key.key-index, c.loop-key-test.true, sym c.loop-key-item.is)
