use Rattle.std.proofs.Common.{◌∙◌}
use Rattle.bt_words.proofs.CommandWords.{one_word_more}
use Rattle.bt_words.proofs.subcommands.command_of.Goals as goal

pub loop-word-preserved : goal.loop-word-preserved
loop-word-preserved c = record {
  words = one_word_more c.args.words.now c.loop-word.word-index _ c.args.name.now _ _ _ c.loop-word-test.true c.loop-word.invariant.words
      c.in_ok-command.ensures.words c.arg_of.ensures.rule;
  local = c.in_ok-command.ensures.local ∙ c.loop-word.invariant.local;
}
