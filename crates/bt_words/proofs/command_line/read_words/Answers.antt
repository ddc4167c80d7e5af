use Rattle.std.proofs.Common.{map, string_bytes}
use Rattle.std.proofs.lemmas.Result.{IfOk-weaker}
use Rattle.clap.specs.Words.{app_of}
use Rattle.bt_words.proofs.CommandLineTask.{words_faulty, words_met}
use Rattle.bt_words.proofs.command_line.read_words.Goals as goal

pub returns-clause-matches : goal.returns-clause-matches
returns-clause-matches c =
    words_met c.try_get_matches_from_mut.result (app_of c.args.command.now) (map string_bytes c.args.words.now) c.requires
    c.try_get_matches_from_mut.ensures.kinds
    (IfOk-weaker c.try_get_matches_from_mut.result _ _ (λ m h. h.2) c.try_get_matches_from_mut.ensures.ok)

pub returns-clause-error : goal.returns-clause-error
returns-clause-error c =
    words_faulty c.try_get_matches_from_mut.result (app_of c.args.command.now) (map string_bytes c.args.words.now) c.requires
    c.try_get_matches_from_mut.ensures.kinds
