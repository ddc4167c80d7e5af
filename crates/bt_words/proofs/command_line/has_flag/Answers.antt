use Rattle.std.proofs.Common.{◌∙◌}
use Rattle.clap.specs.Words.{found_of}
use Rattle.clap.proofs.WalkLemmas.{one_text-rows}
use Rattle.bt_words.proofs.command_line.has_flag.Goals as goal

pub returns : goal.returns
returns c =
    let rows = one_text-rows (found_of c.args.matches.now) c.args.id.now in
    record { set = λ e. c.get_flag.ensures.value (rows ∙ e); unset = λ e. c.get_flag.ensures.other (rows ∙ e) }
