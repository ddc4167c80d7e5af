use Rattle.std.proofs.Common.{◌≡◌, ℕ, [], ◌∷◌, ◌++◌, map, sym, ap, ◌∙◌, subst, arith}
use Rattle.std.specs.List.{All, range_with_len}
use Rattle.std.specs.Process.{command_args, command_program}
use Rattle.std.proofs.lemmas.List.{map-append}
use Rattle.std.proofs.lemmas.List.Elements.{All-push}
use Rattle.bt_check.proofs.RightBlocks.{ranges_joined}
use Rattle.bt_jobs.specs.Children.{part_words, program_text}
use Rattle.bt_jobs.proofs.children.part_commands.Goals as goal

pub loop-index-preserved : goal.loop-index-preserved
loop-index-preserved c =
    let done = c.loop-index.commands.items in
    let one = c.in_ok-command.command in
    let job = c.args.job in
    let words_at = λ (i : ℕ). part_words job.source.is_info job.dir.now i job.count in
    let index = c.loop-index.index in (
      subst (All (λ command. command_program command ≡ program_text)) (sym c.in_ok-push.ensures.items)
          (All-push (λ command. command_program command ≡ program_text) done one c.loop-index.invariant.0 c.in_ok-command.ensures.program),
      ap (map command_args) c.in_ok-push.ensures.items ∙ map-append command_args done (one ∷ [])
          ∙ ap (λ l. l ++ command_args one ∷ []) c.loop-index.invariant.1 ∙ ap (λ w. map words_at (range_with_len 0 index) ++ w ∷ []) c.in_ok-command.ensures.words
          ∙ sym (map-append words_at (range_with_len 0 index) (index ∷ [])) ∙ ap (map words_at) (ranges_joined 0 index 1 index (omega arith)),
    )
