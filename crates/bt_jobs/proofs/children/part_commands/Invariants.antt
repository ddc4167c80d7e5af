-- The commands of the parts so far.
use Rattle.std.proofs.Common.{◌≡◌, map}
use Rattle.std.specs.List.{All, range_with_len}
use Rattle.std.specs.Process.{command_args, command_program}
use Rattle.bt_jobs.specs.Children.{part_words, program_text}
use Rattle.bt_jobs.proofs.children.part_commands.Given as goal

abbrev pub invariant-loop-index : goal.invariant-loop-index
invariant-loop-index l =
    All (λ command. command_program command ≡ program_text) l.commands.items
    × (map command_args l.commands.items
    ≡ map (λ index. part_words l.fn.job.source.is_info l.fn.job.dir.now index l.fn.job.count) (range_with_len 0 l.index))
