use Rattle.std.proofs.Common.{subst}
use Rattle.clap.specs.Words.{found_of, rows_of}
use Rattle.bt_words.specs.CommandLine.{HasJobs}
use Rattle.bt_words.proofs.CommandLineTask.{no_work_both, no_work_part}
use Rattle.bt_words.proofs.command_line.part_by.Goals as goal

pub returns-then-count-ne1-clause-refused : goal.returns-then-count-ne1-clause-refused
returns-then-count-ne1-clause-refused c =
    no_work_both (rows_of (found_of c.args.matches.now)) c.args.word.now c.args.count c.requires.given c.requires.jobs c.if-count-ne1.true

pub returns-in-Some-clause-work : goal.returns-in-Some-clause-work
returns-in-Some-clause-work c = (
  subst (HasJobs (rows_of (found_of c.args.matches.now))) c.if-count-ne1.false c.requires.jobs,
  record { text = c.args.word.now; given = c.requires.given; named = c.in-Some.ensures.some },
)

pub returns-in-None-clause-refused : goal.returns-in-None-clause-refused
returns-in-None-clause-refused c =
    no_work_part (rows_of (found_of c.args.matches.now)) c.args.word.now c.requires.given c.in-None.ensures.none
