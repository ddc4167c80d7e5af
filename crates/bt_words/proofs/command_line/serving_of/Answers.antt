use Rattle.std.proofs.Common.{codes}
use Rattle.clap.specs.Words.{found_of, rows_of}
use Rattle.bt_words.specs.CommandLine.{IsGiven}
use Rattle.bt_words.proofs.CommandLineTask.{no_serving_both, no_serving_none, no_serving_number, not_so, word_some, word_none}
use Rattle.bt_words.proofs.command_line.serving_of.Goals as goal

pub returns-then-is_forever-clause-refused : goal.returns-then-is_forever-clause-refused
returns-then-is_forever-clause-refused c =
    let found = found_of c.args.matches.now in
    no_serving_both (rows_of found) c.in-Some.digits.now
    (word_some found (codes "serve") c.get_str.result c.in-Some.digits c.get_str.ensures c.in-Some.is)
    (c.is_given-is_forever.ensures.0 c.if-is_forever.true)

pub returns-then-is_forever-2-clause-serving : goal.returns-then-is_forever-2-clause-serving
returns-then-is_forever-2-clause-serving c = (
  word_none (found_of c.args.matches.now) (codes "serve") c.get_str.result c.get_str.ensures c.in-None.is,
  c.is_given-is_forever.ensures.0 c.if-is_forever-2.true,
)

pub serving_by-requires-clause-count : goal.serving_by-requires-clause-count
serving_by-requires-clause-count c =
    let found = found_of c.args.matches.now in
    record {
      text = c.in-Some.digits.now;
      given = word_some found (codes "serve") c.get_str.result c.in-Some.digits c.get_str.ensures c.in-Some.is;
      number = c.in-Some-number_in.ensures.some;
    }

pub serving_by-requires-clause-ends : goal.serving_by-requires-clause-ends
serving_by-requires-clause-ends c =
    not_so c.is_given-is_forever.result (IsGiven (codes "forever") (rows_of (found_of c.args.matches.now))) c.is_given-is_forever.ensures c.if-is_forever.false

pub returns-in-None-number_in-clause-refused : goal.returns-in-None-number_in-clause-refused
returns-in-None-number_in-clause-refused c =
    let found = found_of c.args.matches.now in
    no_serving_number (rows_of found) c.in-Some.digits.now
    (word_some found (codes "serve") c.get_str.result c.in-Some.digits c.get_str.ensures c.in-Some.is) c.in-None-number_in.ensures.none

pub returns-else-is_forever-2-clause-refused : goal.returns-else-is_forever-2-clause-refused
returns-else-is_forever-2-clause-refused c =
    let found = found_of c.args.matches.now in
    no_serving_none (rows_of found) (word_none found (codes "serve") c.get_str.result c.get_str.ensures c.in-None.is)
    (not_so c.is_given-is_forever.result (IsGiven (codes "forever") (rows_of found)) c.is_given-is_forever.ensures c.if-is_forever-2.false)
