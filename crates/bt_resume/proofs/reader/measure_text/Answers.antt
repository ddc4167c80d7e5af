use Rattle.std.proofs.Common.{◌∙◌, sym, ap, length, arith}
use Rattle.std.proofs.lemmas.List.{take_rest, length-append}
use Rattle.bt_resume.proofs.Takings.{taken_plain, taken_renewed}
use Rattle.bt_resume.proofs.reader.measure_text.Goals as goal

pub returns-then-not-is_renewed-clause-text : goal.returns-then-not-is_renewed-clause-text
returns-then-not-is_renewed-clause-text c =
    let olds = c.measure_hints-olds.ensures in
    let none = rw take_rest at c.if-not-is_renewed.ensures.no in
    let is = taken_plain c.args.format c.args.bytes.now olds.hints.0 c.measure_hints-olds.result.len olds.hints.1 none in
    (is.text, is.taken, olds.hints.2 ∙ sym (ap length is.hints_are), olds.format ∙ sym is.end_is)

pub returns-clause-text : goal.returns-clause-text
returns-clause-text c =
    let olds = c.measure_hints-olds.ensures in
    let news = c.measure_hints-news.ensures in
    let renews = rw take_rest at c.if-not-is_renewed.ensures.yes in
    let behind = rw (take_rest, take_rest) at news.hints.1 in
    let is = taken_renewed c.args.format c.args.bytes.now olds.hints.0 news.hints.0 c.measure_hints-olds.result.len c.measure_hints-news.result.len olds.hints.1 renews behind in (
      is.text,
      is.taken,
      omega (arith, olds.hints.2, news.hints.2, ap length is.hints_are, length-append olds.hints.0 news.hints.0),
      sym is.end_is,
    )
