use Rattle.std.proofs.Common.{Some, None, arith}
use Rattle.std.proofs.lemmas.Str.Pattern.{strip_prefix_char, strip_suffix_char}
use Rattle.bt_sockets.proofs.Hosts.{not_begun, inside}
use Rattle.bt_sockets.proofs.stream.in_brackets.Goals as goal

pub returns-in-Some : goal.returns-in-Some
returns-in-Some c =
    let host = c.args.host.now in
    let behind = c.in-Some.behind in
    let end = c.strip_suffix.result in
    inside host behind.now end (strip_prefix_char 91 host (Some behind) c.in-Some.ensures.cases (omega arith))
    (strip_suffix_char 93 behind.now end c.strip_suffix.ensures.cases (omega arith))

pub returns-in-None : goal.returns-in-None
returns-in-None c = not_begun c.args.host.now (strip_prefix_char 91 c.args.host.now None c.in-None.ensures.cases (omega arith))
