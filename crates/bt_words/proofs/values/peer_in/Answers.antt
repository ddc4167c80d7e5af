use Rattle.std.proofs.Common.{arith}
use Rattle.bt_words.specs.Values.{IsPeerWord}
use Rattle.bt_words.specs.declared.peer.Peer.{Peer}
use Rattle.bt_words.proofs.PeerWords.{none_always, cut_at, uncut, no_colon, no_host, no_port}
use Rattle.bt_words.proofs.values.peer_in.Goals as goal

pub returns-in_err-host-clause-none : goal.returns-in_err-host-clause-none
returns-in_err-host-clause-none c =
    none_always _ ((peer : Peer) → ¬ IsPeerWord c.args.word.now peer) (no_colon c.args.word.now (uncut c.args.word.now c.in_err-host.ensures.cases))

pub returns-then-is_empty-clause-none : goal.returns-then-is_empty-clause-none
returns-then-is_empty-clause-none c =
    let split = c.in_ok-host.ensures.cases in
    let cut = cut_at c.args.word.now c.in_ok-host.host.now c.in_ok-host.digits.now split.0 split.1 split.2.0 split.2.1 split.3 split.4 in
    no_host c.args.word.now c.in_ok-host.host.now c.in_ok-host.digits.now cut.0 cut.1 (grind arith)

pub returns-in_err-port-clause-none : goal.returns-in_err-port-clause-none
returns-in_err-port-clause-none c =
    let split = c.in_ok-host.ensures.cases in
    let cut = cut_at c.args.word.now c.in_ok-host.host.now c.in_ok-host.digits.now split.0 split.1 split.2.0 split.2.1 split.3 split.4 in
    none_always _ ((peer : Peer) → ¬ IsPeerWord c.args.word.now peer)
    (no_port c.args.word.now c.in_ok-host.host.now c.in_ok-host.digits.now cut.0 cut.1 c.in_err-port.ensures.none)
