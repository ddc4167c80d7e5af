use Rattle.std.proofs.Common.{◌+◌, map, sym, subst, take}
use Rattle.std.specs.List.{AllZip}
use Rattle.bt_words.specs.Values.{IsPeerWord}
use Rattle.bt_words.proofs.PeerWords.{no_peers, peers_more}
use Rattle.bt_words.proofs.command_line.peers_of.Goals as goal

pub returns-in_default-clause-refused : goal.returns-in_default-clause-refused
returns-in_default-clause-refused c =
    no_peers c.args.words.now c.loop-word.word-index _ c.loop-word-test.true c.in_default.ensures.none

pub loop-word-preserved : goal.loop-word-preserved
loop-word-preserved c =
    subst (λ peers. AllZip IsPeerWord (map (λ word. word.now) (take (c.loop-word.word-index + 1) c.args.words.now)) peers)
    (sym c.in_ok-push.ensures.items)
    (peers_more c.args.words.now c.loop-word.peers.items c.loop-word.word-index _ c.in-Some.peer c.loop-word-test.true c.loop-word.invariant
    c.in-Some.ensures.some)
