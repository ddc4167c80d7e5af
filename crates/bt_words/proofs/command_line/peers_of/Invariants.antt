-- The words so far name the peers so far.
use Rattle.std.proofs.Common.{map, take}
use Rattle.std.specs.List.{AllZip}
use Rattle.bt_words.specs.Values.{IsPeerWord}
use Rattle.bt_words.proofs.command_line.peers_of.Given as goal

abbrev pub invariant-loop-word : goal.invariant-loop-word
invariant-loop-word l = AllZip IsPeerWord (map (λ word. word.now) (take l.word-index l.words)) l.peers.items
