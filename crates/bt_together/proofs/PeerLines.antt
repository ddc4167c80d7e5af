-- Lemmas on the lines of peers.
use Rattle.std.proofs.Common.{[], ◌≡◌, ℕ, ◌+◌, ◌<◌, List, ◌∷◌, ◌++◌, length, sym, ◌∙◌, ap, subst, arith, Option, get_or, take}
use Rattle.std.specs.Io.KnownBytes.{Appends}
use Rattle.std.proofs.KnownBytes.{Appends-trans}
use Rattle.std.proofs.lemmas.List.{append-nil, append_assoc, length-take, take_more}
use Rattle.bt_session.specs.declared.peer_end.PeerEnd.{PeerEnd}
use Rattle.bt_together.specs.PeerLines.{peer_lines, peer_text}
use Rattle.bt_words.specs.declared.peer.Peer.{Peer}

-- of one peer more
pub lines_more : (peers : List Peer) (ends : List PeerEnd) (peer : Peer) (end : PeerEnd) → length ends ≡ length peers
    → peer_lines (peers ++ peer ∷ []) (ends ++ end ∷ []) ≡ peer_lines peers ends ++ peer_text peer end
lines_more [] [] peer end same = append-nil (peer_text peer end)
lines_more [] (e ∷ ends) peer end same = absurd (omega (arith, same))
lines_more (p ∷ peers) [] peer end same = absurd (omega (arith, same))
lines_more (p ∷ peers) (e ∷ ends) peer end same =
    ap (λ l. peer_text p e ++ l) (lines_more peers ends peer end (omega (arith, same))) ∙ sym (append_assoc (peer_text p e) (peer_lines peers ends) (peer_text peer end))

-- the lines of the first of them, and of one more
pub one_line_more : (peers : List Peer) (ends : List PeerEnd) (i : ℕ) (dp : Peer) (de : PeerEnd) (before now after : Option (List ℕ))
    → length ends ≡ length peers → i < length peers → Appends before now (peer_lines (take i peers) (take i ends))
    → Appends now after (peer_text (get_or peers i dp) (get_or ends i de))
    → Appends before after (peer_lines (take (i + 1) peers) (take (i + 1) ends))
one_line_more peers ends i dp de before now after same within lines line =
    let short : i < length ends = omega (arith, same, within) in
    let alike : length (take i ends) ≡ length (take i peers) = (let a = length-take i peers in let b = length-take i ends in omega (arith, a, b, within, short)) in
    subst (Appends before after)
    (sym (ap (λ some. peer_lines some (take (i + 1) ends)) (take_more peers i dp within)
    ∙ ap (λ some. peer_lines (take i peers ++ get_or peers i dp ∷ []) some) (take_more ends i de short)
    ∙ lines_more (take i peers) (take i ends) (get_or peers i dp) (get_or ends i de) alike))
    (Appends-trans before now after _ _ lines line)
