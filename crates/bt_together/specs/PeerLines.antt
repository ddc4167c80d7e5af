-- The lines that tell how it ended with each peer.
use Rattle.std.specs.Prelude.{[], ℕ, ◌++◌, if◌then◌else◌, Bool, true, false, List, codes}
use Rattle.std.specs.Fmt.{decimal}
use Rattle.std.specs.List.{flat_map, zip}
use Rattle.bt_check.specs.Display.{display_text, line_text}
use Rattle.bt_session.specs.PeerEnd.{end_text}
use Rattle.bt_session.specs.declared.peer_end.PeerEnd.{PeerEnd}
use Rattle.bt_session.specs.declared.peer_end.PeerEnd.TheVariants.{Untried}
use Rattle.bt_words.specs.declared.peer.Peer.{Peer}

abbrev pub is_tried : PeerEnd → Bool
is_tried Untried = false
is_tried _ = true

-- where the peer is reached, its host printed as a name is, and how it ended with it
abbrev pub peer_line : Peer → PeerEnd → List ℕ
peer_line peer end =
    line_text (codes "peer " ++ display_text peer.host.now ++ codes ":" ++ decimal peer.port
    ++ codes " " ++ end_text end)

-- nothing is told of a peer that was not tried
abbrev pub peer_text : Peer → PeerEnd → List ℕ
peer_text peer end = if is_tried end then peer_line peer end else []

-- a line for each that was
abbrev pub peer_lines : List Peer → List PeerEnd → List ℕ
peer_lines peers ends = flat_map (λ p. peer_text p.0 p.1) (zip peers ends)
