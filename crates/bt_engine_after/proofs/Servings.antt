-- Peers that are served or not, one after the other.
use Rattle.bt_machine.proofs.Base.{[], ◌≡◌, ℕ, ◌+◌, ◌<◌, List, ◌∷◌, ◌++◌, length, map, flat_map, take, drop, get_or, Option, Some, None, length-map, length-take, append-nil, sym, ap, ◌∙◌, arith, PeerKey}
use Rattle.std.proofs.Common.{append_assoc}
use Rattle.std.proofs.lemmas.List.{take_more, drop_more, get_or_at}
use Rattle.std.proofs.lemmas.Grind.{flat_map-append}
use Rattle.bt_book.specs.Book.{BookState}
use Rattle.bt_wire.specs.declared.message.Message.{Message}
use Rattle.bt_machine.specs.declared.answer.Frame.TheVariants.{Message as message_frame}
use Rattle.bt_machine.specs.Output.{Sent}
use Rattle.bt_engine_state.specs.Parts.{peer_of}
use Rattle.bt_engine_state.specs.declared.peer.Peer.{Peer}
use Rattle.bt_engine_after.specs.ServingSteps.{served_peer, served_sent, message_sent}

-- an element that is read while those before it have been written over
read_there : {X : Type 0} (f : X → X) (xs ys : List X) (i : ℕ) (x : X) → i < length xs → ys ≡ map f (take i xs) ++ drop i xs → x ≡ get_or ys i x
    → x ≡ get_or xs i x
read_there f xs ys i x lt h is =
    let front = map f (take i xs) in
    let long : length front ≡ i = length-map (take i xs) f ∙ omega (arith, length-take i xs) in
    is ∙ ap (λ l. get_or l i x) (h ∙ ap (λ l. front ++ l) (drop_more xs i x lt)) ∙ get_or_at front (get_or xs i x) (drop (i + 1) xs) x i long

flat_more : {X Y : Type 0} (f : X → List Y) (xs : List X) (i : ℕ) (x : X) → i < length xs → x ≡ get_or xs i x
    → flat_map f (take (i + 1) xs) ≡ flat_map f (take i xs) ++ f x
flat_more f xs i x lt read =
    ap (flat_map f) (take_more xs i x lt ∙ ap (λ y. take i xs ++ y ∷ []) (sym read)) ∙ flat_map-append f (take i xs) (x ∷ [])
    ∙ ap (λ ys. flat_map f (take i xs) ++ ys) (append-nil (f x))

module _ (book : BookState) (served : List PeerKey) (peers now : List Peer) (i : ℕ) (p : Peer) (lt : i < length peers)
    (written : now ≡ map (served_peer served) (take i peers) ++ drop i peers) (read : p ≡ get_or now i p) (before so_far : List Sent)
    (sent : so_far ≡ before ++ flat_map (served_sent book served) (take i peers)) (message : Option Message)
    (told : message_sent (peer_of book (get_or now i p)) message ≡ served_sent book served (get_or now i p)) where
  told_more : so_far ++ message_sent (peer_of book p) message ≡ before ++ flat_map (served_sent book served) (take (i + 1) peers)
  told_more =
      let own : message_sent (peer_of book p) message ≡ served_sent book served p =
      ap (λ (q : Peer). message_sent (peer_of book q) message) read ∙ told ∙ ap (served_sent book served) (sym read) in
      ap (λ xs. xs ++ message_sent (peer_of book p) message) sent
      ∙ append_assoc before (flat_map (served_sent book served) (take i peers)) (message_sent (peer_of book p) message)
      ∙ ap (λ xs. before ++ (flat_map (served_sent book served) (take i peers) ++ xs)) own
      ∙ ap (λ xs. before ++ xs) (sym (flat_more (served_sent book served) peers i p lt (read_there (served_peer served) peers now i p lt written read)))

  -- it is told this, or nothing
  pub told_this : (m : Message) (new : Peer) → message ≡ Some m → new ≡ served_peer served (get_or now i p)
      → so_far ++ (new.key, message_frame m) ∷ [] ≡ before ++ flat_map (served_sent book served) (take (i + 1) peers)
  told_this m new is same =
      let key = ap (λ (q : Peer). q.key) same ∙ ap (λ (q : Peer). q.key) (sym read) in
      ap {A = PeerKey} {B = List Sent} (λ k. so_far ++ (k, message_frame m) ∷ []) key
      ∙ ap {A = Option Message} {B = List Sent} (λ o. so_far ++ message_sent (peer_of book p) o) (sym is) ∙ told_more

  pub told_nothing : message ≡ None → so_far ≡ before ++ flat_map (served_sent book served) (take (i + 1) peers)
  told_nothing is =
      sym (append-nil so_far) ∙ ap {A = Option Message} {B = List Sent} (λ o. so_far ++ message_sent (peer_of book p) o) (sym is) ∙ told_more
