-- Which peers a book knows.
use Rattle.bt_machine.proofs.Base.{[], ◌≡◌, ◌+◌, not, List, ◌∷◌, map, filter, refl, sym, ap, ◌∙◌, PeerKey, cond, ◌==◌}
use Rattle.std.specs.List.{count_by}
use Rattle.bt_book.specs.Book.{PeerRequests, is_of}
use Rattle.bt_book.proofs.Once.{count_cons}
use Rattle.bt_engine_state.proofs.Lists.{filter_mapped}

-- who has joined is read off the keys
pub counted_keys : (key : PeerKey) (peers : List PeerRequests)
    → count_by (is_of key) peers ≡ count_by (λ (k : PeerKey). k.0 == key.0) (map (λ r. r.peer) peers)
counted_keys key [] = refl
counted_keys key (r ∷ rs) =
    count_cons (is_of key) r rs ∙ ap (λ n. cond (is_of key r) 1 0 + n) (counted_keys key rs)
    ∙ sym (count_cons (λ (k : PeerKey). k.0 == key.0) r.peer (map (λ q. q.peer) rs))

pub filtered_keys : (key : PeerKey) (peers : List PeerRequests)
    → map (λ r. r.peer) (filter (λ r. not (is_of key r)) peers) ≡ filter (λ (k : PeerKey). not (k.0 == key.0)) (map (λ r. r.peer) peers)
filtered_keys key peers = filter_mapped (λ (r : PeerRequests). r.peer) (λ (k : PeerKey). not (k.0 == key.0)) peers
