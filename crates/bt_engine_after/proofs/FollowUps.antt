-- The three rules one after the other.
use Rattle.bt_machine.proofs.Base.{◌≡◌, ℕ, zero, suc, inl, inr, List, [], ◌∷◌, ◌++◌, get_or, Option, Some, refl, sym, ap, ◌∙◌, subst, slice_get, slice_set, All, BlockId, PeerKey, Metainfo}
use Rattle.std.proofs.Common.{append_assoc, cond, ltb, count_by, arith}
use Rattle.bt_machine.proofs.Lists.{some_is, set_same}
use Rattle.bt_machine.proofs.Pairs.{contains_at}
use Rattle.bt_machine.proofs.Askers.{count_set}
use Rattle.bt_book.specs.Blocks.{is_block}
use Rattle.bt_meta.specs.PieceBlocks.{HasBlock}
use Rattle.bt_wire.specs.declared.message.Message.{Message}
use Rattle.bt_machine.specs.State.{PeerState, EngineState}
use Rattle.bt_machine.specs.Blocks.{with_peer, asker_count}
use Rattle.bt_machine.specs.Output.{Sent}
use Rattle.bt_machine.specs.Shape.{IsShaped}
use Rattle.bt_machine.specs.FollowUp.{NeedsLeaf, RequestsHashes, requests, rests, AsksBlocks}
use Rattle.bt_engine_after.proofs.Blocks.{stands}
use Rattle.bt_engine_after.specs.SendingSteps.{frames_of, AreRequestsSent}
use Rattle.bt_engine_after.specs.InterestSteps.{IsInterestTold}
use Rattle.bt_engine_after.specs.HashRequestsSteps.{AreHashesRequested}
use Rattle.bt_engine_after.specs.AskingSteps.{AreBlocksAsked}
use Rattle.bt_engine_after.specs.AfterEvent.{SendsFollowUp}

-- ---- another peer in the place of one changes nothing of what leaves are needed

module _ (dig : List ℕ → List ℕ) (s : EngineState) (i : ℕ) (x : PeerState) where
  needs_before : (p : PeerState) (b : BlockId) → NeedsLeaf dig (with_peer s i x) p b → NeedsLeaf dig s p b
  needs_before p b n = record { has = n.has; not_marked = n.not_marked; unknown = n.unknown }

  needs_then : (p : PeerState) (b : BlockId) → NeedsLeaf dig s p b → NeedsLeaf dig (with_peer s i x) p b
  needs_then p b n = record { has = n.has; not_marked = n.not_marked; unknown = n.unknown }

  pub requests_before : {p q : PeerState} {sent : List Sent} → RequestsHashes dig (with_peer s i x) p sent q → RequestsHashes dig s p sent q
  requests_before {p} (requests b tree key idle least has_tree plan sent_is after) =
      requests b tree key idle (record { needs = needs_before p b least.needs; least = λ c n. least.least c (needs_then p c n) }) has_tree plan sent_is after
  requests_before {p} (rests none sent_is after) = rests (λ idle b n. none idle b (needs_then p b n)) sent_is after

-- the engine keeps its shape, and its key and what it is asked for the peer
pub shaped_again : {s t : EngineState} (i : ℕ) (x : PeerState) → IsShaped s.torrent s → t ≡ with_peer s i x → IsShaped t.torrent t
shaped_again {s} {t} i x shaped is =
    let at : IsShaped s.torrent (with_peer s i x) = record { same = shaped.same; roots = shaped.roots; count = shaped.count; each = shaped.each } in
    subst (λ (u : EngineState). IsShaped u.torrent u) (sym is) at

keeps : (dig : List ℕ → List ℕ) (s : EngineState) {p q : PeerState} {sent : List Sent} → RequestsHashes dig s p sent q → (q.key ≡ p.key) × (q.asked ≡ p.asked)
keeps dig s (requests b tree key idle least has_tree plan sent_is after) = (ap (λ (r : PeerState). r.key) after, ap (λ (r : PeerState). r.asked) after)
keeps dig s (rests none sent_is after) = (ap (λ (r : PeerState). r.key) after, ap (λ (r : PeerState). r.asked) after)

-- blocks that are open are the torrent's
pub open_have : (s : EngineState) → IsShaped s.torrent s → (p : PeerState) (blocks : List BlockId) → AsksBlocks s p blocks
    → All (λ b. HasBlock s.torrent b.file b.block) blocks
open_have s shaped p blocks a k d lt = stands s shaped (get_or blocks k d) (a.are_open (get_or blocks k d) (contains_at blocks k d lt)).missing

-- ---- nor of what blocks are open, where it is asked for the same

module _ (s : EngineState) (i : ℕ) (old new : PeerState) (here : slice_get s.peers i ≡ Some old) (same : new.asked ≡ old.asked) where
  as_many : (b : BlockId) → asker_count (with_peer s i new) b ≡ asker_count s b
  as_many b =
      let count = count_set b s.peers i new here in
      let one = ap (λ (bs : List BlockId). cond {A = ℕ} (ltb 0 (count_by (is_block b) bs)) 1 0) same in
      omega (arith, count, one)

  pub asks_before : (p : PeerState) (blocks : List BlockId) → AsksBlocks (with_peer s i new) p blocks → AsksBlocks s p blocks
  asks_before p blocks a = record {
    shut = a.shut;
    are_open = λ b c. (let o = a.are_open b c in record { has = o.has; missing = o.missing; new = o.new; room = rw (← (as_many b)) o.room });
    distinct = a.distinct;
    few = a.few;
    all = λ unchoked wanted. elim (a.all unchoked wanted) [
      | inl full ↦ inl full
      | inr each ↦ inr (λ b o. each b (record { has = o.has; missing = o.missing; new = o.new; room = rw (as_many b) o.room }))
    ];
  }

-- ---- all three

set_again : {X : Type 0} (xs : List X) (i : ℕ) (x y : X) → slice_set (slice_set xs i x) i y ≡ slice_set xs i y
set_again [] i x y = refl
set_again (z ∷ xs) zero x y = refl
set_again (z ∷ xs) (suc i) x y = ap (λ ys. z ∷ ys) (set_again xs i x y)

module _ (dig : List ℕ → List ℕ) (s : EngineState) (i : ℕ) (interest hashes : Option Message) {s1 s2 s3 : EngineState} {blocks : List BlockId}
    (told : IsInterestTold s i interest s1) (requested : AreHashesRequested dig s1 i hashes s2) (asked : AreBlocksAsked s2 i blocks s3) where
  -- the engine before each rule has another peer at i, and is else the same
  then_requested : AreHashesRequested dig (with_peer s i told.after) i hashes s2
  then_requested = subst (λ t. AreHashesRequested dig t i hashes s2) told.now requested

  told_is : then_requested.peer ≡ told.after
  told_is = some_is (sym then_requested.here ∙ set_same s.peers i told.here)

  then_two : s2 ≡ with_peer s i then_requested.after
  then_two = then_requested.now ∙ ap (λ ps. record s { peers = ps }) (set_again s.peers i told.after then_requested.after)

  then_asked : AreBlocksAsked (with_peer s i then_requested.after) i blocks s3
  then_asked = subst (λ t. AreBlocksAsked t i blocks s3) then_two asked

  asked_is : then_asked.peer ≡ then_requested.after
  asked_is = some_is (sym then_asked.here ∙ set_same s.peers i told.here)

  key_told : told.after.key ≡ told.peer.key
  key_told = ap (λ (q : PeerState). q.key) told.tells.others

  hash_sent : RequestsHashes dig s told.after (frames_of told.peer.key hashes) then_requested.after
  hash_sent =
      subst (λ k. RequestsHashes dig s told.after (frames_of k hashes) then_requested.after) key_told
      (requests_before dig s i told.after
      (subst (λ q. RequestsHashes dig (with_peer s i told.after) q (frames_of q.key hashes) then_requested.after) told_is then_requested.requests))

  kept : (then_requested.after.key ≡ told.after.key) × (then_requested.after.asked ≡ told.after.asked)
  kept = keeps dig s hash_sent

  same_asked : then_requested.after.asked ≡ told.peer.asked
  same_asked = kept.1 ∙ ap (λ (q : PeerState). q.asked) told.tells.others

  pub sends_follow_up : (torrent : Metainfo) (key : PeerKey) (send0 send1 send2 send3 : List Sent) → told.peer.key ≡ key → s.torrent ≡ torrent
      → send1 ≡ send0 ++ frames_of key interest → send2 ≡ send1 ++ frames_of key hashes → AreRequestsSent torrent key blocks send2 send3
      → SendsFollowUp dig s i send0 send3 s3
  sends_follow_up torrent key send0 send1 send2 send3 same_key same first second third =
      let one = frames_of told.peer.key interest in
      let two = frames_of told.peer.key hashes in
      let keyed : send2 ≡ send0 ++ (one ++ two) =
      second ∙ ap (λ xs. xs ++ frames_of key hashes) first ∙ ap (λ k. (send0 ++ frames_of k interest) ++ frames_of k hashes) (sym same_key)
      ∙ append_assoc send0 one two in
      record {
        sent = (one ++ two) ++ third.sent;
        follows = record {
          peer = told.peer;
          interested = told.after;
          planned = then_requested.after;
          interest_frames = one;
          hash_frames = two;
          block_frames = third.sent;
          blocks = blocks;
          here = told.here;
          interest = told.tells;
          hashes = hash_sent;
          asks = asks_before s i told.peer then_requested.after told.here same_asked then_requested.after blocks
              (subst (λ q. AsksBlocks (with_peer s i then_requested.after) q blocks) asked_is then_asked.asks);
          requests = third.requests s then_requested.after same (kept.0 ∙ key_told ∙ same_key);
          all = refl;
          after = then_asked.now
              ∙ ap (λ ps. record s { peers = ps }) (set_again s.peers i then_requested.after (record then_asked.peer { asked = then_asked.peer.asked ++ blocks }))
              ∙ ap (λ (q : PeerState). with_peer s i (record q { asked = q.asked ++ blocks })) asked_is;
        };
        behind = third.behind ∙ ap (λ xs. xs ++ third.sent) keyed ∙ append_assoc send0 (one ++ two) third.sent;
      }
