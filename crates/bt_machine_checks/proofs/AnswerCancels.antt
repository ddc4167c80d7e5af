-- Who is sent a cancel of a block that comes.
use Rattle.bt_machine_checks.proofs.Base.{[], ◌≡◌, ◌≢◌, ℕ, ◌⊎◌, inl, inr, Bool, true, false, not, List, ◌++◌, length, map, filter, Some, None, Result, Ok, Err, refl, sym, ap, ◌∙◌, subst, slice_get, slice_set, Contains, ◌&&◌, ◌==◌, Contains-append_cases, PeerKey, BlockId, Ask, Stream, Message, Piece, Cancel, Have, Range, DeviceFault, StoreError, Put, Already, Wrong, PutMarked, PutWaiting}
use Rattle.std.proofs.lemmas.Bool.{ne_eqb, eq-eqb, true≢false}
use Rattle.bt_machine_checks.proofs.Machine.{Digest, Frame, message_frame, Note, NowMarked, Complete, PeerState, EngineState, DeviceCalls, with_peer, new_complete_files, IsRangeOf, Sent, Output, Effect, sent_to, haves, HasPutEffect, HandlesPiece, stale, arrives, KeepsPeer, Closes, Answer, Stepped, sent_by, NotedBy, output_of, IsOnlyPeer}
use Rattle.bt_machine.specs.Arrival.{cancels}
use Rattle.bt_machine.specs.Blocks.{is_asked}
use Rattle.bt_machine.specs.declared.answer.Note.TheVariants.{Waiting as NowWaiting}
use Rattle.bt_machine_checks.specs.AnswerLaw.{Sends}
use Rattle.bt_machine_checks.specs.AnswerDue.{NotesStored, IsOtherAsker, NextCancelsStoredBlock}
use Rattle.bt_machine.proofs.Lists.{some_is, same_some, and_true, here, contains_none, contains_cases, contains_filter, filter_contains, contains_map, map_contains, contains_flat_map, set_other}
use Rattle.bt_machine.proofs.Pairs.{contains_set, contains_some, some_at}
use Rattle.bt_machine.proofs.Askers.{is_asked_has, has_is_asked}
use Rattle.bt_meta.specs.Law.{RangeIsPlace}
use Rattle.bt_machine.proofs.Places.{RangesTell, ranges_tell}
use Rattle.bt_machine_checks.proofs.AnswerParts.{part_of}
use Rattle.bt_machine_checks.proofs.AnswerSends.{frame_to, follows_of}
use Rattle.bt_machine_checks.proofs.AnswerBlocks.{noted_with}
use Rattle.bt_machine_checks.proofs.AnswerDue.{Taken, no_room, goes, shuts, step_taken, sent_with}

-- ---- the peers but one

others_stay : (peers : List PeerState) (i : ℕ) {p : PeerState} (q : PeerState) {x : PeerState} → slice_get peers i ≡ Some p → Contains peers x
    → x.key.0 ≢ p.key.0 → Contains (slice_set peers i q) x
others_stay peers i q {x} at c apart =
    let j = some_at peers c in
    let elsewhere : j.0 ≢ i = λ e. apart (ap (λ (y : PeerState). y.key.0) (same_some (ap (slice_get peers) (sym e) ∙ j.1) at)) in
    contains_some (slice_set peers i q) j.0 (set_other peers i j.0 q elsewhere ∙ j.1)

others_were : (peers : List PeerState) (i : ℕ) (q : PeerState) {x : PeerState} → Contains (slice_set peers i q) x → x.key.0 ≢ q.key.0 → Contains peers x
others_were peers i q c apart = elim (contains_set peers i c) [
  | inl same ↦ absurd (apart (ap (λ (y : PeerState). y.key.0) same))
  | inr j ↦ contains_some peers j.0 j.2
]

both_true : (a b : Bool) → a ≡ true → b ≡ true → (a && b) ≡ true
both_true true true e f = refl
both_true true false e f = f
both_true false b e f = e

not_same : (m n : ℕ) → not (m == n) ≡ true → m ≢ n
not_same m n e same = absurd (true≢false (sym e ∙ ap not (eqb_same m n same)))
  where
    eqb_same : (m n : ℕ) → m ≡ n → (m == n) ≡ true
    eqb_same m n e = eq-eqb m n e

abbrev cancelled_in : Frame → Ask
cancelled_in (message_frame (Cancel ask)) = ask
cancelled_in _ = record { piece = 0; begin = 0; length = 0 }

-- ---- what is said of a block that was put

abbrev says_stored : Note → Bool
says_stored (NowMarked b) = true
says_stored (NowWaiting b) = true
says_stored _ = false

data PutSays (b : BlockId) (sent : List Sent) (effect : Effect) : Type 0 where
  stored : effect.send ≡ sent → effect.close ≡ None → Contains effect.notes (NowMarked b) ⊎ Contains effect.notes (NowWaiting b) → PutSays b sent effect
  not_stored : effect.send ≡ [] → ((note : Note) → says_stored note ≡ true → ¬ Contains effect.notes note) → PutSays b sent effect

put_says : (b : BlockId) (sent : List Sent) (r : Result Put StoreError) {effect : Effect} → HasPutEffect b sent r effect → PutSays b sent effect
put_says b sent (Ok PutMarked) e = stored (ap (λ x. x.send) e) (ap (λ x. x.close) e) (inl (rw (ap (λ x. x.notes) e) (here [] refl)))
put_says b sent (Ok PutWaiting) e = stored (ap (λ x. x.send) e) (ap (λ x. x.close) e) (inr (rw (ap (λ x. x.notes) e) (here [] refl)))
put_says b sent (Ok Wrong) e = not_stored (ap (λ x. x.send) e) (λ note is c. contains_none (subst (λ l. Contains l note) (ap (λ x. x.notes) e) c))
put_says b sent (Err DeviceFault) e = not_stored (ap (λ x. x.send) e) (λ note is c. elim (contains_cases [] (subst (λ l. Contains l note) (ap (λ x. x.notes) e) c)) [
  | inl same ↦ true≢false (sym is ∙ ap says_stored (sym same))
  | inr none ↦ contains_none none
])
put_says b sent (Ok Already) e = absurd e
put_says b sent (Err Range) e = absurd e

no_cancel_in_haves : (s t : EngineState) (other : PeerKey) (ask : Ask) → ¬ Contains (haves s t) (frame_to other (Cancel ask))
no_cancel_in_haves s t other ask c =
    let piece = contains_flat_map (λ piece. map (λ p. sent_to p (Have piece)) t.peers) _ c in
    let peer = contains_map (λ p. sent_to p (Have piece.0)) t.peers piece.2 in
    let same = ap (λ x. part_of x.1) peer.2 in
    absurd cc

-- ---- the event

module _ (dig : Digest) (s new : EngineState) (key : PeerKey) (i : ℕ) (p : PeerState) (calls : DeviceCalls) (a : Answer) (piece begin : ℕ) (bytes : List ℕ) (rest : Stream) (b : BlockId)
    (one : IsOnlyPeer s key i p) (whole : IsRangeOf s.torrent piece begin (length bytes) b) (asked : Contains p.asked b) (tell : RangesTell s.torrent) where
  abbrev q : PeerState
  q = record p { stream = rest }

  abbrev t : EngineState
  t = with_peer s i q

  abbrev range : Ask
  range = record { piece = piece; begin = begin; length = length bytes }

  abbrev is_other : PeerState → Bool
  is_other x = not (x.key.0 == q.key.0) && is_asked b x

  key_is : p.key.0 ≡ key.0
  key_is = ap (λ (k : PeerKey). k.0) one.is_peer.same_key

  cancelled : (other : PeerKey) (ask : Ask) → Contains (cancels t q range b) (frame_to other (Cancel ask))
      → (ask ≡ range) × IsOtherAsker s key b other
  cancelled other ask c =
      let x = contains_map (λ x. sent_to x (Cancel range)) (filter is_other t.peers) c in
      let passes = contains_filter is_other t.peers x.1 in
      let both = and_true (not (x.0.key.0 == q.key.0)) passes.1 in
      let apart : x.0.key.0 ≢ p.key.0 = not_same _ _ both.0 in
      let to : x.0.key ≡ other = ap (λ (y : Sent). y.0) x.2 in (
        sym (ap (λ (y : Sent). cancelled_in y.1) x.2),
        record {
          peer = x.0;
          connected = others_were s.peers i q passes.0 apart;
          same_key = to;
          apart = λ e. apart (ap (λ (k : PeerKey). k.0) to ∙ e ∙ sym key_is);
          asked = is_asked_has b x.0 both.1;
        },
      )

  cancels_other : (other : PeerKey) → IsOtherAsker s key b other → Contains (cancels t q range b) (frame_to other (Cancel range))
  cancels_other other o =
      let apart : o.peer.key.0 ≢ p.key.0 = λ e. o.apart (sym (ap (λ (k : PeerKey). k.0) o.same_key) ∙ e ∙ key_is) in
      let there = others_stay s.peers i q one.is_peer.here o.connected apart in
      let passes = filter_contains is_other t.peers there (both_true _ _ (ap not (ne_eqb o.peer.key.0 p.key.0 apart)) (has_is_asked b o.peer o.asked)) in
      subst (λ k. Contains (cancels t q range b) (frame_to k (Cancel range))) o.same_key
      (map_contains (λ x. sent_to x (Cancel range)) (filter is_other t.peers) passes)

  said : {effect : Effect} {mid : EngineState} → HandlesPiece dig t i q piece begin bytes calls effect mid → PutSays b (cancels t q range b) effect
  said (stale none x y z) = absurd (none b whole asked)
  said {effect} (arrives r) =
      subst (λ c. PutSays c (cancels t q range c) effect) (tell.block r.whole whole)
      (put_says r.block (cancels t q range r.block) r.puts.result r.puts.has_effect)

  noted_in : {out : Output} {note : Note} → a ≡ Stepped (Ok (Some out)) → NotedBy a note → Contains out.notes note
  noted_in {note = note} is n = subst (λ (o : Output). Contains o.notes note) (some_is (sym n.1 ∙ ap output_of is)) n.2

  -- a stored block is noted so by the event itself
  noted_by_event : {out : Output} (g : KeepsPeer dig s i p calls out new) (note : Note) → says_stored note ≡ true → Contains out.notes note
      → Contains g.effect.notes note
  noted_by_event g note is c =
      elim (Contains-append_cases g.effect.notes (map (λ file. Complete file) (new_complete_files s g.handled)) note (subst (λ l. Contains l note) g.notes c)) [
        | inl own ↦ own
        | inr complete ↦ (
            let file = contains_map (λ file. Complete file) (new_complete_files s g.handled) complete in
            absurd (true≢false (sym is ∙ ap says_stored (sym file.2))))
      ]

  stored_noted : {P : Type 0} → NotesStored a b → ((note : Note) → says_stored note ≡ true → NotedBy a note → P) → P
  stored_noted noted use_it = elim noted [ inl n ↦ use_it (NowMarked b) refl n | inr n ↦ use_it (NowWaiting b) refl n ]

  abbrev Owed : PeerKey → Ask → Type 0
  Owed other ask = NotesStored a b × (ask ≡ range) × IsOtherAsker s key b other

  owed : (other : PeerKey) (ask : Ask) {out : Output} (g : KeepsPeer dig s i p calls out new) → a ≡ Stepped (Ok (Some out))
      → PutSays b (cancels t q range b) g.effect → Contains g.effect.send (frame_to other (Cancel ask)) → Owed other ask
  owed other ask g is (stored e open_still noted) c =
      let r = cancelled other ask (subst (λ l. Contains l (frame_to other (Cancel ask))) e c) in
      (elim noted [ inl m ↦ inl (noted_with g is _ m) | inr w ↦ inr (noted_with g is _ w) ], r.0, r.1)
  owed other ask g is (not_stored e none) c = absurd (contains_none (subst (λ l. Contains l (frame_to other (Cancel ask))) e c))

  to : (other : PeerKey) (ask : Ask) → Taken dig s i p (Message (Piece piece begin bytes)) rest calls a new → Sends a other (Cancel ask) → Owed other ask
  to other ask (no_room e) c = absurd (contains_none (subst (λ l. Contains l (frame_to other (Cancel ask))) (ap sent_by e) c))
  to other ask (shuts out g h is) c =
      absurd (contains_none (subst (λ l. Contains l (frame_to other (Cancel ask))) (ap sent_by is ∙ ap (λ (o : Output). o.send) g.is) c))
  to other ask (goes out g h is) c =
      let x = frame_to other (Cancel ask) in
      elim (Contains-append_cases (g.effect.send ++ haves s g.handled) g.sent x (subst (λ l. Contains l x) (ap sent_by is ∙ g.send) c)) [
        | inl front ↦ elim (Contains-append_cases g.effect.send (haves s g.handled) x front) [
          | inl own ↦ owed other ask g is (said h) own
          | inr have ↦ absurd (no_cancel_in_haves s g.handled other ask have)
        ]
        | inr more ↦ absurd ((follows_of g.follows).no_cancel other ask more)
      ]

  sent_so : (other : PeerKey) (ask : Ask) {out : Output} (g : KeepsPeer dig s i p calls out new) → a ≡ Stepped (Ok (Some out))
      → PutSays b (cancels t q range b) g.effect → Owed other ask → Sends a other (Cancel ask)
  sent_so other ask g is (stored e open_still noted) z =
      rw z.1 (sent_with g is (subst (λ l. Contains l (frame_to other (Cancel range))) (sym e) (cancels_other other z.2)))
  sent_so other ask g is (not_stored e none) z =
      stored_noted z.0 (λ note yes n. absurd (none note yes (noted_by_event g note yes (noted_in is n))))

  shut_so : {P : Type 0} {out : Output} (g : Closes dig s i p calls out new) → a ≡ Stepped (Ok (Some out))
      → PutSays b (cancels t q range b) g.effect → NotesStored a b → P
  shut_so g is (stored e open_still noted) z = absurd (let no : Some g.why ≡ None = sym g.closed ∙ open_still in cc)
  shut_so g is (not_stored e none) z =
      stored_noted z (λ note yes n. absurd (none note yes (subst (λ l. Contains l note) (ap (λ (o : Output). o.notes) g.is) (noted_in is n))))

  from : (other : PeerKey) (ask : Ask) → Taken dig s i p (Message (Piece piece begin bytes)) rest calls a new → Owed other ask → Sends a other (Cancel ask)
  from other ask (no_room e) z = stored_noted z.0 (λ note yes n. absurd (let no : None ≡ Some n.0 = sym (ap output_of e) ∙ n.1 in cc))
  from other ask (shuts out g h is) z = shut_so g is (said h) z.0
  from other ask (goes out g h is) z = sent_so other ask g is (said h) z

pub next_cancels : (dig : Digest) → RangeIsPlace → NextCancelsStoredBlock dig
next_cancels dig law s new key i p calls a piece begin bytes rest b lawful one takes whole asked step other ask =
    let tell = ranges_tell law s.torrent lawful.piece lawful.laid_out in
    let taken = step_taken dig new calls one takes step in (
      to dig s new key i p calls.devices a piece begin bytes rest b one whole asked tell other ask taken,
      from dig s new key i p calls.devices a piece begin bytes rest b one whole asked tell other ask taken,
    )
