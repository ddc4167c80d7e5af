-- The parts of what is sent, and what a wire event leaves of the engine and its peer.
use Rattle.bt_machine_checks.proofs.Base.{[], ◌≡◌, ℕ, inl, inr, Bool, true, false, not, List, ◌∷◌, ◌++◌, map, Some, Result, Ok, Err, refl, sym, ap, ◌∙◌, slice_get, slice_set, Contains, if◌then◌else◌, Contains-append_cases, HashKey, BlockRead, given, failed, is_right, states_after_put, StoreError, DeviceFault, Put, Wrong, PutMarked, PutWaiting, BlockId, is_block, PeerMessage, KeepAlive, Choke, Unchoke, Interested, NotInterested, Have, Bitfield, Request, Piece, Cancel, HashRequest, Hashes, HashReject, Hello, Message, Skipped}
use Rattle.bt_machine_checks.proofs.Machine.{Digest, Frame, hello_frame, message_frame, Note, Device, Complete, Why, Idle, Asked, Refused, PeerState, FileState, EngineState, with_file, with_peer, with_tree, file_numbers, Sent, Effect, no_effect, noting, closing, sending, FindsFault, damaged, fault, HandlesRequest, ignored, no_place, not_marked, served, stopped, HasPutEffect, Arrives, HandlesPiece, stale, arrives, settling_notes, read_note, HandlesHashRequest, answered, rejected, HandlesHashes, unknown_root, no_claim, refused, accepts_hashes, new_proofs, Resolves, resolved as ours_asked, other_asked, HandlesHello, ours, other, HandlesHave, in_range, out_of_range, HandlesBitfield, right, wrong, HandlesMessage, Handles, interest_sent, RequestsHashes, requests, rests, RequestsEach}
use Rattle.bt_wire.specs.declared.message.Ask.{Ask}
use Rattle.bt_machine.specs.Arrival.{cancels}
use Rattle.bt_machine.specs.Output.{sent_to}
use Rattle.bt_machine.proofs.Lists.{contains_none, contains_cases, contains_filter, contains_map, contains_flat_map, set_id}

-- ---- parts of what is sent

-- what sends a frame
pub data Part : Type 0 where
  greets : Part
  replies : Part
  announces : Part
  interests : Part
  chokes : Part
  hashes : Part
  asks : Part

abbrev pub part_of_message : PeerMessage → Part
part_of_message (Piece piece begin bytes) = replies
part_of_message (Hashes key digests) = replies
part_of_message (HashReject key) = replies
part_of_message (Cancel ask) = replies
part_of_message (Have piece) = announces
part_of_message Interested = interests
part_of_message NotInterested = interests
part_of_message Choke = chokes
part_of_message Unchoke = chokes
part_of_message (HashRequest key) = hashes
part_of_message (Request ask) = asks
part_of_message _ = greets

abbrev pub part_of : Frame → Part
part_of (hello_frame h) = greets
part_of (message_frame m) = part_of_message m

-- all of them are sent by this part
abbrev pub AllOf : Part → List Sent → Type 0
AllOf part xs = (x : Sent) → Contains xs x → part_of x.1 ≡ part

pub all_none : (part : Part) → AllOf part []
all_none part x c = absurd (contains_none c)

pub all_one : {part : _} (x : Sent) (xs : _) → part_of x.1 ≡ part → AllOf part xs → AllOf part (x ∷ xs)
all_one x xs e rest y c = elim (contains_cases xs c) [ inl same ↦ ap (λ s. part_of s.1) (sym same) ∙ e | inr more ↦ rest y more ]

pub all_is : (part : Part) {xs ys : _} → xs ≡ ys → AllOf part ys → AllOf part xs
all_is part e f = rw e f

pub all_interest : (p : _) (was now : Bool) → AllOf interests (interest_sent p was now)
all_interest p true true = all_none interests
all_interest p false false = all_none interests
all_interest p _ _ = all_one _ [] refl (all_none interests)

pub all_hashes : {dig s p q sent : _} → RequestsHashes dig s p sent q → AllOf hashes sent
all_hashes (requests b k key x y z w e f) = all_is _ e (all_one _ [] refl (all_none _))
all_hashes (rests x e y) = all_is _ e (all_none _)

pub all_asks : (s p blocks sent : _) → RequestsEach s p blocks sent → AllOf asks sent
all_asks s p [] sent r = all_is asks r (all_none asks)
all_asks s p (b ∷ blocks) sent r =
    all_is asks r.4 (all_one r.0 r.1 (cc) (all_asks s p blocks r.1 r.3))

-- where a frame that follows from an event stands
pub data IsFollowing (interest hash block : List Sent) (x : Sent) : Type 0 where
  in_interest : Contains interest x → IsFollowing interest hash block x
  in_hash : Contains hash x → IsFollowing interest hash block x
  in_block : Contains block x → IsFollowing interest hash block x

pub following : {interest hash block sent x : _} → sent ≡ interest ++ hash ++ block → Contains sent x → IsFollowing interest hash block x
following {interest} {hash} {block} {x} e c =
    elim (Contains-append_cases (interest ++ hash) block x (rw (← e) c)) [
      | inl front ↦ elim (Contains-append_cases interest hash x front) [ inl one ↦ in_interest one | inr two ↦ in_hash two ]
      | inr three ↦ in_block three
    ]

-- ---- what a wire event leaves

abbrev pub is_complete_note : Note → Bool
is_complete_note (Complete file) = true
is_complete_note _ = false

-- none of them notes a complete file
abbrev pub NoComplete : List Note → Type 0
NoComplete notes = (note : Note) → Contains notes note → is_complete_note note ≡ false

none_noted : NoComplete []
none_noted note c = absurd (contains_none c)

one_noted : (note : Note) → is_complete_note note ≡ false → NoComplete (note ∷ [])
one_noted note e noted c = elim (contains_cases [] c) [ inl same ↦ ap is_complete_note (sym same) ∙ e | inr none ↦ absurd (contains_none none) ]

-- what is sent, and what is noted
record IsQuiet (effect : Effect) : Type 0 where
  replied : AllOf replies effect.send
  noted : NoComplete effect.notes

-- the peer is asked for nothing that it was not asked for before
pub record AsksLess (p q : PeerState) : Type 0 where
  pub blocks : (b : BlockId) → Contains q.asked b → Contains p.asked b
  pub hashes : (k : HashKey) → q.hash ≡ Asked k → p.hash ≡ Asked k

pub asks_same : {p q : PeerState} → q.asked ≡ p.asked → q.hash ≡ p.hash → AsksLess p q
asks_same asked hash = record { blocks = λ b c. rw (← asked) c; hashes = λ k e. sym hash ∙ e }

-- an answer to a hash request asks for none
resolved : {key next old new : _} → ((k : HashKey) → next ≡ Asked k → ⊥) → Resolves key next old new → (k : _) → new ≡ Asked k
    → old ≡ Asked k
resolved never (ours_asked x e) k f = absurd (never k (cc))
resolved never (other_asked x e) k f = cc

never_idle : (k : _) → Idle ≡ Asked k → ⊥
never_idle k e = cc

never_refused : (k : _) → Refused ≡ Asked k → ⊥
never_refused k e = cc

-- Its peer keeps its key and our side's flags, and the files change only where it stays.
pub record Leaves (s : EngineState) (i : ℕ) (p : PeerState) (effect : Effect) (mid : EngineState) : Type 0 where
  pub peer : PeerState
  pub same_key : peer.key ≡ p.key
  pub same_interest : peer.am_interested ≡ p.am_interested
  pub same_choke : peer.am_choking ≡ p.am_choking
  pub asks_less : AsksLess p peer
  pub torrent : mid.torrent ≡ s.torrent
  pub replied : AllOf replies effect.send
  pub noted : NoComplete effect.notes
  pub closed : (why : Why) → effect.close ≡ Some why → mid.files ≡ s.files

module _ (dig : Digest) (s : EngineState) (i : ℕ) {p : PeerState} (at : slice_get s.peers i ≡ Some p) where
  -- the peer is another
  sets : {q : PeerState} {e effect mid : _} → q.key ≡ p.key → q.am_interested ≡ p.am_interested → q.am_choking ≡ p.am_choking → IsQuiet e → effect ≡ e
      → mid ≡ with_peer s i q → AsksLess p q → Leaves s i p effect mid
  sets {q} {e} {mid} k f g quiet same after less = rw same (rw after (record {
    peer = q;
    same_key = k;
    same_interest = f;
    same_choke = g;
    asks_less = less;
    torrent = refl;
    replied = quiet.replied;
    noted = quiet.noted;
    closed = λ why c. refl;
  }))

  -- nothing changes
  stays : {e effect mid : _} → IsQuiet e → effect ≡ e → mid ≡ s → Leaves s i p effect mid
  stays {e} {mid} quiet same after = rw same (rw after (record {
    peer = p;
    same_key = refl;
    same_interest = refl;
    same_choke = refl;
    asks_less = asks_same refl refl;
    torrent = refl;
    replied = quiet.replied;
    noted = quiet.noted;
    closed = λ why c. refl;
  }))

  -- a file is another, and the peer stays connected
  changes_file : (file f : _) {e effect mid : _} → IsQuiet e → ((why : Why) → e.close ≡ Some why → ⊥) → effect ≡ e → mid ≡ with_file s file f
      → Leaves s i p effect mid
  changes_file file f {e} {mid} quiet open_still same after = rw same (rw after (record {
    peer = p;
    same_key = refl;
    same_interest = refl;
    same_choke = refl;
    asks_less = asks_same refl refl;
    torrent = refl;
    replied = quiet.replied;
    noted = quiet.noted;
    closed = λ why c. absurd (open_still why c);
  }))

  silent : IsQuiet no_effect
  silent = record { replied = all_none _; noted = none_noted }

  closes_quietly : (why : Why) → IsQuiet (closing why)
  closes_quietly why = record { replied = all_none _; noted = none_noted }

  notes_quietly : (note : Note) → is_complete_note note ≡ false → IsQuiet (noting note)
  notes_quietly note e = record { replied = all_none _; noted = one_noted note e }

  replies_quietly : (m : PeerMessage) → part_of_message m ≡ replies → IsQuiet (sending p m)
  replies_quietly m e = record { replied = all_one _ [] e (all_none _); noted = none_noted }

  have_leaves : {mid piece effect : _} → HandlesHave s i p piece effect mid → Leaves s i p effect mid
  have_leaves (in_range x e y) = sets refl refl refl silent e y (asks_same refl refl)
  have_leaves (out_of_range x e y) = stays (closes_quietly _) e y

  bits_leaves : {mid bytes effect : _} → HandlesBitfield s i p bytes effect mid → Leaves s i p effect mid
  bits_leaves (right x e y) = sets refl refl refl silent e y (asks_same refl refl)
  bits_leaves (wrong x e y) = stays (closes_quietly _) e y

  fault_leaves : {k mid file j f read effect : _} → FindsFault dig k s file j f read effect mid → Leaves s i p effect mid
  fault_leaves {file} (damaged bytes x y e z) = changes_file file _ (notes_quietly _ refl) (λ why c. absurd cc) e z
  fault_leaves (fault x e y) = stays (notes_quietly _ refl) e y

  request_leaves : {mid ask calls effect : _} → HandlesRequest dig s i p ask calls effect mid → Leaves s i p effect mid
  request_leaves (ignored a c e d) = stays silent e d
  request_leaves (no_place a c d e f) = stays (closes_quietly _) e f
  request_leaves (not_marked span a c d f e g) = stays silent e g
  request_leaves (served span a place c f) =
      sets refl refl refl (replies_quietly _ refl) f.sent f.after (asks_same refl refl)
  request_leaves (stopped span a c d f) = fault_leaves f.finds

  -- a block was put: its file may change, where the peer stays connected
  put_leaves : (b : BlockId) {file : FileState} {q : PeerState} (r : Result Put StoreError) (states : _) (sent : List Sent) (told : List PeerState)
      {effect : Effect} {stored mid : EngineState}
      → slice_get s.files b.file ≡ Some file → q.key ≡ p.key → q.am_interested ≡ p.am_interested → q.am_choking ≡ p.am_choking → AsksLess p q
      → AllOf replies sent → HasPutEffect b sent r effect
      → (r ≡ Ok Wrong → states ≡ file.states)
      → stored ≡ record (with_file s b.file (record file { states = states })) { peers = told } → mid ≡ with_peer stored i q → Leaves s i p effect mid
  put_leaves b {file} {q} r states sent told {effect} there k f g less cancelled has same is after =
      rw (after ∙ ap (λ x. with_peer x i q) is) (of_effect r has same)
    where
      leaves : {e : _} → IsQuiet e → ((why : Why) → e.close ≡ Some why → states ≡ file.states) → effect ≡ e
          → Leaves s i p effect (with_peer (record (with_file s b.file (record file { states = states })) { peers = told }) i q)
      leaves quiet kept same_effect = rw same_effect (record {
        peer = q;
        same_key = k;
        same_interest = f;
        same_choke = g;
        asks_less = less;
        torrent = refl;
        replied = quiet.replied;
        noted = quiet.noted;
        closed = λ why c. ap (λ l. slice_set s.files b.file (record file { states = l })) (kept why c) ∙ set_id _ _ there;
      })

      stores : (note : Note) → is_complete_note note ≡ false → IsQuiet (record (noting note) { send = sent })
      stores note e = record { replied = cancelled; noted = one_noted note e }

      of_effect : (r : Result Put StoreError) → HasPutEffect b sent r effect → (r ≡ Ok Wrong → states ≡ file.states)
          → Leaves s i p effect (with_peer (record (with_file s b.file (record file { states = states })) { peers = told }) i q)
      of_effect (Ok PutMarked) e same = leaves (stores _ refl) (λ why c. absurd cc) e
      of_effect (Ok PutWaiting) e same = leaves (stores _ refl) (λ why c. absurd cc) e
      of_effect (Ok Wrong) e same = leaves (closes_quietly _) (λ why c. same refl) e
      of_effect (Err DeviceFault) e same = leaves (notes_quietly _ refl) (λ why c. absurd cc) e
      of_effect _ e same = absurd e

  cancels_reply : (ask : Ask) (b : BlockId) → AllOf replies (cancels s p ask b)
  cancels_reply ask b x c = let q = contains_map (λ q. sent_to q (Cancel ask)) _ c in ap (λ y. part_of y.1) (sym q.2)

  arrives_leaves : {mid piece begin bytes calls effect : _} → Arrives dig s i p piece begin bytes calls effect mid → Leaves s i p effect mid
  arrives_leaves a =
      put_leaves _ _
      _ _ _ a.puts.is_file.here refl refl refl
      (record { blocks = λ b c. (contains_filter (λ d. not (is_block a.block d)) _ c).0; hashes = λ k e. e }) (cancels_reply _ a.block) a.puts.has_effect
      (λ e. ap (λ r. states_after_put a.block.block r a.puts.file.states) e) a.puts.after a.after

  piece_leaves : {mid piece begin bytes calls effect : _} → HandlesPiece dig s i p piece begin bytes calls effect mid → Leaves s i p effect mid
  piece_leaves (stale x y e z) = stays (notes_quietly _ refl) e z
  piece_leaves (arrives a) = arrives_leaves a

  read_noted : (k file : _) (read : BlockRead) → is_complete_note (read_note dig k file read) ≡ false
  read_noted k file (given j bytes) = by _ refl
    where
      by : (b : Bool) → is_right dig k j bytes ≡ b → is_complete_note (read_note dig k file (given j bytes)) ≡ false
      by true e = rw e refl
      by false e = rw e refl
  read_noted k file (failed j) = refl

  settling_noted : (k file reads : _) → NoComplete (settling_notes dig k file reads)
  settling_noted k file reads note c =
      elim (Contains-append_cases (map (read_note dig k file) reads) _ note c) [
        | inl one ↦ let r = contains_map _ reads one in ap is_complete_note (sym r.2) ∙ read_noted k file r.0
        | inr more ↦ by_fault _ more
      ]
    where
      by_fault : (b : Bool) → Contains (if b then Device file ∷ [] else []) note → is_complete_note note ≡ false
      by_fault true c = one_noted _ refl note c
      by_fault false c = absurd (contains_none c)

  hashes_leaves : {mid key digests calls effect : _} → HandlesHashes dig s i p key digests calls effect mid → Leaves s i p effect mid
  hashes_leaves (unknown_root x y e z) = stays (closes_quietly _) e z
  hashes_leaves (no_claim f x y c) = stays (closes_quietly _) c.has_effect c.after
  hashes_leaves (refused f t k c x y z g) = stays (closes_quietly _) g.has_effect g.after
  hashes_leaves {mid} {key} {digests} (accepts_hashes l) =
      let like : Effect = record no_effect { notes = l.notes; proofs = new_proofs key digests l.old l.new } in
      let noted : NoComplete l.notes = λ note c.
      let r = contains_flat_map (λ file. settling_notes dig l.settles.facts file (l.settles.reads file)) (file_numbers (with_tree s l.tree l.new)) (rw (← l.settles.noted) c) in
      settling_noted l.settles.facts r.0 (l.settles.reads r.0) note r.2 in
      let settled = l.settles.others in
      rw l.has_effect (rw (l.after ∙ ap (λ x. with_peer x i (record p { hash = l.hash })) settled) (record {
        peer = record p { hash = l.hash };
        same_key = refl;
        same_interest = refl;
        same_choke = refl;
        asks_less = record { blocks = λ b c. c; hashes = resolved {next = Idle} never_idle l.resolves };
        torrent = refl;
        replied = all_none replies;
        noted = noted;
        closed = λ why c. absurd cc;
      }))

  answer_leaves : {mid key effect : _} → HandlesHashRequest dig s p key effect → mid ≡ s → Leaves s i p effect mid
  answer_leaves (answered digests x e) after = stays (replies_quietly _ refl) e after
  answer_leaves (rejected x e) after = stays (replies_quietly _ refl) e after

  message_leaves : {mid : _} (m : PeerMessage) (calls : _) {effect : _} → HandlesMessage dig s i p m calls effect mid → Leaves s i p effect mid
  message_leaves KeepAlive calls h = stays silent h.1 h.2
  message_leaves Choke calls h =
      sets refl refl refl silent h.1 h.2 (record { blocks = λ b c. absurd (contains_none c); hashes = λ k e. e })
  message_leaves (Have piece) calls h = have_leaves h.1
  message_leaves (Bitfield bytes) calls h = bits_leaves h.1
  message_leaves (Request ask) calls h = request_leaves h
  message_leaves (Piece piece begin bytes) calls h = piece_leaves h
  message_leaves (Cancel ask) calls h = stays silent h.1 h.2
  message_leaves (HashRequest key) calls h = answer_leaves h.1 h.2
  message_leaves (Hashes key digests) calls h = hashes_leaves h
  message_leaves (HashReject key) calls h =
      sets refl refl refl silent h.1 h.2.after
      (record { blocks = λ b c. c; hashes = resolved never_refused h.2.resolves })
  message_leaves _ calls h = sets refl refl refl silent h.1 h.2 (asks_same refl refl)

  hello_leaves : {mid h effect : _} → HandlesHello s h effect → mid ≡ s → Leaves s i p effect mid
  hello_leaves (ours x e) after = stays silent e after
  hello_leaves (other x e) after = stays (closes_quietly _) e after

  pub event_leaves : {mid : _} (e calls : _) {effect : _} → Handles dig s i p e calls effect mid → Leaves s i p effect mid
  event_leaves (Hello h) calls t = hello_leaves t.1 t.2
  event_leaves (Message m) calls t = message_leaves m calls t
  event_leaves (Skipped kind) calls t = stays silent t.1 t.2
