-- What a fetch and a seed come to, from the start of their torrent on.
use Rattle.std.proofs.Common.{[], ◌≡◌, ℕ, suc, ◌+◌, inl, inr, Bool, true, false, List, ◌∷◌, length, Option, Some, None, Ok, refl, sym, subst, ◌∙◌, arith}
use Rattle.std.specs.List.{count_by, list_all}
use Rattle.std.specs.Borrow.{Bor}
use Rattle.std.specs.Prelude.{◌&&◌, ◌==◌, not, if◌then◌else◌, is_some, slice_get, Contains}
use Rattle.std.proofs.lemmas.Bool.{eqb-true}
use Rattle.std.proofs.lemmas.List.Sums.{count_by-le-length, sum_by-cons}
use Rattle.bt_disk.specs.Conduct.{Conduct}
use Rattle.bt_resume.specs.ResumeLog.{LogView}
use Rattle.bt_store.specs.BlockStates.{is_marked}
use Rattle.bt_store.specs.declared.block_states.BlockState.{BlockState}
use Rattle.bt_store.specs.declared.block_states.BlockState.TheVariants.{Missing, Waiting, Marked}
use Rattle.bt_meta.specs.Files.{File}
use Rattle.bt_meta.specs.Torrent.{Metainfo, IsLawful}
use Rattle.bt_machine.specs.State.{EngineState, EngineView}
use Rattle.bt_machine.specs.Blocks.{is_complete}
use Rattle.bt_machine.specs.Report.{all_complete}
use Rattle.bt_machine.proofs.Lists.{and_true, contains_cases, contains_none, range_contains, some_below}
use Rattle.bt_engine.specs.Leads.{LeadsTo, both}
use Rattle.bt_engine.specs.WholeRuns.{HasWholeRun, WhatLeadsOnIsWhole}
use Rattle.bt_session.specs.Peer.{IsFlushedWhere}
use Rattle.bt_transfer.specs.Fetch.{EndsFetch, Fetches}
use Rattle.bt_files.specs.Report.{IsCalledComplete}
use Rattle.bt_transfer.specs.Seed.{EndsSeed, HasListened}
use Rattle.bt_files.specs.Store.{HasBegun}
use Rattle.bt_words.specs.declared.peer.Peer.{Peer}
use Rattle.bt_words.specs.declared.peer.Service.{Service}

-- ---- complete files

-- one block more adds what it counts for
count_more : (state : BlockState) (states : List BlockState)
    → count_by is_marked (state ∷ states) ≡ (if is_marked state then 1 else 0) + count_by is_marked states
count_more state states = sum_by-cons (λ x. if is_marked x then 1 else 0) state states

-- where as many blocks are marked as there are, each is
all_counted : (states : List BlockState) → count_by is_marked states ≡ length states → list_all is_marked states ≡ true
all_counted [] e = refl
all_counted (Marked ∷ states) e =
    let more : 1 + count_by is_marked states ≡ suc (length states) = sym (count_more Marked states) ∙ e in all_counted states (omega (arith, more))
all_counted (Missing ∷ states) e =
    let more : 0 + count_by is_marked states ≡ suc (length states) = sym (count_more Missing states) ∙ e in
    absurd (omega (arith, more, count_by-le-length is_marked states))
all_counted (Waiting ∷ states) e =
    let more : 0 + count_by is_marked states ≡ suc (length states) = sym (count_more Waiting states) ∙ e in
    absurd (omega (arith, more, count_by-le-length is_marked states))

-- a file whose line begins with `complete` is complete
called_complete : (torrent : Metainfo) (s : EngineState) (number : ℕ) (file : File) → IsCalledComplete torrent s number file
    → is_complete s number ≡ true
called_complete torrent s number file called =
    let states = called.state.states in
    let counts : (count_by is_marked states == length states) ≡ true =
    (and_true (count_by is_marked states == length states) (and_true (count_by is_marked states == length states && not false) called.called).0).0 in
    rw called.here (all_counted states (eqb-true (count_by is_marked states) (length states) counts))

all_contained : {X : Type 0} (p : X → Bool) (xs : List X) {x : X} → list_all p xs ≡ true → Contains xs x → p x ≡ true
all_contained p [] all c = absurd (contains_none c)
all_contained p (y ∷ xs) all c =
    let both_hold = and_true (p y) all in
    elim (contains_cases xs c) [ inl here ↦ subst (λ z. p z ≡ true) here both_hold.0 | inr later ↦ all_contained p xs both_hold.1 later ]

-- where all files are complete, each is
each_complete : (s : EngineState) (number : ℕ) → all_complete s ≡ true → is_complete s number ≡ true
each_complete s number all = by (slice_get s.files number) refl
  where
    by : (found : Option _) → slice_get s.files number ≡ found → is_complete s number ≡ true
    by None e = rw e refl
    by (Some f) e = all_contained (is_complete s) _ all (range_contains (length s.files) (some_below s.files number e))

-- status 0 tells that all files are complete
zero_is_complete : (complete : Bool) (status : ℕ) → status ≡ (if complete then 0 else 1) → status ≡ 0 → complete ≡ true
zero_is_complete true status told zero = refl
zero_is_complete false status told zero = absurd (omega (arith, told, zero))

module _ {D : Type 0} (conduct : Conduct D) (dig : List ℕ → List ℕ)
    (promises : WhatLeadsOnIsWhole conduct dig) (old last : EngineView D)
    (lawful : IsLawful old.state.torrent.piece_length old.state.torrent.files) (leads : LeadsTo conduct dig old last)
    (before after : Option (List ℕ)) (status : ℕ) (torrent : Metainfo) (given : List D) (attached : Option (LogView D)) (filled : List Bool)
    (begun : HasBegun conduct dig torrent given attached filled old) where
  whole_run : HasWholeRun begun.begins last
  whole_run = promises torrent given begun.placed attached begun.first last begun.begins (subst (λ (t : Metainfo). IsLawful t.piece_length t.files) begun.same lawful)
      begun.devices (both begun.first old last begun.run leads)

  -- the status tells whether all files are complete
  fetched_told : (are_together : Bool) (peers : List Peer) (log : Option (Bor (List ℕ))) (ready : EngineView D)
      → Fetches conduct dig are_together peers log ready before after status last → status ≡ (if all_complete last.state then 0 else 1)
  fetched_told false peers log ready fetched = fetched.fetched.end.told
  fetched_told true peers log ready fetched = fetched.end.told

  pub ends_fetch : (are_together : Bool) (peers : List Peer) (log : Option (Bor (List ℕ))) (ready : EngineView D)
      → IsFlushedWhere conduct dig (is_some log) old (Ok tt) ready → Fetches conduct dig are_together peers log ready before after status last
      → EndsFetch begun.begins old are_together peers log before after status
  ends_fetch are_together peers log ready flushed fetched =
      let found = whole_run in
      let whole = found.promised in record {
        ready = ready;
        flushed = flushed;
        last = last;
        fetched = fetched;
        whole = found;
        reported = λ number file called. whole.complete number file called.listed (called_complete torrent last.state number file called);
        published = λ number file disk called there.
            whole.published number file disk called.listed (called_complete torrent last.state number file called) there;
        complete = λ zero number file listed. whole.complete number file listed
            (each_complete last.state number (zero_is_complete (all_complete last.state) status (fetched_told are_together peers log ready fetched) zero));
      }

  pub ends_seed : (service : Service) → HasListened conduct dig service old before after last → status ≡ 0
      → EndsSeed begun.begins old service before after status
  ends_seed service listened done = record { last = last; listened = listened; whole = whole_run; done = done }
