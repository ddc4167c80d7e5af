-- What is said of a peer with streams is said of it by the bytes of these streams.
use Rattle.std.proofs.Common.{◌≡◌, ℕ, Bool, true, List, Option, Some, None, Result, Ok, refl, sym, subst}
use Rattle.std.specs.Borrow.{Bor}
use Rattle.std.specs.Prelude.{⊤, All, IfSome}
use Rattle.std.proofs.lemmas.List.Elements.{All-map}
use Rattle.bt_disk.specs.Conduct.{Conduct}
use Rattle.bt_machine.specs.State.{EngineView}
use Rattle.bt_machine.specs.declared.error.FlushError.{FlushError}
use Rattle.bt_session.specs.declared.flushing.Flushing.{Flushing}
use Rattle.bt_session.specs.declared.flushing.Flushing.TheVariants.{Never}
use Rattle.bt_session.specs.declared.peer_end.PeerEnd.{PeerEnd}
use Rattle.bt_session.specs.declared.peer_end.PeerEnd.TheVariants.{Untried, Unreachable, Refused, Session}
use Rattle.bt_session.specs.Peer.{EndsAs}
use Rattle.bt_session.specs.Peers.{IsDialled}
use Rattle.bt_connection.specs.ShortBlocks.{short_blocks_of}
use Rattle.bt_meta.specs.Torrent.{Metainfo, total_pieces}
use Rattle.bt_sockets.specs.Link.{Dials, undialled}
use Rattle.bt_sockets.specs.Listener.{IsServed}
use Rattle.bt_transfer.specs.Fetch.{HasFetched, fetch_flushing, links_of}
use Rattle.bt_transfer.specs.OverTcp.{MeetsOverTcp, tcp_conduct}
use Rattle.bt_transfer.specs.Turns.{InTurnOrStopped, LinkConduct, Tries, TriesAndTakesIn, behind, cut_short, link_conduct}
use Rattle.bt_transfer.specs.Turns.InTurnOrStopped.{none_left, complete, tried, stopped}
use Rattle.bt_check.specs.declared.fault.Fault.{Fault}
use Rattle.bt_sockets.specs.declared.listener.TheConstants.{SESSION_TURNS}
use Rattle.bt_words.specs.declared.peer.Peer.{Peer}

-- the bytes of a reader and a writer
abbrev by_bytes : {R W : Type 0} → (R → Option (List ℕ)) → (W → Option (List ℕ)) → Option (R × W)
    → Option (Option (List ℕ) × Option (List ℕ))
by_bytes remaining contents None = None
by_bytes remaining contents (Some ways) = Some (remaining ways.0, contents ways.1)

module _ {D : Type 0} (conduct : Conduct D) (dig : List ℕ → List ℕ) where
  ends_by_bytes : {R W : Type 0} (remaining : R → Option (List ℕ)) (contents : W → Option (List ℕ)) (until : Bool) (flushing : Flushing) (turns : ℕ)
      (reached : Option (R × W)) (old : EngineView D) (end : PeerEnd) (answer : Result (Unit {0}) FlushError) (new : EngineView D)
      → EndsAs conduct dig remaining contents until flushing turns reached old end answer new
      → EndsAs conduct dig (λ (b : Option (List ℕ)). b) (λ (b : Option (List ℕ)). b) until flushing turns (by_bytes remaining contents reached)
      old end answer new
  ends_by_bytes remaining contents until flushing turns None old Untried answer new e = e
  ends_by_bytes remaining contents until flushing turns None old Unreachable answer new e = e
  ends_by_bytes remaining contents until flushing turns None old (Refused error) answer new e = e
  ends_by_bytes remaining contents until flushing turns None old (Session end) answer new e = e
  ends_by_bytes remaining contents until flushing turns (Some ways) old Untried answer new e = e
  ends_by_bytes remaining contents until flushing turns (Some ways) old Unreachable answer new e = e
  ends_by_bytes remaining contents until flushing turns (Some ways) old (Refused error) answer new e = e
  ends_by_bytes remaining contents until flushing turns (Some ways) old (Session end) answer new e = e

  -- of ways of bytes nothing is said
  some_ways : {R W : Type 0} (remaining : R → Option (List ℕ)) (contents : W → Option (List ℕ)) (reached : Option (R × W))
      → IfSome (by_bytes remaining contents reached) (λ ways. ⊤)
  some_ways remaining contents None = tt
  some_ways remaining contents (Some ways) = tt

  -- a connection that is served
  pub served_by_bytes : {R W : Type 0} (gives : R → W → Type 0) (remaining : R → Option (List ℕ)) (contents : W → Option (List ℕ)) (old : EngineView D) (end : PeerEnd)
      (new : EngineView D) → IsServed conduct dig gives remaining contents SESSION_TURNS old end new
      → MeetsOverTcp conduct dig old end new
  served_by_bytes gives remaining contents old end new served = record {
    reached = by_bytes remaining contents served.reached;
    given = some_ways remaining contents served.reached;
    ended = ends_by_bytes remaining contents _ Never SESSION_TURNS served.reached old end (Ok tt) new served.ended;
  }

  dialled_by_bytes : {R W : Type 0} (gives : Dials → R → W → Type 0) (remaining : R → Option (List ℕ)) (contents : W → Option (List ℕ)) (link : Dials)
      (reached : Option (R × W)) (after : Dials)
      → IsDialled (λ (l : Dials). l.all) (λ (l : Dials). l.failed) gives link reached after
      → IsDialled (λ (l : Dials). l.all) (λ (l : Dials). l.failed) (λ l given taken. ⊤) link (by_bytes remaining contents reached) after
  dialled_by_bytes gives remaining contents link None after d = record { once = d.once; failed = d.failed; given = tt }
  dialled_by_bytes gives remaining contents link (Some ways) after d = record { once = d.once; failed = d.failed; given = tt }

  -- ---- peers in turn

  module _ {R W : Type 0} (gives : Dials → R → W → Type 0) (remaining : R → Option (List ℕ)) (contents : W → Option (List ℕ)) (flushing : Flushing) where
    abbrev kind : LinkConduct Dials R W
    kind = link_conduct (λ (l : Dials). l.all) (λ (l : Dials). l.failed) gives remaining contents

    tried_by_bytes : {old new : EngineView D} {link after : Dials} {end : PeerEnd} {answer : Result (Unit {0}) FlushError}
        → Tries conduct dig kind flushing SESSION_TURNS old link end answer after new → Tries conduct dig tcp_conduct flushing SESSION_TURNS old link end answer after new
    tried_by_bytes {old} {new} {link} {after} {end} {answer} t = record {
      reached = by_bytes remaining contents t.reached;
      dialled = dialled_by_bytes gives remaining contents link t.reached after t.dialled;
      ended = ends_by_bytes remaining contents true flushing SESSION_TURNS t.reached old end answer new t.ended;
    }

    taken_in_by_bytes : {old new : EngineView D} {link after : Dials} {end : PeerEnd} {answer : Result (Unit {0}) Fault}
        → TriesAndTakesIn conduct dig kind flushing SESSION_TURNS old link end answer after new
        → TriesAndTakesIn conduct dig tcp_conduct flushing SESSION_TURNS old link end answer after new
    taken_in_by_bytes (behind met went taken) = behind met (tried_by_bytes went) taken
    taken_in_by_bytes (cut_short error went is) = cut_short error (tried_by_bytes went) is

    turns_by_bytes : {old new : EngineView D} {links rest : List Dials} {ends : List PeerEnd} {answer : Result (Unit {0}) Fault}
        → InTurnOrStopped (TriesAndTakesIn conduct dig kind flushing SESSION_TURNS) old links ends rest answer new
        → InTurnOrStopped (TriesAndTakesIn conduct dig tcp_conduct flushing SESSION_TURNS) old links ends rest answer new
    turns_by_bytes (none_left engine) = none_left engine
    turns_by_bytes (complete engine links is_done) = complete engine links is_done
    turns_by_bytes (tried old mid new link after end links rest ends answer not_done went later) =
        tried old mid new link after end links rest ends answer not_done (taken_in_by_bytes went) (turns_by_bytes later)
    turns_by_bytes (stopped old new link after end links fault not_done went) =
        stopped old new link after end links fault not_done (taken_in_by_bytes went)

    fetched_by_bytes : {peers : List Peer} {old new : EngineView D} {links rest : List Dials} {before now : Option (List ℕ)} {status : ℕ}
        → HasFetched conduct dig kind flushing SESSION_TURNS peers old links before now status rest new
        → HasFetched conduct dig tcp_conduct flushing SESSION_TURNS peers old links before now status rest new
    fetched_by_bytes f = record {
      kept = f.kept;
      told = f.told;
      in_turn = record { ends = f.in_turn.ends; tried = turns_by_bytes f.in_turn.tried; lines = f.in_turn.lines };
      end = f.end;
    }

    -- over links to these peers, peers are tried over TCP
    pub fetched_over_tcp : (torrent : Metainfo) (peers : List Peer) (log : Option (Bor (List ℕ))) {old new : EngineView D} {links rest : List Dials}
        {before now : Option (List ℕ)} {status : ℕ} → links ≡ links_of torrent peers → flushing ≡ fetch_flushing log
        → HasFetched conduct dig kind flushing SESSION_TURNS peers old links before now status rest new
        → HasFetched conduct dig tcp_conduct (fetch_flushing log) SESSION_TURNS peers old (links_of torrent peers) before now status rest new
    fetched_over_tcp torrent peers log {old} {new} {links} {rest} {before} {now} {status} are often fetched =
        subst (λ given. HasFetched conduct dig tcp_conduct (fetch_flushing log) SESSION_TURNS peers old given before now status rest new) are
        (subst (λ n. HasFetched conduct dig tcp_conduct n SESSION_TURNS peers old links before now status rest new) often (fetched_by_bytes fetched))

-- none of these links was dialled
pub links_undialled : (torrent : Metainfo) (peers : List Peer) (links : List Dials) → links ≡ links_of torrent peers → All (λ (link : Dials). link.all ≡ 0) links
links_undialled torrent peers links are =
    subst (All (λ (link : Dials). link.all ≡ 0)) (sym are)
    (All-map (λ (link : Dials). link.all ≡ 0) (λ (peer : Peer). undialled peer.host.now peer.port (short_blocks_of torrent) (total_pieces torrent)) peers (λ k d within. refl))
