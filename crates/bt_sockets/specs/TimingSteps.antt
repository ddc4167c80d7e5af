-- Times that a peer has.
use Rattle.std.specs.Prelude.{◌≡◌, ◌↔◌, ◌⊎◌, ℕ, ◌+◌, ◌*◌, ◌-◌, ◌^◌, ◌<◌, ◌≤◌, [], List, Contains, IsTrue, Option, None, Some, length, min, take, drop, true, false}
use Rattle.std.specs.Time.{instant_nanos}
use Rattle.std.specs.declared.time.Instant.{Instant}
use Rattle.bt_wire.specs.declared.message.Ask.{Ask}
use Rattle.bt_wire.specs.declared.frames.TheConstants.{CHOKE, UNCHOKE, INTERESTED, NOT_INTERESTED, HAVE, PIECE, HASH_REQUEST, HASHES, HASH_REJECT}
use Rattle.bt_connection.specs.declared.observer.Arrival.{Arrival}
use Rattle.bt_connection.specs.declared.observer.Arrival.TheVariants as Came
use Rattle.bt_sockets.specs.declared.open_requests.OpenRequests.{OpenRequests}
use Rattle.bt_sockets.specs.declared.outgoing_state.Outgoing.{Outgoing}
use Rattle.bt_sockets.specs.declared.outgoing.Sent.{Sent}
use Rattle.bt_sockets.specs.declared.outgoing.Sent.TheVariants as Went
use Rattle.bt_sockets.specs.declared.timing.Role.{Role}
use Rattle.bt_sockets.specs.declared.timing.Role.TheVariants.{Fetch, Serve}
use Rattle.bt_sockets.specs.declared.timing.TheConstants.{BLOCK_SECONDS}
use Rattle.bt_sockets.specs.declared.timing.Times.{Times}
use Rattle.bt_sockets.specs.OpenSteps.{IsOpened, IsWithout}
use Rattle.bt_sockets.specs.OutgoingSteps.{IsAtBegin, IsPassed}

-- this many seconds or more have passed since
abbrev pub HavePassed : ℕ → Instant → Instant → Type 0
HavePassed seconds since now = seconds * 1000000000 ≤ instant_nanos now - instant_nanos since

-- of a time as much is over now, since its new beginning, as was when the clock was looked at before, since the old one
abbrev pub StoodStill : Instant → Instant → Instant → Instant → Type 0
StoodStill looked now since new =
    instant_nanos new + (instant_nanos looked - instant_nanos since) ≡ instant_nanos now

-- a time stood still, where the clock was looked at this many seconds ago or more; else it went on
abbrev pub IsResumed : ℕ → Instant → Instant → Instant → Instant → Type 0
IsResumed seconds looked now since new =
    (HavePassed seconds looked now → StoodStill looked now since new)
    × (instant_nanos now - instant_nanos looked < seconds * 1000000000 → new ≡ since)

-- ---- requests of blocks that are open

-- the ranges that they ask for
abbrev pub open_asks : OpenRequests → List Ask
open_asks requests = take requests.count requests.asks

-- ---- peers

-- the peer came by itself, and its handshake has not come
abbrev pub IsStranger : Times → Type 0
IsStranger times = (times.role ≡ Serve) × (times.is_greeted ≡ false)

-- Blocks are fetched from the peer, which has all pieces: no block of them is wanted any more, it refused
-- hashes, and no request is open.
pub record IsSpent (times : Times) : Type 0 where
  pub fetched_from : times.role ≡ Fetch
  pub refused : times.is_refused ≡ true
  pub unwanted : times.is_interested ≡ false
  pub all_pieces : times.pieces ≤ times.had
  pub no_block : open_asks times.requests ≡ []
  pub no_hashes : times.pending_hashes ≡ 0

-- a peer that is served wants blocks, and we choke it
pub record WaitsForTurn (times : Times) : Type 0 where
  pub served : times.role ≡ Serve
  pub wants : times.wants_blocks ≡ true
  pub we_choke : times.we_choke ≡ true

-- a peer that is served wants blocks, and we do not choke it
pub record HasTurn (times : Times) : Type 0 where
  pub served : times.role ≡ Serve
  pub wants : times.wants_blocks ≡ true
  pub unchoked : times.we_choke ≡ false

-- What passed stays as it was noted, and so does what is open.
pub record KeepsOthers (old new : Times) : Type 0 where
  pub role : new.role ≡ old.role
  pub last : new.last ≡ old.last
  pub greeted : new.is_greeted ≡ old.is_greeted
  pub choked : new.is_choked ≡ old.is_choked
  pub requests : new.requests ≡ old.requests
  pub pending_hashes : new.pending_hashes ≡ old.pending_hashes
  pub refused : new.is_refused ≡ old.is_refused
  pub interested : new.is_interested ≡ old.is_interested
  pub pieces : new.pieces ≡ old.pieces
  pub had : new.had ≡ old.had
  pub overdue : new.is_overdue ≡ old.is_overdue
  pub given_up : new.is_given_up ≡ old.is_given_up
  pub wants : new.wants_blocks ≡ old.wants_blocks
  pub we_choke : new.we_choke ≡ old.we_choke
  pub outgoing : new.outgoing ≡ old.outgoing

-- ---- what comes

-- A connection begins: nothing has come or gone out, the peer chokes us, and no time has begun before now.
pub record HaveBegun (role : Role) (pieces : ℕ) (now : Instant) (times : Times) : Type 0 where
  pub role_is : times.role ≡ role
  pub begun : times.begun ≡ now
  pub looked : times.looked ≡ now
  pub last : times.last ≡ now
  pub greeted : times.is_greeted ≡ false
  pub used : times.used ≡ now
  pub choked : times.is_choked ≡ true
  pub no_block : open_asks times.requests ≡ []
  pub asked : times.asked ≡ now
  pub no_hashes : times.pending_hashes ≡ 0
  pub refused : times.is_refused ≡ false
  pub interested : times.is_interested ≡ false
  pub pieces_are : times.pieces ≡ pieces
  pub had : times.had ≡ 0
  pub overdue : times.is_overdue ≡ false
  pub given_up : times.is_given_up ≡ false
  pub wants : times.wants_blocks ≡ false
  pub we_choke : times.we_choke ≡ true
  pub outgoing : IsAtBegin times.outgoing

-- blocks are fetched from the peer, one is asked for, and for the seconds of a block none came
pub record IsWaitedFor (times : Times) (now : Instant) : Type 0 where
  pub fetched_from : times.role ≡ Fetch
  pub asked_for : 0 < length (open_asks times.requests)
  pub late : HavePassed BLOCK_SECONDS times.asked now

-- it is noted whether a block is overdue as another message comes, or was before
pub record IsLookedAt (old : Times) (now : Instant) (new : Times) : Type 0 where
  pub others : new ≡ record old { is_overdue = new.is_overdue }
  pub overdue : IsTrue new.is_overdue ↔ (IsTrue old.is_overdue ⊎ IsWaitedFor old now)

-- A block came: one that was asked for closes its request, and the time of the next one begins; any other is a message
-- like another.
pub record HasBlock (old : Times) (ask : Ask) (now : Instant) (new : Times) : Type 0 where
  pub closed : Contains (open_asks old.requests) ask
      → IsWithout (open_asks old.requests) ask (open_asks new.requests)
  pub others : Contains (open_asks old.requests) ask
      → new ≡ record old { requests = new.requests; used = now; asked = now }
  pub unasked : ¬ Contains (open_asks old.requests) ask → IsLookedAt old now new

-- the peer has this many pieces more
abbrev pub with_pieces : Times → ℕ → Times
with_pieces times count = record times { had = min (times.had + count) (2 ^ 64 - 1) }

-- the peer chokes us, and no request is open
pub record IsChoked (old new : Times) : Type 0 where
  pub closed : open_asks new.requests ≡ []
  pub others : new ≡ record old { is_choked = true; requests = new.requests }

-- kinds of messages that are noted; hashes, and that they are refused, where some were asked for
abbrev pub IsNoted : Times → ℕ → Type 0
IsNoted times kind = (kind ≡ CHOKE) ⊎ ((kind ≡ UNCHOKE) ⊎ ((kind ≡ INTERESTED) ⊎ ((kind ≡ NOT_INTERESTED)
    ⊎ ((kind ≡ HAVE) ⊎ ((0 < times.pending_hashes) × ((kind ≡ HASHES) ⊎ (kind ≡ HASH_REJECT)))))))

-- What a message of this kind says is noted, but for whether a block is overdue.
pub record HasKind (old : Times) (kind : ℕ) (now : Instant) (new : Times) : Type 0 where
  pub choke : kind ≡ CHOKE → IsChoked old new
  pub unchoke : kind ≡ UNCHOKE → new ≡ record old { is_choked = false }
  pub wants : kind ≡ INTERESTED → new ≡ record old { wants_blocks = true }
  pub wants_none : kind ≡ NOT_INTERESTED → new ≡ record old { wants_blocks = false }
  pub have : kind ≡ HAVE → new ≡ with_pieces old 1
  pub hashes : kind ≡ HASHES → 0 < old.pending_hashes
      → new ≡ record old { pending_hashes = old.pending_hashes - 1; used = now }
  pub reject : kind ≡ HASH_REJECT → 0 < old.pending_hashes
      → new ≡ record old { pending_hashes = old.pending_hashes - 1; is_refused = true }
  pub other : ¬ IsNoted old kind → new ≡ old

-- what a message of this kind says is noted, and then whether a block is overdue
abbrev pub HasMessage : Times → ℕ → Instant → Times → Type 0
HasMessage old kind now new = (mid : Times) × HasKind old kind now mid × IsLookedAt mid now new

-- what came is noted, by when the last bytes did
abbrev pub HasCome : Times → Arrival → Times → Type 0
HasCome old Came.Handshake new = new ≡ record old { is_greeted = true }
HasCome old Came.KeepAlive new = IsLookedAt old old.last new
HasCome old (Came.Bits count) new = new ≡ with_pieces old count
HasCome old (Came.Block ask) new = HasBlock old ask old.last new
HasCome old (Came.Message kind) new = HasMessage old kind old.last new

-- ---- what goes out

-- A request of a block went out. One that chokes us does not answer it; else it is open, and the time of a block begins
-- with the first one that is.
pub record HasAsked (old : Times) (ask : Ask) (now : Instant) (new : Times) : Type 0 where
  pub choked : old.is_choked ≡ true → new ≡ old
  pub opened : old.is_choked ≡ false → IsOpened (open_asks old.requests) ask (open_asks new.requests)
  pub first : old.is_choked ≡ false → open_asks old.requests ≡ []
      → new ≡ record old { requests = new.requests; asked = now }
  pub further : 0 < length (open_asks old.requests) → new ≡ record old { requests = new.requests }

-- the cancel of a request went out, which is open no more
pub record HasCancelled (old : Times) (ask : Ask) (new : Times) : Type 0 where
  pub closed : Contains (open_asks old.requests) ask
      → IsWithout (open_asks old.requests) ask (open_asks new.requests)
  pub others : new ≡ record old { requests = new.requests }
  pub unasked : ¬ Contains (open_asks old.requests) ask → new ≡ old

-- a message of this kind is of use to a peer that is served
abbrev pub IsServed : Times → ℕ → Type 0
IsServed times kind = (times.role ≡ Serve) × ((kind ≡ PIECE) ⊎ (kind ≡ HASHES))

-- kinds of messages that are noted as they go out
abbrev pub IsNotedOut : Times → ℕ → Type 0
IsNotedOut times kind =
    (kind ≡ INTERESTED) ⊎ ((kind ≡ NOT_INTERESTED) ⊎ ((kind ≡ CHOKE) ⊎ ((kind ≡ UNCHOKE)
    ⊎ ((kind ≡ HASH_REQUEST) ⊎ IsServed times kind))))

-- a message of this kind went out, which is no request of a block and no cancel
pub record HasSent (old : Times) (kind : ℕ) (now : Instant) (new : Times) : Type 0 where
  pub interested : kind ≡ INTERESTED → new ≡ record old { is_interested = true }
  pub not_interested : kind ≡ NOT_INTERESTED → new ≡ record old { is_interested = false }
  pub choke : kind ≡ CHOKE → new ≡ record old { we_choke = true }
  pub unchoke : kind ≡ UNCHOKE → new ≡ record old { we_choke = false }
  pub hashes : kind ≡ HASH_REQUEST
      → new ≡ record old { pending_hashes = min (old.pending_hashes + 1) (2 ^ 64 - 1) }
  pub served : IsServed old kind → new ≡ record old { used = now }
  pub other : ¬ IsNotedOut old kind → new ≡ old

-- what went out is noted
abbrev pub HasGone : Times → Sent → Instant → Times → Type 0
HasGone old (Went.Request ask) now new = HasAsked old ask now new
HasGone old (Went.Cancel ask) now new = HasCancelled old ask new
HasGone old (Went.Message kind) now new = HasSent old kind now new

-- a message that is whole is noted, if one is
abbrev pub MayHaveGone : Times → Option Sent → Instant → Times → Type 0
MayHaveGone old None now new = new ≡ old
MayHaveGone old (Some sent) now new = HasGone old sent now new

-- Of bytes that go out now, these are left: those before them passed one after the other, and each message that was
-- whole by that was noted.
pub data HavePassedOut (now : Instant) (old : Times) (bytes : List ℕ) : List ℕ → Times → Type 0 where
  nothing : HavePassedOut now old bytes bytes old
  further : (rest : List ℕ) (times new : Times) (count : ℕ) (sent : Option Sent) (outgoing : Outgoing)
      → HavePassedOut now old bytes rest times → IsPassed times.outgoing rest count sent outgoing
      → MayHaveGone (record times { outgoing = outgoing }) sent now new
      → HavePassedOut now old bytes (drop count rest) new
