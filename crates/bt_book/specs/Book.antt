-- A request book: the blocks that are wanted, the peers, and what each of them is asked for.
use Rattle.std.specs.Prelude.{◌≡◌, ◌≢◌, ℕ, ◌<◌, ◌≤◌, ◌==◌, Bool, true, false, not, if◌then◌else◌, List, [], ◌∷◌, ◌++◌, length, map, replicate, filter, count_by, sum_by, slice_index_or, take, ◌⊎◌, Option}
use Rattle.bt_book.specs.declared.names.PeerKey.{PeerKey}
use Rattle.bt_book.specs.declared.names.BlockId.{BlockId}
use Rattle.bt_book.specs.Blocks.{Blocks, member, member_count, with_block, is_block, IsBefore, GivesFirst, says}

-- the blocks that a peer is asked for, in the order of asking
pub record PeerRequests : Type 0 where
  pub peer : PeerKey
  pub blocks : List BlockId

-- the peers stand in the order of joining
pub record BookState : Type 0 where
  pub wanted : Blocks
  pub peers : List PeerRequests

-- files of as many blocks as each number says, of which none is wanted, and no peer
abbrev pub empty_book : List ℕ → BookState
empty_book counts = record { wanted = map (λ count. replicate count false) counts; peers = [] }

-- such files, of which all blocks are wanted, and no peer
abbrev pub full_book : List ℕ → BookState
full_book counts = record { wanted = map (λ count. replicate count true) counts; peers = [] }

-- how many peers there may be, and how many blocks each may be asked for
abbrev pub max_peers : ℕ
max_peers = 64

abbrev pub max_requests : ℕ
max_requests = 16

-- how many peers a block may be asked of
abbrev pub max_askers : ℕ
max_askers = 3

-- how many blocks may be wanted at most where one is asked of a peer while others are asked for it, too
abbrev pub max_in_endgame : ℕ
max_in_endgame = 16

abbrev pub is_of : PeerKey → PeerRequests → Bool
is_of key r = r.peer.0 == key.0

-- who has joined, in the order of joining
abbrev pub peers_of : BookState → List PeerKey
peers_of book = map (λ r. r.peer) book.peers

abbrev pub IsJoined : BookState → PeerKey → Type 0
IsJoined book key = 0 < count_by (is_of key) book.peers

-- what the peer is asked for; nothing where it has not joined
abbrev pub asked_in : PeerKey → List PeerRequests → List BlockId
asked_in key [] = []
asked_in key (r ∷ rs) = if is_of key r then r.blocks else asked_in key rs

abbrev pub asked_of : BookState → PeerKey → List BlockId
asked_of book key = asked_in key book.peers

-- the peer is asked for the block
abbrev pub IsPair : BookState → PeerKey → BlockId → Type 0
IsPair book key b = 0 < count_by (is_block b) (asked_of book key)

-- what every other peer is asked for is the same
abbrev pub KeepsOthers : BookState → BookState → PeerKey → Type 0
KeepsOthers old new key = (other : PeerKey) → other.0 ≢ key.0 → asked_of new other ≡ asked_of old other

-- how many pairs the block is in
abbrev pub pairs_in : List PeerRequests → BlockId → ℕ
pairs_in peers b = sum_by (λ r. count_by (is_block b) r.blocks) peers

abbrev pub pair_count : BookState → BlockId → ℕ
pair_count book b = pairs_in book.peers b

-- how many blocks are wanted
abbrev pub wanted_count : BookState → ℕ
wanted_count book = member_count book.wanted

-- the block may be asked of any peer: it is wanted, and no peer is asked for it
pub record IsUnasked (book : BookState) (b : BlockId) : Type 0 where
  pub wanted : member book.wanted b ≡ true
  pub free : pair_count book b ≡ 0

-- the block may be asked of this peer beside others: few blocks are wanted, this one among them, the peer is not
-- asked for it yet, and fewer than three are
pub record IsShareable (book : BookState) (key : PeerKey) (b : BlockId) : Type 0 where
  pub endgame : wanted_count book ≤ max_in_endgame
  pub wanted : member book.wanted b ≡ true
  pub apart : count_by (is_block b) (asked_of book key) ≡ 0
  pub room : pair_count book b < max_askers

-- the block may be asked of this peer
abbrev pub CanAsk : BookState → PeerKey → BlockId → Type 0
CanAsk book key b = IsUnasked book b ⊎ IsShareable book key b

-- ---- what the calls change
-- this peer's blocks are changed, and no other's
abbrev pub change_of : PeerKey → (List BlockId → List BlockId) → PeerRequests → PeerRequests
change_of key change r = if is_of key r then record r { blocks = change r.blocks } else r

abbrev pub with_change : BookState → PeerKey → (List BlockId → List BlockId) → BookState
with_change book key change = record book { peers = map (change_of key change) book.peers }

abbrev pub without_block : BlockId → List BlockId → List BlockId
without_block b blocks = filter (λ c. not (is_block b c)) blocks

abbrev pub with_peer : BookState → PeerKey → BookState
with_peer book key = record book { peers = book.peers ++ (record { peer = key; blocks = [] }) ∷ [] }

abbrev pub without_peer : BookState → PeerKey → BookState
without_peer book key = record book { peers = filter (λ r. not (is_of key r)) book.peers }

abbrev pub with_pair : BookState → PeerKey → BlockId → BookState
with_pair book key b = with_change book key (λ blocks. blocks ++ b ∷ [])

abbrev pub with_pairs : BookState → PeerKey → List BlockId → BookState
with_pairs book key more = with_change book key (λ blocks. blocks ++ more)

abbrev pub without_pair : BookState → PeerKey → BlockId → BookState
without_pair book key b = with_change book key (without_block b)

abbrev pub without_pairs_of : BookState → PeerKey → BookState
without_pairs_of book key = with_change book key (λ _. [])

abbrev pub with_wanted : BookState → BlockId → BookState
with_wanted book b = record book { wanted = with_block book.wanted b true }

abbrev pub without_block_of : BlockId → PeerRequests → PeerRequests
without_block_of b r = record r { blocks = without_block b r.blocks }

-- the block is wanted no more, and is in no pair
abbrev pub with_done : BookState → BlockId → BookState
with_done book b = record {
  wanted = with_block book.wanted b false;
  peers = map (without_block_of b) book.peers;
}

-- the least block that no peer is asked for of which `has` says true, where `has b r` is that it may say r of b
pub record IsLeastUnasked (has : BlockId → Bool → Type 0) (book : BookState) (b : BlockId) : Type 0 where
  pub unasked : IsUnasked book b
  pub held : has b true
  pub least : (c : BlockId) → IsBefore c b → IsUnasked book c → has c false

-- of every block that no peer is asked for it says false
abbrev pub HasNoneUnasked : (BlockId → Bool → Type 0) → BookState → Type 0
HasNoneUnasked has book = (c : BlockId) → IsUnasked book c → has c false

-- the least block that may be asked of the peer beside others of which it says true
pub record IsLeastShareable (has : BlockId → Bool → Type 0) (book : BookState) (key : PeerKey) (b : BlockId)
    : Type 0 where
  pub shareable : IsShareable book key b
  pub held : has b true
  pub least : (c : BlockId) → IsBefore c b → IsShareable book key c → has c false

-- The block that the peer is asked for next: the least one that no peer is asked for; only where there is
-- none, the least one that may be asked of it beside others.
pub data IsNextAsked (has : BlockId → Bool → Type 0) (book : BookState) (key : PeerKey) (b : BlockId)
    : Type 0 where
  alone : IsLeastUnasked has book b → IsNextAsked has book key b
  beside : HasNoneUnasked has book → IsLeastShareable has book key b → IsNextAsked has book key b

-- of every block that may be asked of the peer `has` says false
abbrev pub HasNoneToAsk : (BlockId → Bool → Type 0) → BookState → PeerKey → Type 0
HasNoneToAsk has book key = (c : BlockId) → CanAsk book key c → has c false

-- The peer may be asked for no more: it has not joined, or is asked for as many as may be, or no block is left that
-- it has and may be asked for, where `next` tells the first one that it has, from each block on.
abbrev pub HasAskedAll : (BlockId → Option BlockId → Type 0) → BookState → PeerKey → Type 0
HasAskedAll next book key = (¬ IsJoined book key) ⊎ (length (asked_of book key) ≡ max_requests)
    ⊎ ((has : BlockId → Bool) → GivesFirst next book.wanted has → HasNoneToAsk (says has) book key)

-- each of these blocks is the one that the peer is asked for next once it is asked for those before it
abbrev pub AreAskedInTurn : (BlockId → Bool) → BookState → PeerKey → List BlockId → Type 0
AreAskedInTurn has book key blocks = (i : ℕ) (d : BlockId) → i < length blocks
    → IsNextAsked (says has) (with_pairs book key (take i blocks)) key (slice_index_or blocks i d)

-- a test is true of a wanted block
abbrev pub HasWanted : (BlockId → Bool) → BookState → Type 0
HasWanted has book = (b : BlockId) × (member book.wanted b ≡ true) × (has b ≡ true)

-- a test is true of no wanted block
abbrev pub HasNoneWanted : (BlockId → Bool) → BookState → Type 0
HasNoneWanted has book = (b : BlockId) → member book.wanted b ≡ true → has b ≡ false

-- ---- what every book keeps to
pub record IsBook (book : BookState) : Type 0 where
  pub few : length book.peers ≤ max_peers
  pub once : (key : PeerKey) → count_by (is_of key) book.peers ≤ 1
  pub short : (key : PeerKey) → length (asked_of book key) ≤ max_requests
  pub apart : (key : PeerKey) (b : BlockId) → count_by (is_block b) (asked_of book key) ≤ 1
  pub shared : (b : BlockId) → pair_count book b ≤ max_askers
  pub wanted : (b : BlockId) → 0 < pair_count book b → member book.wanted b ≡ true
