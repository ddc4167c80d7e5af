-- What is counted in a book, and what its lists contain.
use Rattle.std.specs.Prelude.{◌≡◌, ℕ, ◌<◌, ◌↔◌, nat_lt, List, count_by, Contains}
use Rattle.bt_book.specs.declared.names.PeerKey.{PeerKey}
use Rattle.bt_book.specs.declared.names.BlockId.{BlockId}
use Rattle.bt_book.specs.Blocks.{Blocks, is_block, member, member_count}
use Rattle.bt_book.specs.Choking.{IsAscending}
use Rattle.bt_book.specs.Book.{BookState, IsBook, IsJoined, IsPair, peers_of, asked_of, pair_count}

-- a block counts in a list just where the list has it
abbrev pub CountedBlocksAreContained : Type 0
CountedBlocksAreContained =
    (b : BlockId) (blocks : List BlockId) → (0 < count_by (is_block b) blocks) ↔ Contains blocks b

-- a peer has joined just where it is one of the book's peers
abbrev pub JoinedPeersAreContained : Type 0
JoinedPeersAreContained =
    (book : BookState) (key : PeerKey) → IsJoined book key ↔ Contains (peers_of book) key

-- a block is in no pair just where no peer is asked for it
abbrev pub FreeBlocksAreAskedOfNobody : Type 0
FreeBlocksAreAskedOfNobody = (book : BookState) (b : BlockId) → IsBook book
    → (pair_count book b ≡ 0) ↔ ((key : PeerKey) → ¬ IsPair book key b)

-- a block is in as many pairs as peers are asked for it
abbrev pub PairsAreOfPeers : Type 0
PairsAreOfPeers = (book : BookState) (b : BlockId) → IsBook book
    → pair_count book b
    ≡ count_by (λ key. nat_lt 0 (count_by (is_block b) (asked_of book key))) (peers_of book)

-- sets with the same members have as many
abbrev pub EqualSetsCountAlike : Type 0
EqualSetsCountAlike = (set other : Blocks)
    → ((file number : ℕ) → member set (record { file = file; block = number })
    ≡ member other (record { file = file; block = number })) → member_count set ≡ member_count other

-- ascending lists of the same keys are one
abbrev pub AscendingKeysAreOne : Type 0
AscendingKeysAreOne = (keys others : List PeerKey) → IsAscending keys → IsAscending others
    → ((key : PeerKey) → Contains keys key ↔ Contains others key) → keys ≡ others
