pub mod Lists
-- pieces
pub mod Bits
pub mod Wholes
pub mod Comparisons
pub mod NextPieces
pub mod OutsidePieces
-- leaves that are known
pub mod Leaves
-- the book and the peers
pub mod Books
pub mod PeerLists
pub mod Ties
-- the files of a tree
pub mod Chains
pub mod Joins
-- what is told of files
pub mod Completeness
-- devices
pub mod DeviceCalls
-- the counts of unmarked blocks, and of those that wait
pub mod Unmarked
pub mod WaitingBlocks
-- a block that has another state
pub mod BlockChanges
pub mod SlotChanges
-- a file that is left out
pub mod Recounts
pub mod MarkJoins
pub mod Calls
