-- clients that pad short blocks
pub mod LastBlocks
pub mod MessageParts
pub mod Sendable
pub mod Frames
pub mod Rooms
pub mod Directions
pub mod Parts
pub mod Streams
pub mod Giving
pub mod Passages
pub mod Plain
pub mod Readers
-- reading ahead
pub mod Ranges
pub mod Longs
pub mod Orders
pub mod Leading
pub mod ReadsAhead
pub mod LongReads
-- requests that are held
pub mod WholeRequests
-- what waits before a writer
pub mod Waits
