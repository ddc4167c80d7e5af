pub mod Standing
pub mod Heard
pub mod HashAnswers
pub mod Settlings
pub mod RunSettlings
pub mod Learnings
pub mod Vectors
pub mod NotedBlocks
pub mod Following
pub mod HashesHandled
pub mod KeptHints
pub mod HashEvents
-- spans and the blocks that they lie in
pub mod Placing
pub mod SpanReads
-- the store of a file
pub mod Slots
pub mod Stores
pub mod StoreChanges
-- a block that comes
pub mod Storing
pub mod Cancels
pub mod Arrivals
-- a request
pub mod Requests
