-- Bytes that are put at a place.
pub mod Written
-- Devices in memory.
pub mod Records
pub mod Losses
-- Lists of calls.
pub mod CallLists
-- Images of a crash.
pub mod Images
pub mod Histories
-- Bytes that a reader has left.
pub mod KnownBytes
