-- How hints are spelled.
pub mod Spellings
-- Texts that go on.
pub mod Texts
-- Hints and texts at the front of bytes.
pub mod Takings
-- Hints that are kept.
pub mod Keepings
-- Logs that are read.
pub mod Readings
-- Readings of the same bytes.
pub mod Sequences
-- Images of a crash.
pub mod Crashes
pub mod Holdings
pub mod Openings
-- Texts that stand through all calls.
pub mod Standings
