-- eight blocks in a run of bytes
pub mod Runs
-- devices that are read ahead
pub mod ReadRuns
pub mod Comparisons
