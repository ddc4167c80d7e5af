-- Why a file is none for a log.
mod Places
pub mod Refusals
-- The file of a log, by what is known of each of its parts.
pub mod LogFiles
-- Why a log is not opened.
pub mod LogFaults
