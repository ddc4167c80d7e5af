pub mod PeerLines
pub mod Seating
pub mod ServedLines
pub mod Together
-- what the laws of a gate cite
pub mod TellsSteps
