pub mod PeerWords
pub mod PartWords
pub mod CommandWords
pub mod CommandLineTask
