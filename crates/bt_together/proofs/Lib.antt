pub mod PeerLines
pub mod Numbers
pub mod Numbering
pub mod Swarms
