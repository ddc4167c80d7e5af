-- files
pub mod Reader
pub mod Pieces
pub mod Digests
pub mod Paths
pub mod DataFile
-- `check`
pub mod Finding
pub mod EntryCheck
pub mod Check
pub mod Report
-- `show`
pub mod TorrentFile
pub mod Display
pub mod Show
-- both
pub mod Fault
-- what private steps cite
pub mod CheckSteps
pub mod TreeSteps
pub mod DigestSteps
