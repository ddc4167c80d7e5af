-- readers
pub mod ReaderFill
pub mod ReaderNode
pub mod PiecesNode
pub mod PieceRuns
-- `check`
pub mod RightBlocks
pub mod KnownTree
pub mod LeafKnowledge
pub mod PieceGroup
pub mod AdoptedGroups
pub mod BlockChecks
pub mod DeviceBytes
pub mod EntryChecks
pub mod KeptTrees
pub mod CheckFault
pub mod ReportLines
pub mod PoolNumbers
-- `show`
pub mod TorrentFileText
pub mod ShowText
-- digests
pub mod DigestLayer
pub mod DigestFile
