-- limits and facts that all parts cite
pub mod Limits
pub mod FilePath
pub mod Fields
pub mod TreeEntries
pub mod Files
pub mod Layers
-- a torrent that is read
pub mod Error
pub mod Faults
pub mod Torrent
pub mod Place
pub mod PieceBlocks
pub mod Reader
-- a torrent that is made
pub mod GivenFiles
pub mod WriterRefusals
pub mod Encode
pub mod Writer
pub mod MadeFrom
-- the laws of both
pub mod Law
-- what private steps cite
pub mod ReaderSteps
pub mod PropertySteps
pub mod WalkSteps
pub mod LayerSteps
pub mod PlaceSteps
pub mod WriterSteps
pub mod EncodeSteps
