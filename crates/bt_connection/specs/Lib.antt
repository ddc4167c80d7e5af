-- requests that are held
pub mod Requests
-- reading ahead
pub mod Messages
pub mod MessageSteps
pub mod ReadAhead
pub mod ReadAheadSteps
pub mod ObserverSteps
-- clients that pad short blocks
pub mod ShortBlocks
pub mod Padding
pub mod PaddingSteps
pub mod Flow
pub mod Law
pub mod Translation
pub mod TranslationSteps
pub mod TranslationLaw
pub mod FrameSteps
pub mod Padded
-- room
pub mod Room
-- what waits before a writer
pub mod Queue
