-- How many blocks have a state.
pub mod Counts
pub mod StateChunks
-- Batches of blocks.
pub mod BatchReads
-- Lists that are filled place by place.
pub mod Found
-- What reads make of the states.
pub mod Judgements
-- One block.
pub mod SingleBlocks
-- Blocks that are read again.
pub mod Reviews
-- What is left of the states.
pub mod Settling
-- Groups of blocks that are taken in.
pub mod GroupReads
pub mod Marks
pub mod Adoptions
-- What is marked there.
pub mod AdoptionMarks
-- Small groups that are read together.
pub mod SmallGroups
-- Blocks that are recalled.
pub mod Recalls
