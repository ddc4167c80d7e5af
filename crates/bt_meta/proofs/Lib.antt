-- the names that several proofs cite
pub mod Base
-- lists of checks, choices by a test, dictionaries
pub mod Checks
pub mod Choices
pub mod Dictionaries
pub mod Lists
-- reading: one entry of a file tree, the walk over all, and what it finds
pub mod RootLengths
pub mod TreeWalk
-- reading: the layers of the files
pub mod FileLayers
-- reading: the whole, and what every torrent keeps to
pub mod ReadHead
pub mod ReadRefusals
pub mod ReadFiles
-- where a range of a piece lies
pub mod PlacePieces
-- the blocks of a piece, and the range of its piece that a block is
pub mod PieceBlocks
-- making: the files one by one, their order, and no path that begins another
pub mod MakeFiles
-- making: the value, its tree and its layers
pub mod EncodeValue
-- what is made: a canonical value, in which no check finds a fault, and which gives the files back
pub mod MadeTree
pub mod MadeText
-- the laws by which it is read back, and is made from files
pub mod LawReadBack
pub mod LawMadeFrom
-- what closes the steps of each function
pub mod Steps
