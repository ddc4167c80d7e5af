pub mod Base
pub mod Machine
-- answers
pub mod AnswerParts
pub mod AnswerSends
pub mod AnswerPieces
pub mod AnswerCauses
pub mod AnswerDue
pub mod AnswerBlocks
pub mod AnswerCancels
pub mod AnswerMarks
pub mod AnswerWaits
-- what is left free
pub mod DeterminedParts
pub mod DeterminedEvents
pub mod DeterminedFollow
pub mod DeterminedAsks
pub mod DeterminedNext
pub mod DeterminedPeers
pub mod DeterminedAdopt
pub mod DeterminedRestart
pub mod Determined

-- worked examples
