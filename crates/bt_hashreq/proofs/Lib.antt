-- keys
pub mod KeySpelling
-- claims
pub mod ClaimRun
-- requests
pub mod RequestShape
pub mod RequestAnswers
