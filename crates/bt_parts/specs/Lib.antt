pub mod Run
pub mod Field
pub mod Line
pub mod Division
pub mod Unit
pub mod Join
pub mod Law
-- what private steps cite
pub mod JoinSteps
