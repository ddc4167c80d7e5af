pub mod Program
pub mod System
-- what private steps cite
pub mod ProgramSteps
