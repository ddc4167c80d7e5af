pub mod Plan
pub mod Share
pub mod Trees
pub mod Part
pub mod Law
pub mod Told
pub mod Report
pub mod Children
pub mod Starts
pub mod Parts
pub mod ByParts
-- what private steps cite
pub mod PlanSteps
pub mod PartSteps
pub mod JobsSteps
pub mod PartsSteps
pub mod TreesSteps
