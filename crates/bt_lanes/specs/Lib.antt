pub mod LaneSteps
pub mod PaddingSteps
