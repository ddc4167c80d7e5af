pub mod Parts
pub mod Fields
pub mod Chains
pub mod Lines
pub mod Cuts
