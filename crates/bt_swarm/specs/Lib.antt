pub mod Runs
pub mod Steps
pub mod Causes
pub mod Moves
pub mod Passing
pub mod Swarm
