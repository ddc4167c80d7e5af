pub mod Escape
pub mod FileCall
pub mod Reason
pub mod Hint
pub mod Meter
pub mod Line
pub mod Due
