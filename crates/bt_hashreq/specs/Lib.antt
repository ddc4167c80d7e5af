pub mod Key
pub mod Claim
pub mod Request
pub mod Law
