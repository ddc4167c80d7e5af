pub mod Cache
pub mod CacheSteps
pub mod Disk
pub mod SealedDisk
