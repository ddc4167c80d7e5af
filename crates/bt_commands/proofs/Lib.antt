pub mod FaultStatus
pub mod FullLog
pub mod ProgramRun
pub mod Refusals
