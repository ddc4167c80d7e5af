-- scripts
pub mod Field
pub mod Line
pub mod Event
pub mod Run
pub mod Devices
pub mod Script
pub mod Reader
pub mod Command
-- what is told
pub mod Answer
pub mod Fault
-- what private steps cite
pub mod EventSteps
pub mod DevicesSteps
pub mod ReaderSteps
