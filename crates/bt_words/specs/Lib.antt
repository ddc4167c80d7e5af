pub mod Subcommands
pub mod Values
pub mod CommandLine
-- what private steps cite
pub mod CommandLineSteps
pub mod SubcommandsSteps
