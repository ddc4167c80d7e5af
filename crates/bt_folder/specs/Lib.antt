pub mod CaseNames
pub mod FolderNames
pub mod Lookup
pub mod CaseFolders
pub mod CasePaths
pub mod CasePathsSteps
pub mod KnownFiles
pub mod FolderSync
