-- what is made of a folder
pub mod Folder
pub mod Limits
pub mod Command
pub mod AtomicFile
-- what private steps cite
pub mod FolderSteps
pub mod CommandSteps
pub mod AtomicFileSteps
