pub mod FolderWalk
pub mod FolderOrder
pub mod FolderFiles
pub mod MadeFiles
pub mod MakeFault
pub mod AtomicFilePath
