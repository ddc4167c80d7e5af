-- Names of a folder.
pub mod Names
-- Files that were opened.
pub mod Identities
-- Names of the folders on a path.
pub mod Twins
-- Names of a path that are looked at, one after the other.
pub mod Looks
