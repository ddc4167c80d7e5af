pub mod Hosts
pub mod OpenLists
pub mod Partings
