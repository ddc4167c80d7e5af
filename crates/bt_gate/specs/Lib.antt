pub mod Ways
pub mod Clock
pub mod Leading
pub use Rattle.bt_doors.specs.Doors
