pub mod MapBodies
