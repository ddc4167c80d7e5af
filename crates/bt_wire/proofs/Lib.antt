-- events
pub mod SameFrames
pub mod Bodies
pub mod Events
pub mod Faults
-- streams
pub mod Streams
pub mod Sizes
pub mod Fronts
pub mod Hellos
pub mod Takings
-- frames by their first bytes
pub mod FrameLengths
