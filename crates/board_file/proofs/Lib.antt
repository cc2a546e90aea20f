pub mod Bodies
pub mod Departures
pub mod Encoding
pub mod Fields
pub mod Keeps
pub mod Readings
pub mod Steps
