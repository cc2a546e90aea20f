pub mod Encodings
pub mod Faults
pub mod Frames
pub mod Loading
pub mod Numbers
pub mod Records
pub mod Tags
