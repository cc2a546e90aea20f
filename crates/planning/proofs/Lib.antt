pub mod Held
pub mod Closing
pub mod Taken
