pub mod Shown
pub mod Causes
