pub mod Nets
pub mod Runs
pub mod Gaining
pub mod Links
pub mod Faults
pub mod Tables
pub mod Rounds
