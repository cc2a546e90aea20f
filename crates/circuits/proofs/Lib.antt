pub mod Outcomes
pub mod Rises
pub mod WeighedLists
pub mod Walks
pub mod Ratios
pub mod Potentials
pub mod Turns
pub mod Nets
