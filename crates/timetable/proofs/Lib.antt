pub mod Changed
pub mod Free
