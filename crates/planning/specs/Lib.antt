pub mod Tickets
pub mod Places
pub mod Sessions
