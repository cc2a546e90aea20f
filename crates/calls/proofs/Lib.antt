pub mod Accepted
pub mod Balance
pub mod Histories
