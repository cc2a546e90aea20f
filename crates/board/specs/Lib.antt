pub mod Faults
pub mod Shown
pub mod Circuits
pub mod Ledger
pub mod Invariant
pub mod Holding
pub mod Lending
pub mod Loads
