pub mod Recovery
pub mod Cells
