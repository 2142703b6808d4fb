pub mod Cells
pub mod Added
