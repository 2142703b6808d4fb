pub mod Frozen
pub mod Resized
