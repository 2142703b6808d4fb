pub mod Freezes
pub mod Resizes
pub mod Shrinks
