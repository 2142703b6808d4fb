pub mod Measured
pub mod Walks
pub mod Words
pub mod Shown
