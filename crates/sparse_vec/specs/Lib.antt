pub mod Row
pub mod Calls
pub mod Passes
