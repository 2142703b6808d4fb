pub mod Crosses
pub mod Calls
