pub mod Swaps
pub mod Switches
