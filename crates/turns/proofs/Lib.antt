pub mod Measuring
pub mod Longest
pub mod Saying
pub mod Turned
