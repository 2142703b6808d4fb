pub mod Lent
pub mod Told
pub mod Query
pub mod Refused
pub mod Writing
