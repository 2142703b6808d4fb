pub mod Said
pub mod Turned
