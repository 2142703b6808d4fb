pub mod Asked
pub mod Guards
