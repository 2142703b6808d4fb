pub mod Pieces
pub mod Verdict
pub mod Guarded
