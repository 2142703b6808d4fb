pub mod RowChanges
pub mod Sets
pub mod Sums
pub mod Adds
