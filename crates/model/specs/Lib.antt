pub mod Store
pub mod WellFormed
pub mod Check
pub mod Change
pub mod Step
