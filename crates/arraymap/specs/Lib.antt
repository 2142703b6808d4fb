pub mod Index
pub mod Show
pub mod Check
pub mod Steps
