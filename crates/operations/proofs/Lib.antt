pub mod Arms
pub mod Others
pub mod Checks
pub mod Numbers
pub mod Determined
