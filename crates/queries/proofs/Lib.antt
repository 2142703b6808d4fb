pub mod QueryNumbers
pub mod QueryWords
