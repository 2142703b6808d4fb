pub mod QueryLists
pub mod QueryColumn
