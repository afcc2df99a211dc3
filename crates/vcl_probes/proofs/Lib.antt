mod AllInRange
pub mod PartsOfLists
