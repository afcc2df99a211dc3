pub mod Choice
pub mod KeyWord
