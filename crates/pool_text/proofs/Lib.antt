pub mod Numbering
pub mod Lines
pub mod WorkedTexts
