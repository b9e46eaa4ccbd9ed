pub mod Digits
pub mod Short
pub mod Image
pub mod Lines
