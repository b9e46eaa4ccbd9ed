pub mod Fields
pub mod CodeLines
pub mod Capitals
