pub mod Literals
pub mod Counting
pub mod Numbering
pub mod Spelt
pub mod Resolving
