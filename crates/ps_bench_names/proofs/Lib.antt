pub mod Naming
pub mod Counting
pub mod Cutting
pub mod CaseNames
