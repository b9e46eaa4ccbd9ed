pub mod Counts
pub mod Derives
pub mod Objections
pub mod Fitting
pub mod Lawful
pub mod Marks
