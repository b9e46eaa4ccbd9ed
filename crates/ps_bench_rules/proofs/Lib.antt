pub mod ReadLines
pub mod Standing
pub mod Keeping
pub mod Leading
