pub mod Slices
pub mod Comments
pub mod Times
pub mod Longest
pub mod Found
pub mod Pieces
pub mod Apart
pub mod Meeting
