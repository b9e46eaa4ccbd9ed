pub mod Ranges
pub mod Sides
pub mod Outputs
pub mod Alike
pub mod Meeting
pub mod Following
pub mod Answering
pub mod Behind
pub mod Stepping
-- What the arrangement cites.
pub mod Spans
pub mod Taking
pub mod Freed
