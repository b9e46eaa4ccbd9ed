-- the steps of a scan, one after another, and what they leave
mod Going
mod Ending
mod Showing
mod Holding
-- the pins of a call, and pins as bits
pub mod FewPins
pub mod Bitwise
mod Stepping
