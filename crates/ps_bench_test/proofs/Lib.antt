-- cases and files that were run, one more after others
pub mod Running
-- failures in another order
pub mod Ordering
-- what an output took when a call stops
pub mod Stopped
-- texts that are written one after another
pub mod Joining
-- what readers of TAP and of XML make of what is reported
pub mod Descriptions
pub mod Values
