-- what a text gives, by what its bytes give
pub mod Giving
-- the capital hexadecimal digits
pub mod Capitals
-- texts and their characters, and names as they stand in a line
pub mod Characters
pub mod Shown
-- what an output took of a text whose writing stopped
pub mod Stopped
pub mod Dots
-- a text that was read whole
pub mod Holding
-- what a command leaves of a call, put together from its parts
pub mod Leaving
-- a trace that was followed
pub mod Followed
-- what a call gets of an application or of a case file
mod Coming
