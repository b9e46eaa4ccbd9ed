-- how a call ends after its output handed on what it held back
pub mod Ending
-- what is told of a call
pub mod Told
-- a call in memory
pub mod Over
