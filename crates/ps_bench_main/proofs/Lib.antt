-- which counts of failed reads rose
pub mod Risen
-- a call that was cut off
mod Cut
-- what is heard of a command while it does what the words ask
mod Meanwhile
