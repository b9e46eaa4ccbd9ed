-- reads, counts of faults, and what contracts see of files and sinks in memory and of the system's output
pub mod Outside
pub mod InMemory
pub mod Output
-- why a text gave nothing
pub mod Failing
-- how files in memory are stored
pub mod HeldFiles
