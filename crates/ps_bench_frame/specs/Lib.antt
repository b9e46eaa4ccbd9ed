-- pieces of what the commands write, and the line of a refusal: what a reader of the clauses has to believe
pub mod Pieces
pub mod Refusing
-- a reader of names as they stand in a line
pub mod Reading
-- what a word means in the place of a trace
pub mod Meant
-- a call as the commands see it: its files and its output
pub mod Seen
-- what a command takes its application and its case files from
pub mod Opening
-- what a text gives besides its application
pub mod Sourcing
-- how a call ends, and what it leaves that stops
pub mod Ending
pub mod Stopping
-- what a command comes to, how the call ends by that, and what it leaves
pub mod Coming
pub mod Answering
pub mod Leaving
-- a trace that is followed, where nothing is written
pub mod Following
