-- texts as strings of JSON, and lists over a range
mod Quoting
mod Ranges
-- what columns and the values of wires keep
mod Unchanging
mod Renewing
-- what any taker writes that sees each scan
pub mod Seeing
-- what a watcher writes of a run from its beginning
pub mod Running
-- however a call ends
mod Anyway
-- tokens, and the scans that they say
mod Tokens
mod Replay
-- the tokens of declarations
mod Declaring
-- the lines of changes
mod Steps
