-- what a case file means and says, and which of its cases has a line: what a reader of the clauses has to believe
pub mod Meant
pub mod Runnable
pub mod Parts
pub mod Words
pub mod Line
pub mod Stands
pub mod File
pub mod Expanded
pub mod Joined
pub mod Traced
pub mod Legible
pub mod Alone
-- what the parts of the reader answer
pub mod LineSays
pub mod DraftSays
pub mod Rooms
pub mod HeldBytes
pub mod LaterDeeds
-- what a call leaves that writes
pub mod Writing
