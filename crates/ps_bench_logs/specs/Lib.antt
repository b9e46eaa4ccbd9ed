-- the fields of a line, what a header names, what a row says, and what a log means: what a reader of the clauses has to
-- believe
pub mod Fields
pub mod Header
pub mod Rows
pub mod Log
-- where the code has the fields of a line, and what it says of a row
pub mod Spans
pub mod Saying
-- the trace of a log, and what a call leaves that writes it: what a reader of the clauses has to believe
pub mod Recording
-- what comes of a line of a log
pub mod Lines
