-- the fields of a line, one after another
pub mod Cutting
-- where a header names its columns
pub mod Naming
-- what a row says
pub mod Rowing
-- as many inputs stand in columns as an application has
pub mod Sizes
-- the lines of a log, one after another, and what is written of them
pub mod Rows
-- the lines of a trace are read as the items that they were written for
pub mod TraceLines
-- the trace of a log is read as the items of the log
pub mod Trace
-- what is written of a whole log
pub mod Whole
