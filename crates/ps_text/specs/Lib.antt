-- how bytes of a user are shown, and what of a line is quoted: what a reader of the clauses has to believe
pub mod Shown
pub mod Quoted
pub mod Lines
pub mod Further
pub mod Also
-- how a value is written in a page, and how it is read back
pub mod Escaping
pub mod Unescaping
-- values in scans side by side, and the line of a signal
pub mod Lanes
-- columns in bytes and in UTF-16 code units
pub mod Columns
