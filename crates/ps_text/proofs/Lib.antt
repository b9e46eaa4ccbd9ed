-- texts one after another, and how long what is shown and quoted is
pub mod Joining
pub mod Lengths
-- hexadecimal digits
pub mod Digits
-- what is written of a value, byte by byte
pub mod Bytewise
-- the value at a place of spans that are merged
pub mod Merging
-- columns in bytes and in code units
mod Inverse
