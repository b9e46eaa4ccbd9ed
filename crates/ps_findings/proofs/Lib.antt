-- the message of an application that is refused
pub mod Refused
-- odd comments
pub mod Oddities
-- the first of several names that is a word
pub mod Declared
-- what is told of a field
pub mod FieldOf
-- what is told, part by part
pub mod Saying
-- what is said of words that are not taken
pub mod Usages
