-- the declared names of a source, what breaks each rule on them, and the application that a source stands for: what a
-- reader has to believe
pub mod Offences
pub mod Names
pub mod Uses
pub mod Rules
pub mod Limits
pub mod Stands
-- which place a table has of a name, when it indexes a list, and that it has each declared name
pub mod NameTables
pub mod Tables
