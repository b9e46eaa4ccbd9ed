-- the texts that a load runs over
pub mod Texts
-- what holds them, as contracts see it
pub mod Holding
