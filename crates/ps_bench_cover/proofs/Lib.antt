-- what is known after a trace, and a cover that has seen nothing
pub mod Begun
pub mod Done
-- the operands of trees by their items, and those that are written are those that decide
pub mod Walking
pub mod Joined
pub mod Fitting
-- places of points, one after another
pub mod Placing
-- what a call leaves after another, for `report`
pub mod Leaving
-- a trace that is added, or refused
pub mod Held
-- words, one after another
pub mod Words
-- what is reported, by what is kept
pub mod Kept
-- what is written of what a call comes to
pub mod Coming
