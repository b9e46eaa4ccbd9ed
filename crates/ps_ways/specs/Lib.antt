-- what a way asks, which one is taken, and what a step shows the guards, alone and in a scan of an application: what a
-- reader of the promise has to believe
pub mod Ways
pub mod Tables
pub mod Stepping
pub mod Calling
-- what is said of a condition of a guard, what the states of each kind are called, and how a code is looked up: what a
-- reader of the promise has to believe
pub mod Conditions
pub mod Distinct
pub mod Words
pub mod States
-- which ways and states a step is of, and a step of a block as the code keeps it
pub mod Marks
pub mod Moving
