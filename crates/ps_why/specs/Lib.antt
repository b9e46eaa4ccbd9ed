-- what is said, on what it rests, and when it is enough: what a reader of the promise has to believe
pub mod Facts
pub mod Grounds
pub mod Rests
pub mod Explained
pub mod Laws
-- which operands and guards decide, what is read, and what is said of pins: what a reader of the promise has to believe
pub mod Operands
pub mod Guards
pub mod Reading
pub mod Telling
-- what is seen of a scan, and what is said of it: what a reader of the promise has to believe
pub mod Scenes
pub mod FactsRead
pub mod Drivers
pub mod Reasons
pub mod Asking
pub mod Resting
pub mod Explanations
pub mod Questions
pub mod Keeping
-- where lines stand, which step drives a signal, and which ways end a state: what a reader of the promise has to
-- believe
pub mod Below
pub mod Driving
pub mod Ending
-- apparatus: how facts come to those that were found
pub mod Entering
