-- if no rule is broken: names differ, each signal has one driver, and the application is sound
pub mod Firsts
pub mod Distinct
pub mod Unbroken
pub mod Targets
pub mod OneDriver
pub mod OneCall
pub mod FirstPins
pub mod Lists
pub mod Differ
pub mod Fine
pub mod Values
pub mod ReadNames
pub mod Drivers
pub mod PinNames
pub mod FewNodes
pub mod Booleans
pub mod Times
pub mod Whole
-- what is found by name, names that come again, and one more name in a table
pub mod Lookups
pub mod NamesAgain
pub mod Indexing
-- operands that are not one
pub mod Many
