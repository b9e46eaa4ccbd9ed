-- What a reader must believe, in the order of docs/model.md: the blocks, the applications and how the program's values
-- are seen as such, what a scan means, and which values are safe.
pub mod Table
pub mod EquivalenceTable
pub mod StopTable
pub mod TwoHandTable
pub mod GuardMonitoringTable
pub mod ModesTable
pub mod GuardLockingTable
pub mod EnableSwitchTable
pub mod SafetyRequestTable
pub mod OutControlTable
pub mod EdmTable
pub mod Blocks
pub mod Pins
pub mod PinBits
pub mod Demand
pub mod Kept
pub mod Stored
pub mod BlockLaws
pub mod Formula
pub mod Action
pub mod Named
pub mod Network
pub mod Drivers
pub mod Values
pub mod Nodes
pub mod Sound
pub mod Exprs
pub mod Args
pub mod Steps
pub mod Apps
pub mod Scanning
pub mod Meaning
pub mod PastAfter
pub mod Fields
pub mod Typing
pub mod Skeleton
pub mod SkeletonLaws
pub mod Budgets
-- Apparatus, in which code and proofs meet the above: how formulas are told apart, how nodes and drivers are found by
-- number, where the cells of an application stand, and what the steps of a scan leave one after another. No meaning
-- stands on these.
pub mod FormulaCode
pub mod NodeList
pub mod FirstSteps
pub mod Standing
pub mod Obligations
pub mod Blank
pub mod Places
pub mod Sized
pub mod Running
pub mod StepOf
