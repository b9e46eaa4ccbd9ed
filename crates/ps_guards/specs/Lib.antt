pub mod GuardLockingStates
pub mod GuardMonitoringStates
