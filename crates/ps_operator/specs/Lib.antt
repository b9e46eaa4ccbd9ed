pub mod EnableSwitchStates
pub mod ModeSelectorStates
pub mod TwoHandStates
pub mod TwoHandThreeStates
pub mod TwoHandTwoStates
