pub mod Modes
pub mod SameEnableSwitchStates
pub mod SameModeSelectorStates
pub mod SameTwoHandThreeStates
pub mod SameTwoHandTwoStates
