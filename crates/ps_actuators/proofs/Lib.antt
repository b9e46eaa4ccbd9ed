pub mod EdmSteps
pub mod OutControlSteps
pub mod SafetyRequestSteps
pub mod SameEdmStates
pub mod SameOutControlStates
pub mod SameSafetyRequestStates
