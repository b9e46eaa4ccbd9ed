pub mod EdmStates
pub mod OutControlStates
pub mod SafetyRequestStates
