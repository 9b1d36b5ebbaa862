pub mod Acts
pub mod DumpTexts
pub mod HeldSteps
pub mod OpenPins
