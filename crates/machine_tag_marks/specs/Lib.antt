pub mod FirstMarks
pub mod FirstInputs
