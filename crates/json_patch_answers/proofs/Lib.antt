pub mod ModeAnswers
pub mod Below
pub mod SomeAnswer
pub mod OneEdit
pub mod Commands
pub mod OneAnswer
pub mod Pairs
pub mod RecordLines
