pub mod Moving
pub mod Trial
