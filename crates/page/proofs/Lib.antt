pub mod AnswersLaws
pub mod Headers
pub mod RowsHold
pub mod WalkLaws
