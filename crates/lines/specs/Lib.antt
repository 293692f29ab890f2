pub mod Run
pub mod RunLaws
pub mod Answer
pub mod AnswerLaws
