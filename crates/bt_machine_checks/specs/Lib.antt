pub mod LeftFree
pub mod AnswerLaw
pub mod AnswerDue

-- worked examples
