pub mod TestLemmas
pub mod MetLemmas
pub mod AllMetLemmas
pub mod BoundLemmas
pub mod AlongLemmas
pub mod AnswerLemmas
