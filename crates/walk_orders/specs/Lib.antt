pub mod Total
pub mod RecordedTest
pub mod Law
