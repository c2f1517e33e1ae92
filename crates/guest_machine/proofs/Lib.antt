pub mod SpanLemmas
pub mod RanLemmas
pub mod StepLemmas
pub mod BlockedLemmas
pub mod StandsLemmas
pub mod EnabledLemmas
pub mod Ecalls
