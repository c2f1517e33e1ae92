pub mod Replacing
pub mod RuleLemmas
pub mod Walking
pub mod Parts
