pub mod Text
pub mod Order
pub mod Grammar
pub mod Reading
pub mod FirstBad
pub mod OrderLaws
pub mod TextLaws
pub mod FirstBadLaws
