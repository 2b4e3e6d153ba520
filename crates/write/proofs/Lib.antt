pub mod NodeLaws
pub mod WholeLaws
