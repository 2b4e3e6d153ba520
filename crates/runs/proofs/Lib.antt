-- Laws of counts, of groups of rows by runs, and of a runs node's kept cells.
pub mod CountLaws
pub mod GroupLaws
pub mod EndLaws
pub mod NodeLaws
