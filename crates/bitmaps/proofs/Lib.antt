pub mod PushLaws
pub mod WordWalk
pub mod BlockWalk
