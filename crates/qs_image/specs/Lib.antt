pub mod Image
pub mod Opening
