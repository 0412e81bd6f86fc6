pub mod Examples
pub mod OtherKinds
