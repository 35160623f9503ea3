pub mod ByHeight
