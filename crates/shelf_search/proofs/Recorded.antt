-- What records say of what is drawn.
pub mod DrawnLines
pub mod DrawnWalks
