-- What a picture shows.
pub mod DrawnLines
pub mod DrawnLinks
