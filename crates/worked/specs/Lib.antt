pub mod Heading
pub mod Table
pub mod NotEmpty
