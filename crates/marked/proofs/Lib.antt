pub mod Examples
pub mod Clauses
pub mod Empty
