pub mod Order
pub mod Place
pub mod Run
pub mod Machine
