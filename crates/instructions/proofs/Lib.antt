pub mod Laws
pub mod Cases
pub mod Numbers
mod Table
