pub mod Copies
pub mod Laws
pub mod Cases
pub mod Lines
pub mod Listings
pub mod Puts
