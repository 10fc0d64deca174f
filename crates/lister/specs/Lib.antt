pub mod Listing
pub mod ListingCorrect
