pub mod Steps
pub mod Laws
pub mod Numbers
pub mod Lists
pub mod Ranges
pub mod Texts
pub mod TextLaws
pub mod Stops
