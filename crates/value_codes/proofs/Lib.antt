pub mod AnnotLaws
pub mod CountLaws
pub mod HeadLaws
pub mod KindPlaces
pub mod Loops
pub mod Tests
