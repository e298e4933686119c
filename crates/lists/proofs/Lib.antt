-- Laws, by topic.
pub mod Bool
pub mod Member
pub mod Every
pub mod Number
pub mod Rising
pub mod Order
pub mod Question
pub mod Place
pub mod Written
