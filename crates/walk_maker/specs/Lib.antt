pub mod Lists
pub mod WhyText
pub mod inside
