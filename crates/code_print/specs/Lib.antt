pub mod CodeText
