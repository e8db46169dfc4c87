pub mod LoggedCode
