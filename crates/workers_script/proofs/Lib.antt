pub mod WorkersScripts
