pub mod WorkersGrammar
