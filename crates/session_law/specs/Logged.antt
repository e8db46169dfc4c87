-- Which words take a record in a run, as code_meaning says.
pub use Rattle.code_meaning.specs.Logged.{StoreAt, spot_word, stores_in, Asks, TakeRecords}
pub use Rattle.code_meaning.specs.Logged.{FillsLog}
