-- For callers: what a table of marks says of a site, and when it is exact.
pub mod Logged
-- What that is read from: the bits of a word, the words of a row, and the rows of a table.
pub mod Row
pub mod Sweep
-- For the crate's own contracts.
pub mod inside
