-- The file in memory, as a list of lines with their copies. A line past the list has no word.
use Rattle.std.specs.Prelude.{ℕ, List, [], slice_index_or}
use Rattle.file_pmem.specs.File.{Copies, FileLines}

-- its lines, the numbers of the calls that fail, and how many calls and faults there were
pub record FileModel : Type 0 where
  pub lines : List Copies
  pub fail : List ℕ
  pub calls : ℕ
  pub faults : ℕ

-- a line past the list
abbrev pub no_copies : Copies
no_copies = record { older = []; newest = [] }

-- the lines of the list by their numbers
abbrev pub lines_from : List Copies → FileLines
lines_from ls k = slice_index_or ls k no_copies
