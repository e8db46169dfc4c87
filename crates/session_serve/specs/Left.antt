-- What is left for a reader of lines: what it read and gave in no line yet, followed by what the
-- source has left, if the source tells that.
use Rattle.std.specs.Prelude.{ℕ, List, Option}
use Rattle.std.specs.Io.KnownBytes.{prepend_known}
use Rattle.session_serve.specs.declared.line_reader.LineReader.{LineReader}

abbrev pub left_of : {S : Type 0} → (S → Option (List ℕ)) → LineReader → S → Option (List ℕ)
left_of left reader source = prepend_known reader.ahead.items (left source)
