-- The lines of a command, as it gives them: these, or there was no memory to hold them.
use Rattle.std.specs.Prelude.{◌≡◌, List, Option, None, Some}
use Rattle.workers_session.specs.declared.line.WorkersLine.{WorkersLine}

abbrev pub GivesLines : Option (List WorkersLine) → List WorkersLine → Type 0
GivesLines None lines = Unit {0}
GivesLines (Some told) lines = told ≡ lines
