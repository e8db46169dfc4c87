-- The text that is printed of a compiled program: its C file, or the header of that file. The pool
-- is that of the program, with its sizes, digest and numbers; the functions are those of the image.
use Rattle.std.specs.Prelude.{ℕ, List, Bool, true, false}
use Rattle.c_file.specs.File.{file_text}
use Rattle.c_file.specs.Header.{header_text}
use Rattle.cnvm_session.specs.declared.program.Program.{Program}
use Rattle.cnvm_session.specs.Pool.{wanted_of}
use Rattle.cnvm_compile.specs.declared.asked.Asked.{Asked}
use Rattle.cnvm_compile.specs.declared.compiling.Compiled.{Compiled}
use Rattle.cnvm_compile.specs.Compilation.{IsCompiled}
use Rattle.cnvm_emit.specs.Entries.{entries_of}

-- the program is that of a text
abbrev pub HasText : Compiled → Type 0
HasText compiled = (asked : Asked) × (text : List ℕ) × IsCompiled asked text compiled

abbrev pub emitted : Program → (prefix : List ℕ) → (header : Bool) → List ℕ
emitted program prefix true = header_text prefix (entries_of program)
emitted program prefix false =
    file_text prefix (wanted_of program) (entries_of program) program.image.parts.functions
