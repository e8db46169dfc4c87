-- What is reported of a program that the front end refuses: a complaint with its line.
use Rattle.std.specs.Prelude.{ℕ}
use Rattle.c_lexer.specs.declared.fault.LexFault.{LexFault}
use Rattle.c_lexer.specs.declared.fault.LexFault.TheVariants as lex
use Rattle.c_constants.specs.declared.fault.ConstFault.{ConstFault}
use Rattle.c_constants.specs.declared.fault.ConstFault.TheVariants as constants
use Rattle.c_parser.specs.declared.fault.ParseFault.{ParseFault}
use Rattle.c_parser.specs.declared.fault.ParseFault.TheVariants as parse
use Rattle.c_types.specs.declared.fault.TypeFault.{TypeFault}
use Rattle.c_types.specs.declared.fault.TypeFault.TheVariants as types
use Rattle.cnvm_compile.specs.declared.complaint.Complaint.TheVariants as complaint
use Rattle.cnvm_compile.specs.declared.front_end.ProgramFault.{ProgramFault}
use Rattle.cnvm_compile.specs.declared.front_end.ProgramFault.TheVariants.{Lex, Constants}
use Rattle.cnvm_compile.specs.declared.front_end.ProgramFault.TheVariants.{Parse, Types, NoMemory}
use Rattle.cnvm_compile.specs.declared.told.Told.{Told}
use Rattle.cnvm_compile.specs.declared.told.Told.TheVariants as told

abbrev pub by_lexer : LexFault → Told
by_lexer (lex.BadByte line start) = told.At line complaint.BadByte
by_lexer (lex.BadNumber line start) = told.At line complaint.BadNumber
by_lexer (lex.OpenComment line start) = told.At line complaint.OpenComment
by_lexer lex.TooLong = told.Long
by_lexer lex.NoMemory = told.NoMemory

abbrev pub by_constants : ConstFault → Told
by_constants (constants.Syntax line start) = told.At line complaint.Syntax
by_constants (constants.TooDeep line start) = told.At line complaint.TooDeep
by_constants (constants.Twice line start) = told.At line complaint.Twice
by_constants (constants.UnknownName line start) = told.At line complaint.UnknownName
by_constants (constants.BadNumber line start) = told.At line complaint.BadNumber
by_constants constants.TooLong = told.Long
by_constants constants.NoMemory = told.NoMemory

abbrev pub by_parser : ParseFault → ℕ → Told
by_parser (parse.Syntax place) line = told.At line complaint.Syntax
by_parser (parse.TooDeep place) line = told.At line complaint.TooDeep
by_parser parse.NoMemory line = told.NoMemory

abbrev pub by_types : TypeFault → Told
by_types (types.UnknownName line place) = told.At line complaint.UnknownName
by_types (types.Twice line place) = told.At line complaint.Twice
by_types (types.Mismatch line place) = told.At line complaint.Mismatch
by_types (types.NotAssignable line place) = told.At line complaint.NotAssignable
by_types (types.Arity line place) = told.At line complaint.Arity
by_types (types.TooBig line place limit value) = told.At line (complaint.TooBig limit value)
by_types (types.NoRoot line place) = told.At line complaint.NoRoot
by_types (types.BadTx line place) = told.At line complaint.BadTx
by_types types.NoMemory = told.NoMemory

abbrev pub told_of : ProgramFault → Told
told_of (Lex fault) = by_lexer fault
told_of (Constants fault) = by_constants fault
told_of (Parse fault line) = by_parser fault line
told_of (Types fault) = by_types fault
told_of NoMemory = told.NoMemory
