-- Each compiled program agrees with its source: from every heap with valid headers the machine's
-- run of a transaction is sound, and ends as the source says, on a heap that holds the source's
-- pool; and as many words take a record in it as the source's stores tell.
use Rattle.std.specs.Prelude.{◌≡◌, ℕ, ℤ, Bool, List, [], length, map}
use Rattle.c_lexer.specs.TokenList.{Tokens}
use Rattle.c_constants.specs.Left.{LeavesTokens}
use Rattle.c_tree.specs.ItemSpelling.{SpellsProgram}
use Rattle.c_tree.specs.Program.{tree_of}
use Rattle.c_types.specs.Fault.{breaks}
use Rattle.c_types.specs.Shapes.{shapes_of}
use Rattle.c_meaning.specs.Transaction.{Outcome}
use Rattle.pool_map.specs.PoolFits.{words_of}
use Rattle.pool_map.specs.Width as width
use Rattle.pool_layout.specs.Sizes.{slot_words}
use Rattle.pool_map.specs.PoolMap.{PoolMap}
use Rattle.ir.specs.WellFormed.{IsWellFormed}
use Rattle.lower.specs.Program.{lowered}
use Rattle.clobber_pass.specs.declared.marking.MarkTable.{MarkTable}
use Rattle.clobber_pass.specs.Logged.{IsExact}
use Rattle.instrument.specs.Insert.{logged_program}
use Rattle.codegen.specs.Emit.{parts_of}
use Rattle.cnvm_session.specs.declared.program.Program.{Program}
use Rattle.cnvm_session.specs.Pool.{sizes_of}
use Rattle.session_law.specs.Source.{ComesBy}
use Rattle.session_law.specs.Agrees.{Agrees}

-- What the compiler makes of a text: the tree of the tokens that its constants leave, which breaks
-- no rule, and the image of its code for a pool with the root's words and slots of the structs'
-- width. The code has its logs exactly at the sites for which the walks call.
pub record IsCompiledFrom (text : List ℕ) (list : Tokens) (program : Program) : Type 0 where
  pub left : LeavesTokens text list
  pub spelled : SpellsProgram list.tokens (tree_of program.typed)
  pub lines : program.typed.lines ≡ map (λ placed. placed.line) list.tokens
  pub checked : breaks program.typed ≡ []
  pub formed : IsWellFormed (lowered program.typed)
  pub marks : MarkTable
  pub exact : IsExact (lowered program.typed).functions marks
  pub root : (sizes_of program).root_words ≡ words_of (shapes_of program.typed).root
  pub width : slot_words (sizes_of program) ≡ width.slot_words (shapes_of program.typed).structs
  pub made : program.image.parts ≡ parts_of (logged_program marks (lowered program.typed))
      (sizes_of program) (length program.typed.lines)

abbrev pub CompiledLaw : Type 0
CompiledLaw = (text : List ℕ) (list : Tokens) (program : Program)
    → IsCompiledFrom text list program → Agrees program

-- On every pool each transaction of a compiled program, marked or not, has a number of words that
-- take a record, and an outcome.
abbrev pub ComesLaw : Type 0
ComesLaw = (text : List ℕ) (list : Tokens) (program : Program) → IsCompiledFrom text list program
    → (marked : Bool) (pool : PoolMap) (tx : ℕ) (args : List ℤ)
    → (logged : ℕ) × (outcome : Outcome) × ComesBy marked program pool tx args logged outcome
