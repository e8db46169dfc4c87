-- What the front end makes of a program's text: its tokens, those that its constants leave, their
-- tree, and the typing rules that the tree breaks; or the refusal of the first of these stages that
-- refuses.
use Rattle.std.specs.Prelude.{ℕ, ◌+◌, List, [], ◌≡◌, ◌≢◌, map, length, Some, Ok, Err, ⊤}
use Rattle.c_lexer.specs.declared.fault.LexFault.TheVariants as lex
use Rattle.c_lexer.specs.Cuts.{answer}
use Rattle.c_constants.specs.declared.fault.ConstFault.TheVariants as constants
use Rattle.c_constants.specs.Left.{LeavesTokens}
use Rattle.c_constants.specs.Passes as passes
use Rattle.c_lexer.specs.TokenList.{Tokens, line_at}
use Rattle.c_parser.specs.declared.fault.ParseFault.{ParseFault}
use Rattle.c_parser.specs.declared.fault.ParseFault.TheVariants as parse
use Rattle.c_parser.specs.Exact.{LightBefore, NoneBegins, SomeBegins, SomeSinks}
use Rattle.c_tree.specs.Program.{Program, tree_of}
use Rattle.c_tree.specs.ItemSpelling.{SpellsProgram}
use Rattle.c_parser.specs.Weight.{spelled_weights}
use Rattle.c_types.specs.declared.fault.TypeFault.{TypeFault}
use Rattle.c_types.specs.Fault.{breaks, refusal}
use Rattle.cnvm_compile.specs.declared.front_end.ProgramFault.{ProgramFault}
use Rattle.cnvm_compile.specs.declared.front_end.ProgramFault.TheVariants.{Lex, Constants}
use Rattle.cnvm_compile.specs.declared.front_end.ProgramFault.TheVariants.{Parse, Types, NoMemory}

-- The tree of a list of tokens: the tokens spell it, none of them is too heavy, and it has their
-- lines.
pub record IsTree (list : Tokens) (tree : Program) : Type 0 where
  pub spelled : SpellsProgram list.tokens (tree_of tree)
  pub light : LightBefore (spelled_weights spelled) (length list.tokens)
  pub lines : tree.lines ≡ map (λ placed. placed.line) list.tokens
  pub last : tree.last ≡ list.last

abbrev pub HasTree : List ℕ → Program → Type 0
HasTree text tree = (list : Tokens) × LeavesTokens text list × IsTree list tree

-- each tree of the text has these declarations
pub record IsOnlyTreeOf (text : List ℕ) (tree : Program) : Type 0 where
  pub only : (other : Program) → HasTree text other → tree_of tree ≡ tree_of other

-- the text has this tree, and it breaks no rule
abbrev pub AcceptsText : List ℕ → Program → Type 0
AcceptsText text tree = HasTree text tree × (breaks tree ≡ [])

-- the text has a tree, and each of its trees is refused for this fault
pub record RefusesTrees (text : List ℕ) (fault : TypeFault) : Type 0 where
  pub tree : Program
  pub has : HasTree text tree
  pub each : (other : Program) → HasTree text other → refusal other ≡ Some fault

-- the refused token: the first with which the list begins no program, or one that stands too deep
abbrev pub RefusesToken : Tokens → ParseFault → ℕ → Type 0
RefusesToken list (parse.Syntax t) line =
    NoneBegins list.tokens (t + 1) × SomeBegins list.tokens t × (line ≡ line_at list t)
RefusesToken list (parse.TooDeep t) line = SomeSinks list.tokens t × (line ≡ line_at list t)
RefusesToken list parse.NoMemory line = ⊥

abbrev pub RefusesText : List ℕ → ProgramFault → Type 0
RefusesText text (Lex fault) = (answer text ≡ Err fault) × (fault ≢ lex.NoMemory)
RefusesText text (Constants fault) = (list : Tokens) × (answer text ≡ Ok list)
    × (passes.tokens_left list ≡ Err fault) × (fault ≢ constants.NoMemory)
RefusesText text (Parse fault line) = (list : Tokens) × LeavesTokens text list
    × RefusesToken list fault line
RefusesText text (Types fault) = RefusesTrees text fault
RefusesText text NoMemory = ⊤
