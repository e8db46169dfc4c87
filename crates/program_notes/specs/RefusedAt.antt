-- At which byte of a program's text the front end refuses it, and what a message of it says.
use Rattle.std.specs.Prelude.{◌≡◌, ℕ, ◌+◌, List, [], ◌++◌, Option, Some, None, Ok, Err, length, map}
use Rattle.c_lexer.specs.Cuts.{answer}
use Rattle.c_lexer.specs.TokenList.{Tokens, start_at}
use Rattle.c_lexer.specs.declared.fault.LexFault.TheVariants as lex
use Rattle.c_constants.specs.declared.fault.ConstFault.{ConstFault}
use Rattle.c_constants.specs.declared.fault.ConstFault.TheVariants as constants
use Rattle.c_constants.specs.Left.{LeavesTokens}
use Rattle.c_constants.specs.Passes as passes
use Rattle.c_parser.specs.Exact.{LightBefore, NoneBegins, SomeBegins, SomeSinks}
use Rattle.c_parser.specs.Weight.{spelled_weights}
use Rattle.c_tree.specs.ItemSpelling.{SpellsProgram}
use Rattle.c_tree.specs.Program.{Program, tree_of}
use Rattle.c_types.specs.declared.fault.TypeFault.{TypeFault}
use Rattle.c_types.specs.declared.fault.TypeFault.TheVariants as fault
use Rattle.c_types.specs.Fault.{breaks, refusal}
use Rattle.plain_notes.specs.Head.{file_head, head_text}
use Rattle.plain_notes.specs.Place.{place_of}

-- the token at which a rule is broken
abbrev pub rule_place : TypeFault → ℕ
rule_place (fault.UnknownName line place) = place
rule_place (fault.Twice line place) = place
rule_place (fault.Mismatch line place) = place
rule_place (fault.NotAssignable line place) = place
rule_place (fault.Arity line place) = place
rule_place (fault.TooBig line place limit value) = place
rule_place (fault.NoRoot line place) = place
rule_place (fault.BadTx line place) = place
rule_place fault.NoMemory = 0

-- the number of bytes before the token that is refused of the constants; too many tokens have none
abbrev pub constant_start : ConstFault → Option ℕ
constant_start (constants.Syntax line start) = Some start
constant_start (constants.TooDeep line start) = Some start
constant_start (constants.Twice line start) = Some start
constant_start (constants.UnknownName line start) = Some start
constant_start (constants.BadNumber line start) = Some start
constant_start constants.TooLong = None
constant_start constants.NoMemory = None

-- the text's constants are refused for this
pub record RefusesConstantsAt (text : List ℕ) (f : ConstFault) : Type 0 where
  pub all : Tokens
  pub cut : answer text ≡ Ok all
  pub told : passes.tokens_left all ≡ Err f

-- the constants of the text leave these tokens, and the parser gives this tree for them
pub record ReadsAs (text : List ℕ) (list : Tokens) (tree : Program) : Type 0 where
  pub left : LeavesTokens text list
  pub spelled : SpellsProgram list.tokens (tree_of tree)
  pub light : LightBefore (spelled_weights spelled) (length list.tokens)
  pub lines : tree.lines ≡ map (λ placed. placed.line) list.tokens

-- The text is refused at the byte that has n bytes before it: a byte that begins no token, a run
-- that is no number, a comment that is never closed; a token of a definition of constants; the
-- first token with which no program begins, or the first that stands too deep; or the token at
-- which the reported rule is broken.
pub data RefusedAt (text : List ℕ) : ℕ → Type 0 where
  Byte : (line start : ℕ) → answer text ≡ Err (lex.BadByte line start) → RefusedAt text start
  Number : (line start : ℕ) → answer text ≡ Err (lex.BadNumber line start) → RefusedAt text start
  Comment : (line start : ℕ) → answer text ≡ Err (lex.OpenComment line start)
      → RefusedAt text start
  Constant : (f : ConstFault) (start : ℕ) → RefusesConstantsAt text f
      → constant_start f ≡ Some start → RefusedAt text start
  Syntax : (list : Tokens) (t : ℕ) → LeavesTokens text list → NoneBegins list.tokens (t + 1)
      → SomeBegins list.tokens t → RefusedAt text (start_at list t)
  Deep : (list : Tokens) (t : ℕ) → LeavesTokens text list → SomeSinks list.tokens t
      → RefusedAt text (start_at list t)
  Rule : (list : Tokens) (tree : Program) (f : TypeFault) → ReadsAs text list tree
      → refusal tree ≡ Some f → RefusedAt text (start_at list (rule_place f))

-- the text has a tree that breaks no rule
pub record IsAccepted (text : List ℕ) : Type 0 where
  pub list : Tokens
  pub tree : Program
  pub reads : ReadsAs text list tree
  pub holds : breaks tree ≡ []

-- a message that begins with the path, the line and the column of the refused byte
pub record TellsPlace (path text message : List ℕ) : Type 0 where
  pub start : ℕ
  pub refused : RefusedAt text start
  pub what : List ℕ
  pub rest : List ℕ
  pub begins : message ≡ head_text path (place_of text start) what ++ rest

-- The message of a text that is too long, as it stands or by what is left of it, has the path
-- alone; that of every other refused text has a place; an accepted text has no message.
pub data Tells (path text : List ℕ) : Option (List ℕ) → Type 0 where
  Long : (message what : List ℕ) → answer text ≡ Err lex.TooLong → message ≡ file_head path what
      → Tells path text (Some message)
  LongLeft : (message what : List ℕ) → RefusesConstantsAt text constants.TooLong
      → message ≡ file_head path what → Tells path text (Some message)
  AtPlace : (message : List ℕ) → TellsPlace path text message → Tells path text (Some message)
  Nothing : IsAccepted text → Tells path text None
