-- The words that no name may be: the profile's own, and those that C reserves and the profile never
-- accepts. Any other run of letters, digits and `_` that doesn't begin with a digit is a name.
use Rattle.std.specs.Prelude.{ℕ, List, [], ◌∷◌, Option, Some, None, Bool, true, false}
use Rattle.std.specs.Prelude.{if◌then◌else◌, codes}
use Rattle.std.specs.List.{list_any}
use Rattle.std.specs.Str.{bytes_eq}
use Rattle.c_lexer.specs.declared.token.Word.{Word}
use Rattle.c_lexer.specs.declared.token.Word.TheVariants as word
use Rattle.c_lexer.specs.declared.token.Token.{Token}
use Rattle.c_lexer.specs.declared.token.Token.TheVariants as token

abbrev pub word_table : List (List ℕ × Word)
word_table =
    (codes "int64_t", word.Int64) ∷
    (codes "uint64_t", word.Uint64) ∷
    (codes "void", word.Void) ∷
    (codes "struct", word.Struct) ∷
    (codes "enum", word.Enum) ∷
    (codes "persistent", word.Persistent) ∷
    (codes "root", word.Root) ∷
    (codes "tx", word.Tx) ∷
    (codes "const", word.Const) ∷
    (codes "if", word.If) ∷
    (codes "else", word.Else) ∷
    (codes "while", word.While) ∷
    (codes "do", word.Do) ∷
    (codes "for", word.For) ∷
    (codes "break", word.Break) ∷
    (codes "continue", word.Continue) ∷
    (codes "return", word.Return) ∷
    (codes "NULL", word.Null) ∷
    (codes "pm_new", word.PmNew) ∷
    (codes "pm_free", word.PmFree) ∷
    (codes "abort", word.Abort) ∷
    []

abbrev pub never_accepted : List (List ℕ)
never_accepted =
    codes "auto" ∷
    codes "case" ∷
    codes "char" ∷
    codes "default" ∷
    codes "double" ∷
    codes "extern" ∷
    codes "float" ∷
    codes "goto" ∷
    codes "inline" ∷
    codes "int" ∷
    codes "long" ∷
    codes "register" ∷
    codes "restrict" ∷
    codes "short" ∷
    codes "signed" ∷
    codes "sizeof" ∷
    codes "static" ∷
    codes "switch" ∷
    codes "typedef" ∷
    codes "union" ∷
    codes "unsigned" ∷
    codes "volatile" ∷
    []

-- the word of the first row of a table whose spelling is the run
abbrev pub beside : List ℕ → List (List ℕ × Word) → Option Word
beside run [] = None
beside run (row ∷ rows) = if bytes_eq run row.0 then Some row.1 else beside run rows

unfoldable pub word_spelled : List ℕ → Option Word
word_spelled run = beside run word_table

unfoldable pub is_never_accepted : List ℕ → Bool
is_never_accepted run = list_any (λ spelling. bytes_eq run spelling) never_accepted

-- the token that a run spells
abbrev pub spelled_by : List ℕ → Option Word → Bool → Token
spelled_by run (Some word) reserved = token.Word word
spelled_by run None true = token.Reserved
spelled_by run None false = token.Name run

abbrev pub word_token : List ℕ → Token
word_token run = spelled_by run (word_spelled run) (is_never_accepted run)
