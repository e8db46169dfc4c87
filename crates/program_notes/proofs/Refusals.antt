-- What each stage of the front end refuses is refused at the byte that its answer tells.
use Rattle.std.proofs.Common.{◌≡◌, ◌⊎◌, ℕ, ◌+◌, ◌≤◌, List, [], ◌++◌, Some}
use Rattle.std.proofs.Common.{None, Ok, Err, length, map, min, refl, ⊎_elim, ap}
use Rattle.std.proofs.Common.{◌≢◌, ◌<◌, ◌∙◌, inl, inr, sym, subst, arith, append_assoc}
use Rattle.std.proofs.Math.Nat.{min-eq_left, min-eq_right, min-le_right}
use Rattle.std.proofs.lemmas.Bool.{cases_order}
use Rattle.std.proofs.lemmas.Option.{slice_get_past}
use Rattle.c_lexer.specs.Cuts.{answer}
use Rattle.c_lexer.specs.TokenList.{Tokens, start_at}
use Rattle.c_lexer.specs.declared.fault.LexFault.{LexFault}
use Rattle.c_lexer.specs.declared.fault.LexFault.TheVariants as lex
use Rattle.c_constants.specs.declared.fault.ConstFault.{ConstFault}
use Rattle.c_constants.specs.declared.fault.ConstFault.TheVariants as constants
use Rattle.c_constants.specs.Left.{LeavesTokens}
use Rattle.c_constants.specs.Passes as passes
use Rattle.c_parser.specs.Exact.{LightBefore, NoneBegins, SomeBegins, SomeSinks}
use Rattle.c_parser.specs.Weight.{spelled_weights}
use Rattle.c_tree.specs.ItemSpelling.{SpellsProgram}
use Rattle.c_tree.specs.ItemTree.{ItemTree}
use Rattle.c_tree.specs.Program.{Program, tree_of}
use Rattle.c_types.specs.declared.fault.TypeFault.{TypeFault}
use Rattle.c_types.specs.declared.fault.TypeFault.TheVariants as fault
use Rattle.c_types.specs.Fault.{breaks, refusal}
use Rattle.program_notes.specs.RefusedAt.{ReadsAs, RefusedAt, RefusesConstantsAt, Tells}
use Rattle.program_notes.specs.RefusedAt.{Byte, Number, Comment, Constant, Syntax, Deep, Rule}
use Rattle.program_notes.specs.RefusedAt.{Long, LongLeft, Nothing, AtPlace, constant_start}
use Rattle.program_notes.specs.RefusedAt.{rule_place}
use Rattle.plain_notes.specs.Head.{file_head, head_text}
use Rattle.plain_notes.specs.Place.{place_of}

-- a refusal of the lexer is want of memory, or the text's own
abbrev LexRefuses : List ℕ → LexFault → Type 0
LexRefuses text f = (f ≡ lex.NoMemory) ⊎ (answer text ≡ Err f)

pub byte_refused : (text : List ℕ) (f : LexFault) (line start : ℕ) → LexRefuses text f
    → f ≡ lex.BadByte line start → RefusedAt text start
byte_refused text f line start (inl e) is = let no : ⊥ = cc in absurd no
byte_refused text f line start (inr told) is = Byte line start (told ∙ ap Err is)

pub number_refused : (text : List ℕ) (f : LexFault) (line start : ℕ) → LexRefuses text f
    → f ≡ lex.BadNumber line start → RefusedAt text start
number_refused text f line start (inl e) is = let no : ⊥ = cc in absurd no
number_refused text f line start (inr told) is = Number line start (told ∙ ap Err is)

pub comment_refused : (text : List ℕ) (f : LexFault) (line start : ℕ) → LexRefuses text f
    → f ≡ lex.OpenComment line start → RefusedAt text start
comment_refused text f line start (inl e) is = let no : ⊥ = cc in absurd no
comment_refused text f line start (inr told) is = Comment line start (told ∙ ap Err is)

pub long_refused : (text : List ℕ) → LexRefuses text lex.TooLong → answer text ≡ Err lex.TooLong
long_refused text (inl e) = let no : ⊥ = cc in absurd no
long_refused text (inr is) = is

pub long : (path text message what : List ℕ) → answer text ≡ Err lex.TooLong
    → message ≡ file_head path what → Tells path text (Some message)
long path text message what is begins = Long message what is begins

-- a refusal of the constants is want of memory, or the text's own
abbrev ConstantsRefuse : List ℕ → ConstFault → Type 0
ConstantsRefuse text f = (f ≡ constants.NoMemory) ⊎ RefusesConstantsAt text f

pub constants_left : (text : List ℕ) (all list : Tokens) → answer text ≡ Ok all
    → passes.tokens_left all ≡ Ok list → LeavesTokens text list
constants_left text all list cut left = record { all = all; cut = cut; left = left }

pub constants_refused : (text : List ℕ) (all : Tokens) (f : ConstFault) → answer text ≡ Ok all
    → (f ≡ constants.NoMemory) ⊎ (passes.tokens_left all ≡ Err f) → ConstantsRefuse text f
constants_refused text all f cut (inl e) = inl e
constants_refused text all f cut (inr told) =
    inr (record { all = all; cut = cut; told = told })

pub ruleset of_constants = (constants_left, constants_refused)

pub long_left_refused : (text : List ℕ) → ConstantsRefuse text constants.TooLong
    → RefusesConstantsAt text constants.TooLong
long_left_refused text (inl e) = let no : ⊥ = cc in absurd no
long_left_refused text (inr is) = is

pub long_left : (path text message what : List ℕ) → RefusesConstantsAt text constants.TooLong
    → message ≡ file_head path what → Tells path text (Some message)
long_left path text message what is begins = LongLeft message what is begins

pub constant_refused : (text : List ℕ) (f : ConstFault) (start : ℕ) → ConstantsRefuse text f
    → constant_start f ≡ Some start → RefusedAt text start
constant_refused text f start (inl e) is =
    let none : constant_start f ≡ None = ap constant_start e in
    let no : ⊥ = cc in absurd no
constant_refused text f start (inr refused) is = Constant f start refused is

-- what `message_at` promises of a message of a place
pub placed : (path text message what : List ℕ) (start : ℕ) → RefusedAt text start
    → ((rest : List ℕ) × (message ≡ head_text path (place_of text start) what ++ rest))
    → Tells path text (Some message)
placed path text message what start refused begins = AtPlace message (record {
  start = start;
  refused = refused;
  what = what;
  rest = begins.0;
  begins = begins.1;
})

-- the same with the messages of other errors after it
pub placed_first : (path text message others all what : List ℕ) (start : ℕ) → RefusedAt text start
    → ((rest : List ℕ) × (message ≡ head_text path (place_of text start) what ++ rest))
    → all ≡ message ++ others → Tells path text (Some all)
placed_first path text message others all what start refused begins more =
    placed path text all what start refused (
      begins.0 ++ others,
      more ∙ ap (λ (m : List ℕ). m ++ others) begins.1
          ∙ append_assoc (head_text path (place_of text start) what) begins.0 others,
    )

-- from the end on, a place is that of the end
pub start_min : (list : Tokens) (t : ℕ)
    → start_at list (min t (length list.tokens)) ≡ start_at list t
start_min list t =
    ⊎_elim (λ e. within (omega arith)) (⊎_elim (λ less. within (omega arith)) past)
    (cases_order t (length list.tokens))
  where
    within : t ≤ length list.tokens
        → start_at list (min t (length list.tokens)) ≡ start_at list t
    within inside = ap (λ (n : ℕ). start_at list n) (min-eq_left inside)

    past : length list.tokens < t
        → start_at list (min t (length list.tokens)) ≡ start_at list t
    past far =
        ap (λ (n : ℕ). start_at list n) (min-eq_right (omega arith))
        ∙ rw (
          slice_get_past list.tokens (length list.tokens) (omega arith),
          slice_get_past list.tokens t (omega arith),
        ) refl

pub min_within : (a b : ℕ) → min a b ≤ b
min_within a b = min-le_right a b

pub ruleset start = (start_min, min_within)

pub syntax_refused : (text : List ℕ) (list : Tokens) (t : ℕ) → LeavesTokens text list
    → NoneBegins list.tokens (t + 1) → SomeBegins list.tokens t
    → RefusedAt text (start_at list t)
syntax_refused text list t left none some = Syntax list t left none some

pub deep_refused : (text : List ℕ) (list : Tokens) (t : ℕ) → LeavesTokens text list
    → SomeSinks list.tokens t → RefusedAt text (start_at list t)
deep_refused text list t left some = Deep list t left some

-- what `parse` promises of a tree
pub reads : (text : List ℕ) (list : Tokens) (tree : Program) → LeavesTokens text list
    → SpellsProgram list.tokens (tree_of tree)
    → ((xs : List ItemTree) (spelled : SpellsProgram list.tokens xs)
    → LightBefore (spelled_weights spelled) (length list.tokens))
    → tree.lines ≡ map (λ placed. placed.line) list.tokens → ReadsAs text list tree
reads text list tree left spelled light lines = record {
  left = left;
  spelled = spelled;
  light = light (tree_of tree) spelled;
  lines = lines;
}

pub ruleset of_tokens = (syntax_refused, deep_refused, reads)

pub accepted : (path text : List ℕ) (list : Tokens) (tree : Program) → ReadsAs text list tree
    → breaks tree ≡ [] → Tells path text None
accepted path text list tree is holds = Nothing (record {
  list = list;
  tree = tree;
  reads = is;
  holds = holds;
})

pub rule_refused : (text : List ℕ) (list : Tokens) (tree : Program) (f : TypeFault)
    → ReadsAs text list tree → (f ≡ fault.NoMemory) ⊎ (refusal tree ≡ Some f)
    → (f ≡ fault.NoMemory) ⊎ RefusedAt text (start_at list (rule_place f))
rule_refused text list tree f is (inl e) = inl e
rule_refused text list tree f is (inr told) = inr (Rule list tree f is told)

-- another refusal than want of memory has a place
pub refused_there : (text : List ℕ) (list : Tokens) (f : TypeFault) (t : ℕ)
    → (f ≡ fault.NoMemory) ⊎ RefusedAt text (start_at list (rule_place f))
    → f ≢ fault.NoMemory → t ≡ rule_place f → RefusedAt text (start_at list t)
refused_there text list f t (inl e) other is = absurd (other e)
refused_there text list f t (inr refused) other is =
    subst (λ (u : ℕ). RefusedAt text (start_at list u)) (sym is) refused
