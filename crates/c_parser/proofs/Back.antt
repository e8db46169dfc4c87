-- What the run accepts is spelled: going back through its steps, each builds a piece of the tree.
use Rattle.std.proofs.Common.{ℕ, zero, suc, ◌+◌, ◌≡◌, ◌≢◌, ◌⊎◌, inl, inr, List, [], ◌∷◌, length}
use Rattle.std.proofs.Common.{Option, Some, None, Bool, true, false, refl, sym, ap, ◌∙◌, subst}
use Rattle.std.proofs.Common.{arith}
use Rattle.std.proofs.lemmas.Option.{slice_get_past}
use Rattle.c_lexer.specs.declared.token.Mark.{Mark}
use Rattle.c_lexer.specs.declared.token.Mark.TheVariants as mark
use Rattle.c_lexer.specs.declared.token.Word.{Word}
use Rattle.c_lexer.specs.declared.token.Word.TheVariants as word
use Rattle.c_lexer.specs.declared.token.Token.{Token}
use Rattle.c_lexer.specs.declared.token.Token.TheVariants as token
use Rattle.c_lexer.specs.declared.token.Placed.{Placed}
use Rattle.c_tree.specs.declared.expr.BinaryOp.TheVariants as op
use Rattle.c_tree.specs.declared.expr.IntType.{IntType}
use Rattle.c_tree.specs.declared.expr.UnaryOp.TheVariants as unary
use Rattle.c_tree.specs.declared.stmt.AssignOp.TheVariants as assign
use Rattle.c_tree.specs.declared.kind.Kind.{Kind}
use Rattle.c_tree.specs.declared.kind.Kind.TheVariants as kind
use Rattle.c_parser.specs.declared.want.Want.{Want}
use Rattle.c_parser.specs.declared.want.Want.TheVariants.{Operand, Rest, Named, Dot, Colon, Opened}
use Rattle.c_parser.specs.declared.want.Want.TheVariants.{FirstArgument}
use Rattle.c_parser.specs.declared.want.Want.TheVariants.{MoreArguments, NewOpen, Ident, Digits}
use Rattle.c_parser.specs.declared.want.Want.TheVariants.{Semicolon, StructWord, Star, RootWord}
use Rattle.c_parser.specs.declared.want.Want.TheVariants.{WhileWord, Round, Square, Target}
use Rattle.c_parser.specs.declared.want.Want.TheVariants.{NamedTarget, Called, DotTarget}
use Rattle.c_parser.specs.declared.want.Want.TheVariants.{OpenExpression, OpenNothing, Initial}
use Rattle.c_parser.specs.declared.want.Want.TheVariants.{Value, Body, Bare, Else, Block, OpenFor}
use Rattle.c_parser.specs.declared.want.Want.TheVariants.{ForFirst, ForThird, TypeName, Fields}
use Rattle.c_parser.specs.declared.want.Want.TheVariants.{Length, Result, TxResult, OpenParameters}
use Rattle.c_parser.specs.declared.want.Want.TheVariants.{Parameters, MoreParameters, OpenBody}
use Rattle.c_parser.specs.declared.want.Want.TheVariants.{StructOrFunction, Items}
use Rattle.c_tree.specs.Kinds.{kind_at, placed_kind, token_kind, mark_kind, word_kind, ident_at}
use Rattle.c_tree.specs.Kinds.{value_at}
use Rattle.c_tree.specs.Operators.{sign_of}
use Rattle.c_tree.specs.ExprTree.{ExprTree}
use Rattle.c_tree.specs.ExprTree as trees
use Rattle.c_tree.specs.StmtTree.{TypeTree, DeclarationTree, SimpleTree, FirstTree, StmtTree}
use Rattle.c_tree.specs.StmtTree.{Statements}
use Rattle.c_tree.specs.StmtTree as tree
use Rattle.c_tree.specs.ItemTree.{FieldTree, ParameterTree, ItemTree}
use Rattle.c_tree.specs.ItemTree as itree
use Rattle.c_tree.specs.Spelling.{Expression, postfix, Parts, parts_end, field, element, Primary}
use Rattle.c_tree.specs.Spelling.{number}
use Rattle.c_tree.specs.Spelling.{null, variable, call, root, new, brackets, SpellsArguments}
use Rattle.c_tree.specs.StmtSpelling.{Typed, int, pointer, Declares, plain, initial, Bracketed}
use Rattle.c_tree.specs.StmtSpelling.{bracketed, Acts, assigns, steps, Simply, acts, calls, frees}
use Rattle.c_tree.specs.StmtSpelling.{aborts, FirstPart, first_none, first_declares, first_simply}
use Rattle.c_tree.specs.StmtSpelling.{ValuePart, value_none, value_some, ThirdPart, third_none}
use Rattle.c_tree.specs.StmtSpelling.{third_some, Spells, empty, declares, simply, block, if_alone}
use Rattle.c_tree.specs.StmtSpelling.{if_else, repeats, repeats_after, counts, breaks, continues}
use Rattle.c_tree.specs.StmtSpelling.{returns, SpellsAll, nothing, something}
use Rattle.c_tree.specs.ItemSpelling.{SpellsField, single, array, SpellsFields, fields_end}
use Rattle.c_tree.specs.ItemSpelling.{fields_more, SpellsParameters, parameters_last}
use Rattle.c_tree.specs.ItemSpelling.{parameters_more, Signature, signature_none, signature_void}
use Rattle.c_tree.specs.ItemSpelling.{signature_some, ResultType, result_void, result_some}
use Rattle.c_tree.specs.declared.item.Marked.{Marked}
use Rattle.c_tree.specs.declared.item.Marked.TheVariants as mark_of
use Rattle.c_tree.specs.ItemSpelling.{unmarked, marked_abort, marked_const, SpellsFunction}
use Rattle.c_tree.specs.ItemSpelling.{function, SpellsItem}
use Rattle.c_tree.specs.ItemSpelling.{struct_def, root_decl, transaction, plain_function}
use Rattle.c_tree.specs.ItemSpelling.{SpellsItems, items_end, items_more, SpellsProgram}
use Rattle.c_parser.specs.inside.Wants as wants
use Rattle.c_parser.specs.inside.Wants.{apply_move, move, parser_step}
use Rattle.c_parser.specs.inside.Run.{Accepted, ends, parse_on, parse_run}
use Rattle.c_parser.proofs.Steps.{IsToken, run_at, at_token, present}
use Rattle.c_parser.proofs.Flat.{Flat, f_number, f_null, f_name, f_root, f_new, f_sign, f_round}
use Rattle.c_parser.proofs.Flat.{f_cast, Tail, f_end, f_operator, f_field, f_index, f_sides}
use Rattle.c_parser.proofs.Flat.{AfterName, f_plain}
use Rattle.c_parser.proofs.Flat.{f_call, FirstOf, f_none, f_some, OthersOf, f_close, f_comma}
use Rattle.c_parser.proofs.Flat.{flat_tree, first_tree}

-- no token has the kind of the end
mark_token : (m : Mark) → IsToken (mark_kind m)
mark_token mark.Arrow = tt
mark_token mark.Increment = tt
mark_token mark.Decrement = tt
mark_token mark.AddAssign = tt
mark_token mark.SubAssign = tt
mark_token mark.MulAssign = tt
mark_token mark.DivAssign = tt
mark_token mark.RemAssign = tt
mark_token mark.AndAssign = tt
mark_token mark.XorAssign = tt
mark_token mark.OrAssign = tt
mark_token mark.ShiftLeftAssign = tt
mark_token mark.ShiftRightAssign = tt
mark_token mark.ShiftLeft = tt
mark_token mark.ShiftRight = tt
mark_token mark.LessEqual = tt
mark_token mark.GreaterEqual = tt
mark_token mark.Equal = tt
mark_token mark.NotEqual = tt
mark_token mark.AndAnd = tt
mark_token mark.OrOr = tt
mark_token mark.Plus = tt
mark_token mark.Minus = tt
mark_token mark.Star = tt
mark_token mark.Slash = tt
mark_token mark.Percent = tt
mark_token mark.Less = tt
mark_token mark.Greater = tt
mark_token mark.And = tt
mark_token mark.Xor = tt
mark_token mark.Or = tt
mark_token mark.Not = tt
mark_token mark.Tilde = tt
mark_token mark.Assign = tt
mark_token mark.Question = tt
mark_token mark.Colon = tt
mark_token mark.Dot = tt
mark_token mark.Comma = tt
mark_token mark.Semicolon = tt
mark_token mark.OpenRound = tt
mark_token mark.CloseRound = tt
mark_token mark.OpenBrace = tt
mark_token mark.CloseBrace = tt
mark_token mark.OpenSquare = tt
mark_token mark.CloseSquare = tt

word_token : (w : Word) → IsToken (word_kind w)
word_token word.Int64 = tt
word_token word.Uint64 = tt
word_token word.Void = tt
word_token word.Struct = tt
word_token word.Enum = tt
word_token word.Persistent = tt
word_token word.Root = tt
word_token word.Tx = tt
word_token word.Const = tt
word_token word.If = tt
word_token word.Else = tt
word_token word.While = tt
word_token word.Do = tt
word_token word.For = tt
word_token word.Break = tt
word_token word.Continue = tt
word_token word.Return = tt
word_token word.Null = tt
word_token word.PmNew = tt
word_token word.PmFree = tt
word_token word.Abort = tt

token_token : (x : Token) → IsToken (token_kind x)
token_token (token.Name text) = tt
token_token (token.Number n) = tt
token_token (token.Mark m) = mark_token m
token_token (token.Word w) = word_token w
token_token token.Reserved = tt

module _ (ts : List Placed) where
  -- the tokens between the two places act on a target, whose first part ends before them
  abbrev pub Acting : ℕ → ℕ → Type 0
  Acting i j = (a : ExprTree) → (m : ℕ) × (e : ExprTree) × (s : SimpleTree) × Parts ts i m a e
      × Acts ts m j e s

  -- the tokens between the two places are a function's parameters and body, after its name
  abbrev pub Functioning : ℕ → ℕ → Type 0
  Functioning i j =
      (kind_at ts i ≡ kind.OpenRound) × (n : ℕ) × (ps : List ParameterTree)
      × Signature ts (i + 1) n ps
      × (kind_at ts n ≡ kind.OpenBrace) × (p : ℕ) × (all : Statements)
      × SpellsAll ts false (n + 1) p all × (kind_at ts p ≡ kind.CloseBrace) × (j ≡ p + 1)

  -- the tokens from that place to the end meet these wants
  abbrev pub Stands : ℕ → List Want → Type 0
  Stands i [] = i ≡ length ts
  Stands i (Operand n ∷ k) = (j : ℕ) × Flat ts i j × Stands j k
  Stands i (Rest n ∷ k) = (j : ℕ) × Tail ts i j × Stands j k
  Stands i (Named n ∷ k) = (j : ℕ) × AfterName ts i j × Stands j k
  Stands i (Dot n ∷ k) = (kind_at ts i ≡ kind.Dot) × (kind_at ts (i + 1) ≡ kind.Name) × (j : ℕ)
      × Tail ts (i + 1 + 1) j × Stands j k
  Stands i (Opened n ∷ k) =
      ((m : ℕ) × Flat ts i m × (kind_at ts m ≡ kind.CloseRound) × (j : ℕ) × Tail ts (m + 1) j
      × Stands j k)
      ⊎ ((y : IntType) × (kind_at ts i ≡ kind.Int y) × (kind_at ts (i + 1) ≡ kind.CloseRound)
      × (j : ℕ) × Flat ts (i + 1 + 1) j × Stands j k)
  Stands i (Colon n ∷ k) = (kind_at ts i ≡ kind.Colon) × (j : ℕ) × Flat ts (i + 1) j × Stands j k
  Stands i (FirstArgument ∷ k) = (j : ℕ) × FirstOf ts i j × Stands j k
  Stands i (MoreArguments ∷ k) = (j : ℕ) × OthersOf ts i j × Stands j k
  Stands i (NewOpen ∷ k) =
      (kind_at ts i ≡ kind.OpenRound) × (kind_at ts (i + 1) ≡ kind.Struct)
      × (kind_at ts (i + 1 + 1) ≡ kind.Name)
      × (kind_at ts (i + 1 + 1 + 1) ≡ kind.CloseRound) × Stands (i + 1 + 1 + 1 + 1) k
  Stands i (Ident ∷ k) = (kind_at ts i ≡ kind.Name) × Stands (i + 1) k
  Stands i (Digits ∷ k) = (kind_at ts i ≡ kind.Number) × Stands (i + 1) k
  Stands i (Semicolon ∷ k) = (kind_at ts i ≡ kind.Semicolon) × Stands (i + 1) k
  Stands i (StructWord ∷ k) = (kind_at ts i ≡ kind.Struct) × Stands (i + 1) k
  Stands i (Star ∷ k) = (kind_at ts i ≡ kind.Operator op.Mul) × Stands (i + 1) k
  Stands i (RootWord ∷ k) = (kind_at ts i ≡ kind.Root) × Stands (i + 1) k
  Stands i (WhileWord ∷ k) = (kind_at ts i ≡ kind.While) × Stands (i + 1) k
  Stands i (Round ∷ k) = (kind_at ts i ≡ kind.CloseRound) × Stands (i + 1) k
  Stands i (Square ∷ k) = (kind_at ts i ≡ kind.CloseSquare) × Stands (i + 1) k
  Stands i (Target n ∷ k) = (j : ℕ) × Acting i j × Stands j k
  Stands i (Called ∷ k) = ((j : ℕ) × Acting i j × Stands j k) ⊎ Stands i k
  Stands i (NamedTarget ∷ k) =
      ((j : ℕ) × Acting i j × Stands j k)
      ⊎ ((kind_at ts i ≡ kind.OpenRound) × (m : ℕ) × (all : trees.Arguments)
      × SpellsArguments ts (i + 1) m all × (((j : ℕ) × Acting m j × Stands j k) ⊎ Stands m k))
  Stands i (DotTarget ∷ k) = (kind_at ts i ≡ kind.Dot) × (kind_at ts (i + 1) ≡ kind.Name) × (j : ℕ)
      × Acting (i + 1 + 1) j × Stands j k
  Stands i (OpenExpression ∷ k) = (j : ℕ) × (e : ExprTree) × Bracketed ts i j e × Stands j k
  Stands i (OpenNothing ∷ k) = (kind_at ts i ≡ kind.OpenRound)
      × (kind_at ts (i + 1) ≡ kind.CloseRound) × Stands (i + 1 + 1) k
  Stands i (Initial ∷ k) =
      ((kind_at ts i ≡ kind.Assign assign.Set) × (j : ℕ) × (e : ExprTree)
      × Expression ts (i + 1) j e × Stands j k) ⊎ Stands i k
  Stands i (Value ∷ k) = (j : ℕ) × (v : Option ExprTree) × ValuePart ts i j v × Stands j k
  Stands i (Body loop ∷ k) = (j : ℕ) × (s : StmtTree) × Spells ts loop i j s × Stands j k
  Stands i (Bare ∷ k) = Stands i k
  Stands i (Else loop ∷ k) =
      ((kind_at ts i ≡ kind.Else) × (j : ℕ) × (s : StmtTree) × Spells ts loop (i + 1) j s
      × Stands j k)
      ⊎ ((kind_at ts i ≢ kind.Else) × Stands i k)
  Stands i (Block loop ∷ k) = (j : ℕ) × (all : Statements) × SpellsAll ts loop i j all
      × (kind_at ts j ≡ kind.CloseBrace) × Stands (j + 1) k
  Stands i (OpenFor ∷ k) =
      (kind_at ts i ≡ kind.OpenRound) × (m : ℕ) × (f : Option FirstTree) × FirstPart ts (i + 1) m f
      × (kind_at ts m ≡ kind.Semicolon)
      × (n : ℕ) × (v : Option ExprTree) × ValuePart ts (m + 1) n v × (kind_at ts n ≡ kind.Semicolon)
      × (p : ℕ) × (t : Option SimpleTree) × ThirdPart ts (n + 1) p t
      × (kind_at ts p ≡ kind.CloseRound) × Stands (p + 1) k
  Stands i (ForFirst ∷ k) = (j : ℕ) × (f : Option FirstTree) × FirstPart ts i j f × Stands j k
  Stands i (ForThird ∷ k) = (j : ℕ) × (t : Option SimpleTree) × ThirdPart ts i j t × Stands j k
  Stands i (TypeName ∷ k) = (j : ℕ) × (t : TypeTree) × Typed ts i j t × Stands j k
  Stands i (Fields ∷ k) = (j : ℕ) × (fs : List FieldTree) × SpellsFields ts i j fs
      × (kind_at ts j ≡ kind.CloseBrace) × Stands (j + 1) k
  Stands i (Length ∷ k) =
      ((kind_at ts i ≡ kind.OpenSquare) × (kind_at ts (i + 1) ≡ kind.Number)
      × (kind_at ts (i + 1 + 1) ≡ kind.CloseSquare) × Stands (i + 1 + 1 + 1) k)
      ⊎ Stands i k
  Stands i (Result ∷ k) = (j : ℕ) × (r : Option TypeTree) × ResultType ts i j r × Stands j k
  Stands i (TxResult ∷ k) =
      ((kind_at ts i ≡ kind.Abort) × (j : ℕ) × (r : Option TypeTree) × ResultType ts (i + 1) j r
      × Stands j k)
      ⊎ (((kind_at ts i ≡ kind.Const) × (j : ℕ) × (r : Option TypeTree)
      × ResultType ts (i + 1) j r × Stands j k)
      ⊎ ((j : ℕ) × (r : Option TypeTree) × ResultType ts i j r × Stands j k))
  Stands i (OpenParameters ∷ k) = (kind_at ts i ≡ kind.OpenRound) × (j : ℕ)
      × (ps : List ParameterTree) × Signature ts (i + 1) j ps × Stands j k
  Stands i (Parameters ∷ k) = (j : ℕ) × (ps : List ParameterTree) × Signature ts i j ps × Stands j k
  Stands i (MoreParameters ∷ k) =
      ((kind_at ts i ≡ kind.CloseRound) × Stands (i + 1) k)
      ⊎ ((kind_at ts i ≡ kind.Comma) × (j : ℕ) × (ps : List ParameterTree)
      × SpellsParameters ts (i + 1) j ps × Stands j k)
  Stands i (OpenBody ∷ k) =
      (kind_at ts i ≡ kind.OpenBrace) × (j : ℕ) × (all : Statements)
      × SpellsAll ts false (i + 1) j all × (kind_at ts j ≡ kind.CloseBrace) × Stands (j + 1) k
  Stands i (StructOrFunction ∷ k) =
      ((kind_at ts i ≡ kind.OpenBrace) × (m : ℕ) × (f : FieldTree) × SpellsField ts (i + 1) m f
      × (n : ℕ) × (fs : List FieldTree) × SpellsFields ts m n fs
      × (kind_at ts n ≡ kind.CloseBrace) × (kind_at ts (n + 1) ≡ kind.Semicolon)
      × Stands (n + 1 + 1) k)
      ⊎ ((kind_at ts i ≡ kind.Operator op.Mul) × (kind_at ts (i + 1) ≡ kind.Name) × (j : ℕ)
      × Functioning (i + 1 + 1) j × Stands j k)
  Stands i (Items ∷ k) = (xs : List ItemTree) × SpellsItems ts i (length ts) xs

  abbrev Then : ℕ → Option (List Want) → Type 0
  Then i None = ⊥
  Then i (Some k) = Stands i k

  module _ (i : ℕ) where
    operand_back : (n : ℕ) (k : List Want) (t : Kind) → kind_at ts i ≡ t → (u : Option (List Want))
        → Then (i + 1) (apply_move (wants.operand n t) k u) → (j : ℕ) × Flat ts i j × Stands j k
    operand_back n k kind.Number is u (j, tail, st) = (j, f_number is tail, st)
    operand_back n k kind.Null is u (j, tail, st) = (j, f_null is tail, st)
    operand_back n k kind.Name is u (j, tail, st) = (j, f_name is tail, st)
    operand_back n k kind.Root is u (d, nm, j, tail, st) = (j, f_root is d nm tail, st)
    operand_back n k kind.PmNew is u (o, s, nm, c, (j, tail, st)) = (j, f_new is o s nm c tail, st)
    operand_back n k kind.OpenRound is u (inl (m, f, c, j, tail, st)) =
        (j, f_round is f c tail, st)
    operand_back n k kind.OpenRound is u (inr (y, w, c, j, f, st)) = (j, f_cast y is w c f, st)
    operand_back n k (kind.Operator op.Sub) is u (j, f, st) =
        (j, f_sign unary.Negate (ap sign_of is) f, st)
    operand_back n k kind.Not is u (j, f, st) = (j, f_sign unary.Not (ap sign_of is) f, st)
    operand_back n k kind.Tilde is u (j, f, st) = (j, f_sign unary.Complement (ap sign_of is) f, st)
    operand_back n k _ is u h = absurd h

    rest_back : (n : ℕ) (k : List Want) (t : Kind) → kind_at ts i ≡ t
        → (Then (i + 1) (parser_step k t) → Stands i k)
        → Then (i + 1) (apply_move (wants.rest n t) k (parser_step k t)) → (j : ℕ) × Tail ts i j
        × Stands j k
    rest_back n k (kind.Operator o) is other (j, f, st) = (j, f_operator o is f, st)
    rest_back n k kind.Arrow is other (nm, (j, tail, st)) = (j, f_field is nm tail, st)
    rest_back n k kind.OpenSquare is other (m, f, (c, (j, tail, st))) = (j, f_index is f c tail, st)
    rest_back n k kind.Question is other (m, f, (c, j, g, st)) = (j, f_sides is f c g, st)
    rest_back n k _ is other h = (i, f_end, other h)

    named_back : (n : ℕ) (k : List Want) (t : Kind) → kind_at ts i ≡ t
        → (Then (i + 1) (parser_step k t) → Stands i k)
        → Then (i + 1) (apply_move (wants.named n t) k (parser_step k t))
        → (j : ℕ) × AfterName ts i j × Stands j k
    named_back n k kind.OpenRound is other (m, first, (j, tail, st)) = (j, f_call is first tail, st)
    named_back n k t is other h = let r = rest_back n k t is other h in (r.0, f_plain r.1, r.2)

    ident_back : (k : List Want) (t : Kind) → kind_at ts i ≡ t → (u : Option (List Want))
        → Then (i + 1) (apply_move (wants.ident t) k u) → (kind_at ts i ≡ kind.Name)
        × Stands (i + 1) k
    ident_back k (kind.Name) is u h = (is, h)
    ident_back k _ is u h = absurd h

    digits_back : (k : List Want) (t : Kind) → kind_at ts i ≡ t → (u : Option (List Want))
        → Then (i + 1) (apply_move (wants.digits t) k u) → (kind_at ts i ≡ kind.Number)
        × Stands (i + 1) k
    digits_back k (kind.Number) is u h = (is, h)
    digits_back k _ is u h = absurd h

    semicolon_back : (k : List Want) (t : Kind) → kind_at ts i ≡ t → (u : Option (List Want))
        → Then (i + 1) (apply_move (wants.semicolon t) k u) → (kind_at ts i ≡ kind.Semicolon)
        × Stands (i + 1) k
    semicolon_back k (kind.Semicolon) is u h = (is, h)
    semicolon_back k _ is u h = absurd h

    struct_word_back : (k : List Want) (t : Kind) → kind_at ts i ≡ t → (u : Option (List Want))
        → Then (i + 1) (apply_move (wants.struct_word t) k u) → (kind_at ts i ≡ kind.Struct)
        × Stands (i + 1) k
    struct_word_back k (kind.Struct) is u h = (is, h)
    struct_word_back k _ is u h = absurd h

    star_back : (k : List Want) (t : Kind) → kind_at ts i ≡ t → (u : Option (List Want))
        → Then (i + 1) (apply_move (wants.star t) k u) → (kind_at ts i ≡ kind.Operator op.Mul)
        × Stands (i + 1) k
    star_back k (kind.Operator op.Mul) is u h = (is, h)
    star_back k _ is u h = absurd h

    root_word_back : (k : List Want) (t : Kind) → kind_at ts i ≡ t → (u : Option (List Want))
        → Then (i + 1) (apply_move (wants.root_word t) k u) → (kind_at ts i ≡ kind.Root)
        × Stands (i + 1) k
    root_word_back k (kind.Root) is u h = (is, h)
    root_word_back k _ is u h = absurd h

    while_word_back : (k : List Want) (t : Kind) → kind_at ts i ≡ t → (u : Option (List Want))
        → Then (i + 1) (apply_move (wants.while_word t) k u) → (kind_at ts i ≡ kind.While)
        × Stands (i + 1) k
    while_word_back k (kind.While) is u h = (is, h)
    while_word_back k _ is u h = absurd h

    round_back : (k : List Want) (t : Kind) → kind_at ts i ≡ t → (u : Option (List Want))
        → Then (i + 1) (apply_move (wants.round_move t) k u) → (kind_at ts i ≡ kind.CloseRound)
        × Stands (i + 1) k
    round_back k (kind.CloseRound) is u h = (is, h)
    round_back k _ is u h = absurd h

    square_back : (k : List Want) (t : Kind) → kind_at ts i ≡ t → (u : Option (List Want))
        → Then (i + 1) (apply_move (wants.square t) k u) → (kind_at ts i ≡ kind.CloseSquare)
        × Stands (i + 1) k
    square_back k (kind.CloseSquare) is u h = (is, h)
    square_back k _ is u h = absurd h

    dot_back : (n : ℕ) (k : List Want) (t : Kind) → kind_at ts i ≡ t → (u : Option (List Want))
        → Then (i + 1) (apply_move (wants.dot n t) k u) → Stands i (Dot n ∷ k)
    dot_back n k kind.Dot is u (nm, (j, tail, st)) = (is, nm, j, tail, st)
    dot_back n k _ is u h = absurd h

    -- an expression in an open bracket
    expression_opened : (n : ℕ) (k : List Want)
        → (m : ℕ) × Flat ts i m × Stands m (Round ∷ Rest n ∷ k) → Stands i (Opened n ∷ k)
    expression_opened n k (m, f, (c, (j, tail, st))) = inl (m, f, c, j, tail, st)

    opened_back : (n : ℕ) (k : List Want) (t : Kind) → kind_at ts i ≡ t → (u : Option (List Want))
        → Then (i + 1) (apply_move (wants.opened n t) k u) → Stands i (Opened n ∷ k)
    opened_back n k (kind.Int y) is u (c, (j, f, st)) = inr (y, is, c, j, f, st)
    opened_back n k kind.Number is u h =
        expression_opened n k (operand_back 0 (Round ∷ Rest n ∷ k) kind.Number is None h)
    opened_back n k kind.Null is u h =
        expression_opened n k (operand_back 0 (Round ∷ Rest n ∷ k) kind.Null is None h)
    opened_back n k kind.Name is u h =
        expression_opened n k (operand_back 0 (Round ∷ Rest n ∷ k) kind.Name is None h)
    opened_back n k kind.Root is u h =
        expression_opened n k (operand_back 0 (Round ∷ Rest n ∷ k) kind.Root is None h)
    opened_back n k kind.PmNew is u h =
        expression_opened n k (operand_back 0 (Round ∷ Rest n ∷ k) kind.PmNew is None h)
    opened_back n k kind.OpenRound is u h =
        expression_opened n k (operand_back 0 (Round ∷ Rest n ∷ k) kind.OpenRound is None h)
    opened_back n k (kind.Operator op.Sub) is u h = expression_opened n k
        (operand_back 0 (Round ∷ Rest n ∷ k) (kind.Operator op.Sub) is None h)
    opened_back n k kind.Not is u h =
        expression_opened n k (operand_back 0 (Round ∷ Rest n ∷ k) kind.Not is None h)
    opened_back n k kind.Tilde is u h =
        expression_opened n k (operand_back 0 (Round ∷ Rest n ∷ k) kind.Tilde is None h)
    opened_back n k _ is u h = absurd h

    colon_back : (n : ℕ) (k : List Want) (t : Kind) → kind_at ts i ≡ t → (u : Option (List Want))
        → Then (i + 1) (apply_move (wants.colon n t) k u) → Stands i (Colon n ∷ k)
    colon_back n k kind.Colon is u (j, f, st) = (is, j, f, st)
    colon_back n k _ is u h = absurd h

    first_back : (k : List Want) (t : Kind) → kind_at ts i ≡ t → (u : Option (List Want))
        → Then (i + 1) (apply_move (wants.first_argument t) k u) → (j : ℕ) × FirstOf ts i j
        × Stands j k
    first_back k kind.CloseRound is u h = (i + 1, f_none is, h)
    first_back k kind.Number is u h = let r =
        operand_back 0 (MoreArguments ∷ k) kind.Number is None h in (r.2.0, f_some r.1 r.2.1, r.2.2)
    first_back k kind.Null is u h = let r =
        operand_back 0 (MoreArguments ∷ k) kind.Null is None h in (r.2.0, f_some r.1 r.2.1, r.2.2)
    first_back k kind.Name is u h = let r =
        operand_back 0 (MoreArguments ∷ k) kind.Name is None h in (r.2.0, f_some r.1 r.2.1, r.2.2)
    first_back k kind.Root is u h = let r =
        operand_back 0 (MoreArguments ∷ k) kind.Root is None h in (r.2.0, f_some r.1 r.2.1, r.2.2)
    first_back k kind.PmNew is u h = let r =
        operand_back 0 (MoreArguments ∷ k) kind.PmNew is None h in (r.2.0, f_some r.1 r.2.1, r.2.2)
    first_back k kind.OpenRound is u h = let r =
        operand_back 0 (MoreArguments ∷ k) kind.OpenRound is None h in
        (r.2.0, f_some r.1 r.2.1, r.2.2)
    first_back k (kind.Operator op.Sub) is u h = let r =
        operand_back 0 (MoreArguments ∷ k) (kind.Operator op.Sub) is None h in
        (r.2.0, f_some r.1 r.2.1, r.2.2)
    first_back k kind.Not is u h = let r = operand_back 0 (MoreArguments ∷ k) kind.Not is None h in
        (r.2.0, f_some r.1 r.2.1, r.2.2)
    first_back k kind.Tilde is u h = let r =
        operand_back 0 (MoreArguments ∷ k) kind.Tilde is None h in (r.2.0, f_some r.1 r.2.1, r.2.2)
    first_back k _ is u h = absurd h

    more_back : (k : List Want) (t : Kind) → kind_at ts i ≡ t → (u : Option (List Want))
        → Then (i + 1) (apply_move (wants.more_arguments t) k u) → (j : ℕ) × OthersOf ts i j
        × Stands j k
    more_back k kind.CloseRound is u h = (i + 1, f_close is, h)
    more_back k kind.Comma is u (m, f, (j, others, st)) = (j, f_comma is f others, st)
    more_back k _ is u h = absurd h

    new_back : (k : List Want) (t : Kind) → kind_at ts i ≡ t → (u : Option (List Want))
        → Then (i + 1) (apply_move (wants.new_open t) k u) → Stands i (NewOpen ∷ k)
    new_back k kind.OpenRound is u (s, (nm, (c, st))) = (is, s, nm, c, st)
    new_back k _ is u h = absurd h

    target_back : (n : ℕ) (k : List Want) (t : Kind) → kind_at ts i ≡ t → (u : Option (List Want))
        → Then (i + 1) (apply_move (wants.target_move n t) k u) → (j : ℕ) × Acting i j × Stands j k
    target_back n k (kind.Assign o) is u (j, f, st) = let r = flat_tree ts (i + 1) j f in
        (j, λ a. (i, a, tree.Assign a o i r.0, parts_end, assigns o is r.1), st)
    target_back n k (kind.Step o) is u st =
        (i + 1, λ a. (i, a, tree.Step a o i, parts_end, steps o is), st)
    target_back n k kind.Arrow is u (nm, (j, acting, st)) = (
      j,
      λ a. let r = acting (trees.Arrow a i (ident_at ts (i + 1))) in
          (r.0, r.1, r.2, field is nm r.3, r.4),
      st,
    )
    target_back n k kind.OpenSquare is u (m, f, (c, (j, acting, st))) =
        let w = flat_tree ts (i + 1) m f in (
          j,
          λ a. let r = acting (trees.Index a i w.0) in
              (r.0, r.1, r.2, element is w.1 c r.3, r.4),
          st,
        )
    target_back n k _ is u h = absurd h

    called_back : (k : List Want) (t : Kind) → kind_at ts i ≡ t
        → (Then (i + 1) (parser_step k t) → Stands i k)
        → Then (i + 1) (apply_move (wants.called_move t) k (parser_step k t))
        → ((j : ℕ) × Acting i j × Stands j k) ⊎ Stands i k
    called_back k (kind.Assign o) is other h = inl (target_back 0 k (kind.Assign o) is None h)
    called_back k (kind.Step o) is other h = inl (target_back 0 k (kind.Step o) is None h)
    called_back k kind.Arrow is other h = inl (target_back 0 k kind.Arrow is None h)
    called_back k kind.OpenSquare is other h = inl (target_back 0 k kind.OpenSquare is None h)
    called_back k _ is other h = inr (other h)

    named_target_back : (k : List Want) (t : Kind) → kind_at ts i ≡ t → (u : Option (List Want))
        → Then (i + 1) (apply_move (wants.named_target t) k u) → Stands i (NamedTarget ∷ k)
    named_target_back k kind.OpenRound is u (m, first, rest) = let a =
        first_tree ts (i + 1) m first in inr (is, m, a.0, a.1, rest)
    named_target_back k t is u h = inl (target_back 0 k t is u h)

    dot_target_back : (k : List Want) (t : Kind) → kind_at ts i ≡ t → (u : Option (List Want))
        → Then (i + 1) (apply_move (wants.dot_target t) k u) → Stands i (DotTarget ∷ k)
    dot_target_back k kind.Dot is u (nm, (j, acting, st)) = (is, nm, j, acting, st)
    dot_target_back k _ is u h = absurd h

    open_expression_back : (k : List Want) (t : Kind) → kind_at ts i ≡ t → (u : Option (List Want))
        → Then (i + 1) (apply_move (wants.open_expression t) k u) → Stands i (OpenExpression ∷ k)
    open_expression_back k kind.OpenRound is u (m, f, (c, st)) = let r = flat_tree ts (i + 1) m f in
        (m + 1, r.0, bracketed is r.1 c, st)
    open_expression_back k _ is u h = absurd h

    open_nothing_back : (k : List Want) (t : Kind) → kind_at ts i ≡ t → (u : Option (List Want))
        → Then (i + 1) (apply_move (wants.open_nothing t) k u) → Stands i (OpenNothing ∷ k)
    open_nothing_back k kind.OpenRound is u (c, st) = (is, c, st)
    open_nothing_back k _ is u h = absurd h

    initial_back : (k : List Want) (t : Kind) → kind_at ts i ≡ t
        → (Then (i + 1) (parser_step k t) → Stands i k)
        → Then (i + 1) (apply_move (wants.initial t) k (parser_step k t)) → Stands i (Initial ∷ k)
    initial_back k (kind.Assign assign.Set) is other (j, f, st) = let r =
        flat_tree ts (i + 1) j f in inl (is, j, r.0, r.1, st)
    initial_back k _ is other h = inr (other h)

    value_back : (k : List Want) (t : Kind) → kind_at ts i ≡ t
        → (Then (i + 1) (parser_step k t) → Stands i k)
        → Then (i + 1) (apply_move (wants.perhaps (wants.operand 0 t)) k (parser_step k t))
        → Stands i (Value ∷ k)
    value_back k kind.Number is other h = let f = operand_back 0 k kind.Number is None h in
        let r = flat_tree ts i f.0 f.1 in (f.0, Some r.0, value_some r.1, f.2)
    value_back k kind.Null is other h = let f = operand_back 0 k kind.Null is None h in
        let r = flat_tree ts i f.0 f.1 in (f.0, Some r.0, value_some r.1, f.2)
    value_back k kind.Name is other h = let f = operand_back 0 k kind.Name is None h in
        let r = flat_tree ts i f.0 f.1 in (f.0, Some r.0, value_some r.1, f.2)
    value_back k kind.Root is other h = let f = operand_back 0 k kind.Root is None h in
        let r = flat_tree ts i f.0 f.1 in (f.0, Some r.0, value_some r.1, f.2)
    value_back k kind.PmNew is other h = let f = operand_back 0 k kind.PmNew is None h in
        let r = flat_tree ts i f.0 f.1 in (f.0, Some r.0, value_some r.1, f.2)
    value_back k kind.OpenRound is other h = let f = operand_back 0 k kind.OpenRound is None h in
        let r = flat_tree ts i f.0 f.1 in (f.0, Some r.0, value_some r.1, f.2)
    value_back k (kind.Operator op.Sub) is other h = let f =
        operand_back 0 k (kind.Operator op.Sub) is None h in let r = flat_tree ts i f.0 f.1 in
        (f.0, Some r.0, value_some r.1, f.2)
    value_back k kind.Not is other h = let f = operand_back 0 k kind.Not is None h in
        let r = flat_tree ts i f.0 f.1 in (f.0, Some r.0, value_some r.1, f.2)
    value_back k kind.Tilde is other h = let f = operand_back 0 k kind.Tilde is None h in
        let r = flat_tree ts i f.0 f.1 in (f.0, Some r.0, value_some r.1, f.2)
    value_back k _ is other h = (i, None, value_none, other h)

    -- an action on a target is a simple statement
    acted : (m j : ℕ) (a : ExprTree) (k : List Want) → Primary ts i m a → Acting m j → Stands j k
        → (j : ℕ) × (s : SimpleTree) × Simply ts i j s × Stands j k
    acted m j a k p acting st = let r = acting a in (j, r.2, acts (postfix p r.3) r.4, st)

    simple_back : (k : List Want) (t : Kind) → kind_at ts i ≡ t → (u : Option (List Want))
        → Then (i + 1) (apply_move (wants.simple_begins t) k u) → (j : ℕ) × (s : SimpleTree)
        × Simply ts i j s × Stands j k
    simple_back k kind.Number is u (j, acting, st) =
        acted (i + 1) j (trees.Number (value_at ts i)) k (number is) acting st
    simple_back k kind.Null is u (j, acting, st) = acted (i + 1) j trees.Null k (null is) acting st
    simple_back k kind.Name is u (inl (j, acting, st)) =
        acted (i + 1) j (trees.Variable (ident_at ts i)) k (variable is) acting st
    simple_back k kind.Name is u (inr (o, m, all, a, inl (j, acting, st))) =
        acted m j (trees.Call (ident_at ts i) all) k (call is o a) acting st
    simple_back k kind.Name is u (inr (o, m, all, a, inr st)) =
        (m, tree.Call (ident_at ts i) all, calls is o a, st)
    simple_back k kind.Root is u (d, nm, j, acting, st) =
        acted (i + 1 + 1 + 1) j (trees.Root (ident_at ts (i + 1 + 1))) k (root is d nm) acting st
    simple_back k kind.PmNew is u (o, s, nm, c, (j, acting, st)) =
        acted (i + 1 + 1 + 1 + 1 + 1) j (trees.New i (ident_at ts (i + 1 + 1 + 1))) k
        (new is o s nm c) acting st
    simple_back k kind.OpenRound is u (m, f, (c, (j, acting, st))) = let r =
        flat_tree ts (i + 1) m f in acted (m + 1) j r.0 k (brackets is r.1 c) acting st
    simple_back k kind.PmFree is u (j, e, br, st) = (j, tree.Free i e, frees is br, st)
    simple_back k kind.Abort is u (o, c, st) = (i + 1 + 1 + 1, tree.Abort i, aborts is o c, st)
    simple_back k _ is u h = absurd h

    typed_back : (k : List Want) (t : Kind) → kind_at ts i ≡ t → (u : Option (List Want))
        → Then (i + 1) (apply_move (wants.type_begins t) k u) → (j : ℕ) × (x : TypeTree)
        × Typed ts i j x × Stands j k
    typed_back k (kind.Int y) is u st = (i + 1, tree.Int y, int y is, st)
    typed_back k kind.Struct is u (nm, (s, st)) =
        (i + 1 + 1 + 1, tree.Pointer (ident_at ts (i + 1)), pointer is nm s, st)
    typed_back k _ is u h = absurd h

    -- a declaration, from the place after its type
    declared : (m : ℕ) (t : TypeTree) (k : List Want) → Typed ts i m t
        → Stands m (Ident ∷ Initial ∷ k) → (j : ℕ) × (d : DeclarationTree) × Declares ts i j d
        × Stands j k
    declared m t k ty (nm, inl (is, j, e, lv, st)) = (
      j,
      record {
        ty = t;
        name = ident_at ts m;
        initial = Some (record { place = m + 1; value = e });
      },
      initial ty nm is lv,
      st,
    )
    declared m t k ty (nm, inr st) =
        (m + 1, record { ty = t; name = ident_at ts m; initial = None }, plain ty nm, st)

    declares_back : (k : List Want) (t : Kind) → kind_at ts i ≡ t → (u : Option (List Want))
        → Then (i + 1) (apply_move (wants.type_begins t) (Ident ∷ Initial ∷ k) u)
        → (j : ℕ) × (d : DeclarationTree) × Declares ts i j d × Stands j k
    declares_back k t is u h = let r = typed_back (Ident ∷ Initial ∷ k) t is u h in
        declared r.0 r.1 k r.2 r.3

    -- the `if` statement, from the tokens after its body
    choice_back : (loop : Bool) (m j : ℕ) (e : ExprTree) (s : StmtTree) (k : List Want)
        → kind_at ts i ≡ kind.If → Bracketed ts (i + 1) m e → Spells ts loop m j s
        → Stands j (Else loop ∷ k) → (n : ℕ) × (s : StmtTree) × Spells ts loop i n s × Stands n k
    choice_back loop m j e s k is c h (inl (other, n, b, g, after)) =
        (n, tree.IfElse e s b, if_else is c h other g, after)
    choice_back loop m j e s k is c h (inr (other, after)) =
        (j, tree.If e s, if_alone is c h other, after)

    simply_ends : (loop : Bool) (k : List Want) (t : Kind) → kind_at ts i ≡ t
        → (u : Option (List Want)) → Then (i + 1)
        (apply_move (wants.simple_begins t) (Semicolon ∷ k) u)
        → (j : ℕ) × (s : StmtTree) × Spells ts loop i j s × Stands j k
    simply_ends loop k t is u h = let r = simple_back (Semicolon ∷ k) t is u h in
        (r.0 + 1, tree.Simple r.1, simply r.2 r.3.0, r.3.1)

    statement_back : (loop : Bool) (k : List Want) (t : Kind) → kind_at ts i ≡ t
        → (u : Option (List Want)) → Then (i + 1) (apply_move (wants.statement loop t) k u)
        → (j : ℕ) × (s : StmtTree) × Spells ts loop i j s × Stands j k
    statement_back loop k kind.Semicolon is u st = (i + 1, tree.Empty, empty is, st)
    statement_back loop k (kind.Int y) is u h = let r =
        declares_back (Semicolon ∷ k) (kind.Int y) is None h in
        (r.0 + 1, tree.Declares r.1, declares r.2 r.3.0, r.3.1)
    statement_back loop k kind.Struct is u h = let r =
        declares_back (Semicolon ∷ k) kind.Struct is None h in
        (r.0 + 1, tree.Declares r.1, declares r.2 r.3.0, r.3.1)
    statement_back loop k kind.OpenBrace is u (j, all, h, z, st) =
        (j + 1, tree.Block all, block is h z, st)
    statement_back loop k kind.If is u (m, e, br, (j, s, h, after)) =
        choice_back loop m j e s k is br h after
    statement_back loop k kind.While is u (m, e, br, (j, s, h, after)) =
        (j, tree.While i e s, repeats is br h, after)
    statement_back loop k kind.Do is u (m, s, h, (w, (j, e, br, (z, after)))) =
        (j + 1, tree.Do i s e, repeats_after is h w br z, after)
    statement_back loop k kind.For is u (
      o,
      m,
      f,
      fp,
      z,
      n,
      v,
      vp,
      z2,
      p,
      t,
      tp,
      c,
      (j, s, h, after),
    ) = (j, tree.For i f v t s, counts is o fp z vp z2 tp c h, after)
    statement_back true k kind.Break is u (z, st) = (i + 1 + 1, tree.Break, breaks is z, st)
    statement_back false k kind.Break is u h = absurd h
    statement_back true k kind.Continue is u (z, st) =
        (i + 1 + 1, tree.Continue, continues is z, st)
    statement_back false k kind.Continue is u h = absurd h
    statement_back loop k kind.Return is u (m, v, vp, (z, st)) =
        (m + 1, tree.Return i v, returns is vp z, st)
    statement_back loop k kind.Number is u h = simply_ends loop k kind.Number is None h
    statement_back loop k kind.Null is u h = simply_ends loop k kind.Null is None h
    statement_back loop k kind.Name is u h = simply_ends loop k kind.Name is None h
    statement_back loop k kind.Root is u h = simply_ends loop k kind.Root is None h
    statement_back loop k kind.PmNew is u h = simply_ends loop k kind.PmNew is None h
    statement_back loop k kind.OpenRound is u h = simply_ends loop k kind.OpenRound is None h
    statement_back loop k kind.PmFree is u h = simply_ends loop k kind.PmFree is None h
    statement_back loop k kind.Abort is u h = simply_ends loop k kind.Abort is None h
    statement_back loop k _ is u h = absurd h

    body_back : (loop : Bool) (k : List Want) (t : Kind) → kind_at ts i ≡ t
        → (u : Option (List Want)) → Then (i + 1) (apply_move (wants.body loop t) k u)
        → Stands i (Body loop ∷ k)
    body_back loop k kind.OpenBrace is u (j, all, h, z, st) =
        (j + 1, tree.Block all, block is h z, st)
    body_back loop k kind.Semicolon is u h = statement_back loop (Bare ∷ k) kind.Semicolon is None h
    body_back loop k (kind.Int y) is u h = statement_back loop (Bare ∷ k) (kind.Int y) is None h
    body_back loop k kind.Struct is u h = statement_back loop (Bare ∷ k) kind.Struct is None h
    body_back loop k kind.If is u h = statement_back loop (Bare ∷ k) kind.If is None h
    body_back loop k kind.While is u h = statement_back loop (Bare ∷ k) kind.While is None h
    body_back loop k kind.Do is u h = statement_back loop (Bare ∷ k) kind.Do is None h
    body_back loop k kind.For is u h = statement_back loop (Bare ∷ k) kind.For is None h
    body_back loop k kind.Return is u h = statement_back loop (Bare ∷ k) kind.Return is None h
    body_back loop k kind.Number is u h = statement_back loop (Bare ∷ k) kind.Number is None h
    body_back loop k kind.Null is u h = statement_back loop (Bare ∷ k) kind.Null is None h
    body_back loop k kind.Name is u h = statement_back loop (Bare ∷ k) kind.Name is None h
    body_back loop k kind.Root is u h = statement_back loop (Bare ∷ k) kind.Root is None h
    body_back loop k kind.PmNew is u h = statement_back loop (Bare ∷ k) kind.PmNew is None h
    body_back loop k kind.OpenRound is u h = statement_back loop (Bare ∷ k) kind.OpenRound is None h
    body_back loop k kind.PmFree is u h = statement_back loop (Bare ∷ k) kind.PmFree is None h
    body_back loop k kind.Abort is u h = statement_back loop (Bare ∷ k) kind.Abort is None h
    body_back true k kind.Break is u h = statement_back true (Bare ∷ k) kind.Break is None h
    body_back false k kind.Break is u h = absurd h
    body_back true k kind.Continue is u h = statement_back true (Bare ∷ k) kind.Continue is None h
    body_back false k kind.Continue is u h = absurd h
    body_back loop k _ is u h = absurd h

    else_back : (loop : Bool) (k : List Want) (t : Kind) → kind_at ts i ≡ t
        → (Then (i + 1) (parser_step k t) → Stands i k)
        → Then (i + 1) (apply_move (wants.else_move loop t) k (parser_step k t))
        → Stands i (Else loop ∷ k)
    else_back loop k kind.Else is other (j, s, h, st) = inl (is, j, s, h, st)
    else_back loop k _ is other h = inr (λ e. cc (sym is ∙ e), other h)

    prepend : (loop : Bool) (k : List Want) → (j : ℕ) × (s : StmtTree) × Spells ts loop i j s
        × Stands j (Block loop ∷ k) → Stands i (Block loop ∷ k)
    prepend loop k (j, s, h, (n, all, g, z, st)) = (n, tree.Then s all, something h g, z, st)

    block_back : (loop : Bool) (k : List Want) (t : Kind) → kind_at ts i ≡ t
        → (u : Option (List Want)) → Then (i + 1) (apply_move (wants.block loop t) k u)
        → Stands i (Block loop ∷ k)
    block_back loop k kind.CloseBrace is u h = (i, tree.Nothing, nothing, is, h)
    block_back loop k kind.Semicolon is u h =
        prepend loop k (statement_back loop (Block loop ∷ k) kind.Semicolon is None h)
    block_back loop k (kind.Int y) is u h =
        prepend loop k (statement_back loop (Block loop ∷ k) (kind.Int y) is None h)
    block_back loop k kind.Struct is u h =
        prepend loop k (statement_back loop (Block loop ∷ k) kind.Struct is None h)
    block_back loop k kind.If is u h =
        prepend loop k (statement_back loop (Block loop ∷ k) kind.If is None h)
    block_back loop k kind.While is u h =
        prepend loop k (statement_back loop (Block loop ∷ k) kind.While is None h)
    block_back loop k kind.Do is u h =
        prepend loop k (statement_back loop (Block loop ∷ k) kind.Do is None h)
    block_back loop k kind.For is u h =
        prepend loop k (statement_back loop (Block loop ∷ k) kind.For is None h)
    block_back loop k kind.Return is u h =
        prepend loop k (statement_back loop (Block loop ∷ k) kind.Return is None h)
    block_back loop k kind.Number is u h =
        prepend loop k (statement_back loop (Block loop ∷ k) kind.Number is None h)
    block_back loop k kind.Null is u h =
        prepend loop k (statement_back loop (Block loop ∷ k) kind.Null is None h)
    block_back loop k kind.Name is u h =
        prepend loop k (statement_back loop (Block loop ∷ k) kind.Name is None h)
    block_back loop k kind.Root is u h =
        prepend loop k (statement_back loop (Block loop ∷ k) kind.Root is None h)
    block_back loop k kind.PmNew is u h =
        prepend loop k (statement_back loop (Block loop ∷ k) kind.PmNew is None h)
    block_back loop k kind.OpenRound is u h =
        prepend loop k (statement_back loop (Block loop ∷ k) kind.OpenRound is None h)
    block_back loop k kind.PmFree is u h =
        prepend loop k (statement_back loop (Block loop ∷ k) kind.PmFree is None h)
    block_back loop k kind.Abort is u h =
        prepend loop k (statement_back loop (Block loop ∷ k) kind.Abort is None h)
    block_back loop k kind.OpenBrace is u h =
        prepend loop k (statement_back loop (Block loop ∷ k) kind.OpenBrace is None h)
    block_back true k kind.Break is u h =
        prepend true k (statement_back true (Block true ∷ k) kind.Break is None h)
    block_back false k kind.Break is u h = absurd h
    block_back true k kind.Continue is u h =
        prepend true k (statement_back true (Block true ∷ k) kind.Continue is None h)
    block_back false k kind.Continue is u h = absurd h
    block_back loop k _ is u h = absurd h

    open_for_back : (k : List Want) (t : Kind) → kind_at ts i ≡ t → (u : Option (List Want))
        → Then (i + 1) (apply_move (wants.open_for t) k u) → Stands i (OpenFor ∷ k)
    open_for_back k kind.OpenRound is u (m, f, fp, (z, (n, v, vp, (z2, (p, t, tp, (c, st)))))) =
        (is, m, f, fp, z, n, v, vp, z2, p, t, tp, c, st)
    open_for_back k _ is u h = absurd h

    first_part_back : (k : List Want) (t : Kind) → kind_at ts i ≡ t
        → (Then (i + 1) (parser_step k t) → Stands i k)
        → Then (i + 1) (apply_move (wants.for_first t) k (parser_step k t))
        → Stands i (ForFirst ∷ k)
    first_part_back k (kind.Int y) is other h = let r = declares_back k (kind.Int y) is None h in
        (r.0, Some (tree.Declare r.1), first_declares r.2, r.3)
    first_part_back k kind.Struct is other h = let r = declares_back k kind.Struct is None h in
        (r.0, Some (tree.Declare r.1), first_declares r.2, r.3)
    first_part_back k kind.Number is other h = let r = simple_back k kind.Number is None h in
        (r.0, Some (tree.Simply r.1), first_simply r.2, r.3)
    first_part_back k kind.Null is other h = let r = simple_back k kind.Null is None h in
        (r.0, Some (tree.Simply r.1), first_simply r.2, r.3)
    first_part_back k kind.Name is other h = let r = simple_back k kind.Name is None h in
        (r.0, Some (tree.Simply r.1), first_simply r.2, r.3)
    first_part_back k kind.Root is other h = let r = simple_back k kind.Root is None h in
        (r.0, Some (tree.Simply r.1), first_simply r.2, r.3)
    first_part_back k kind.PmNew is other h = let r = simple_back k kind.PmNew is None h in
        (r.0, Some (tree.Simply r.1), first_simply r.2, r.3)
    first_part_back k kind.OpenRound is other h = let r = simple_back k kind.OpenRound is None h in
        (r.0, Some (tree.Simply r.1), first_simply r.2, r.3)
    first_part_back k kind.PmFree is other h = let r = simple_back k kind.PmFree is None h in
        (r.0, Some (tree.Simply r.1), first_simply r.2, r.3)
    first_part_back k kind.Abort is other h = let r = simple_back k kind.Abort is None h in
        (r.0, Some (tree.Simply r.1), first_simply r.2, r.3)
    first_part_back k _ is other h = (i, None, first_none, other h)

    third_part_back : (k : List Want) (t : Kind) → kind_at ts i ≡ t
        → (Then (i + 1) (parser_step k t) → Stands i k)
        → Then (i + 1) (apply_move (wants.perhaps (wants.simple_begins t)) k (parser_step k t))
        → Stands i (ForThird ∷ k)
    third_part_back k kind.Number is other h = let r = simple_back k kind.Number is None h in
        (r.0, Some r.1, third_some r.2, r.3)
    third_part_back k kind.Null is other h = let r = simple_back k kind.Null is None h in
        (r.0, Some r.1, third_some r.2, r.3)
    third_part_back k kind.Name is other h = let r = simple_back k kind.Name is None h in
        (r.0, Some r.1, third_some r.2, r.3)
    third_part_back k kind.Root is other h = let r = simple_back k kind.Root is None h in
        (r.0, Some r.1, third_some r.2, r.3)
    third_part_back k kind.PmNew is other h = let r = simple_back k kind.PmNew is None h in
        (r.0, Some r.1, third_some r.2, r.3)
    third_part_back k kind.OpenRound is other h = let r = simple_back k kind.OpenRound is None h in
        (r.0, Some r.1, third_some r.2, r.3)
    third_part_back k kind.PmFree is other h = let r = simple_back k kind.PmFree is None h in
        (r.0, Some r.1, third_some r.2, r.3)
    third_part_back k kind.Abort is other h = let r = simple_back k kind.Abort is None h in
        (r.0, Some r.1, third_some r.2, r.3)
    third_part_back k _ is other h = (i, None, third_none, other h)

    length_back : (k : List Want) (t : Kind) → kind_at ts i ≡ t
        → (Then (i + 1) (parser_step k t) → Stands i k)
        → Then (i + 1) (apply_move (wants.length_move t) k (parser_step k t))
        → Stands i (Length ∷ k)
    length_back k kind.OpenSquare is other (d, (c, st)) = inl (is, d, c, st)
    length_back k _ is other h = inr (other h)

    -- a field, from the place after its type
    fielded : (m : ℕ) (t : TypeTree) (k : List Want) → Typed ts i m t
        → Stands m (Ident ∷ Length ∷ Semicolon ∷ k) → (j : ℕ) × (f : FieldTree)
        × SpellsField ts i j f
        × Stands j k
    fielded m t k ty (nm, inl (o, d, c, (z, st))) = (
      m + 1 + 1 + 1 + 1 + 1,
      record {
        ty = t;
        name = ident_at ts m;
        len = Some (record { value = value_at ts (m + 1 + 1); place = m + 1 + 1 });
      },
      array ty nm o d c z,
      st,
    )
    fielded m t k ty (nm, inr (z, st)) =
        (m + 1 + 1, record { ty = t; name = ident_at ts m; len = None }, single ty nm z, st)

    fields_one : (k : List Want) (t : Kind) → kind_at ts i ≡ t → (u : Option (List Want))
        → Then (i + 1) (apply_move (wants.type_begins t) (Ident ∷ Length ∷ Semicolon ∷ Fields ∷ k)
        u)
        → Stands i (Fields ∷ k)
    fields_one k t is u h =
        let r = typed_back (Ident ∷ Length ∷ Semicolon ∷ Fields ∷ k) t is u h in
        let f = fielded r.0 r.1 (Fields ∷ k) r.2 r.3 in
        (f.3.0, f.1 ∷ f.3.1, fields_more f.2 f.3.2, f.3.3, f.3.4)

    fields_back : (k : List Want) (t : Kind) → kind_at ts i ≡ t → (u : Option (List Want))
        → Then (i + 1) (apply_move (wants.fields t) k u) → Stands i (Fields ∷ k)
    fields_back k kind.CloseBrace is u h = (i, [], fields_end, is, h)
    fields_back k (kind.Int y) is u h = fields_one k (kind.Int y) is None h
    fields_back k kind.Struct is u h = fields_one k kind.Struct is None h
    fields_back k _ is u h = absurd h

    result_back : (k : List Want) (t : Kind) → kind_at ts i ≡ t → (u : Option (List Want))
        → Then (i + 1) (apply_move (wants.result_begins t) k u) → Stands i (Result ∷ k)
    result_back k kind.Void is u st = (i + 1, None, result_void is, st)
    result_back k (kind.Int y) is u h = let r = typed_back k (kind.Int y) is None h in
        (r.0, Some r.1, result_some r.2, r.3)
    result_back k kind.Struct is u h = let r = typed_back k kind.Struct is None h in
        (r.0, Some r.1, result_some r.2, r.3)
    result_back k _ is u h = absurd h

    tx_result_back : (k : List Want) (t : Kind) → kind_at ts i ≡ t → (u : Option (List Want))
        → Then (i + 1) (apply_move (wants.tx_result t) k u) → Stands i (TxResult ∷ k)
    tx_result_back k kind.Abort is u (j, r, rt, st) = inl (is, j, r, rt, st)
    tx_result_back k kind.Const is u (j, r, rt, st) = inr (inl (is, j, r, rt, st))
    tx_result_back k t is u h = inr (inr (result_back k t is u h))

    open_parameters_back : (k : List Want) (t : Kind) → kind_at ts i ≡ t → (u : Option (List Want))
        → Then (i + 1) (apply_move (wants.open_parameters t) k u) → Stands i (OpenParameters ∷ k)
    open_parameters_back k kind.OpenRound is u (j, ps, s, st) = (is, j, ps, s, st)
    open_parameters_back k _ is u h = absurd h

    -- parameters, from the place after the first one's type
    parametered : (m : ℕ) (t : TypeTree) (k : List Want) → Typed ts i m t
        → Stands m (Ident ∷ MoreParameters ∷ k) → (j : ℕ) × (ps : List ParameterTree)
        × SpellsParameters ts i j ps × Stands j k
    parametered m t k ty (nm, inl (c, st)) =
        (m + 1 + 1, record { ty = t; name = ident_at ts m } ∷ [], parameters_last ty nm c, st)
    parametered m t k ty (nm, inr (c, j, ps, s, st)) =
        (j, record { ty = t; name = ident_at ts m } ∷ ps, parameters_more ty nm c s, st)

    parameters_one : (k : List Want) (t : Kind) → kind_at ts i ≡ t → (u : Option (List Want))
        → Then (i + 1) (apply_move (wants.type_begins t) (Ident ∷ MoreParameters ∷ k) u)
        → Stands i (Parameters ∷ k)
    parameters_one k t is u h =
        let r = typed_back (Ident ∷ MoreParameters ∷ k) t is u h in
        let p = parametered r.0 r.1 k r.2 r.3 in (p.0, p.1, signature_some p.2, p.3)

    parameters_back : (k : List Want) (t : Kind) → kind_at ts i ≡ t → (u : Option (List Want))
        → Then (i + 1) (apply_move (wants.parameters_move t) k u) → Stands i (Parameters ∷ k)
    parameters_back k kind.CloseRound is u st = (i + 1, [], signature_none is, st)
    parameters_back k kind.Void is u (c, st) = (i + 1 + 1, [], signature_void is c, st)
    parameters_back k (kind.Int y) is u h = parameters_one k (kind.Int y) is None h
    parameters_back k kind.Struct is u h = parameters_one k kind.Struct is None h
    parameters_back k _ is u h = absurd h

    open_body_back : (k : List Want) (t : Kind) → kind_at ts i ≡ t → (u : Option (List Want))
        → Then (i + 1) (apply_move (wants.open_body t) k u) → Stands i (OpenBody ∷ k)
    open_body_back k kind.OpenBrace is u (j, all, h, z, st) = (is, j, all, h, z, st)
    open_body_back k _ is u h = absurd h

  -- a parameter, from the place after its comma
  more_parametered : (i m : ℕ) (t : TypeTree) (k : List Want) → kind_at ts i ≡ kind.Comma
      → Typed ts (i + 1) m t → Stands m (Ident ∷ MoreParameters ∷ k) → Stands i (MoreParameters ∷ k)
  more_parametered i m t k is ty h = let p = parametered (i + 1) m t k ty h in
      inr (is, p.0, p.1, p.2, p.3)

  more_parameters_back : (i : ℕ) (k : List Want) (t : Kind) → kind_at ts i ≡ t
      → (u : Option (List Want)) → Then (i + 1) (apply_move (wants.more_parameters t) k u)
      → Stands i (MoreParameters ∷ k)
  more_parameters_back i k kind.CloseRound is u st = inl (is, st)
  more_parameters_back i k kind.Comma is u (m, t, ty, h) = more_parametered i m t k is ty h
  more_parameters_back i k _ is u h = absurd h

  -- the tokens that meet the wants for a name, parameters and a body
  functioned : (m : ℕ) (k : List Want) → Stands m (Ident ∷ OpenParameters ∷ OpenBody ∷ k)
      → (kind_at ts m ≡ kind.Name) × (j : ℕ) × Functioning (m + 1) j × Stands j k
  functioned m k (nm, (o, n, ps, s, (b, p, all, h, z, st))) =
      (nm, p + 1, (o, n, ps, s, b, p, all, h, z, refl), st)

  struct_or_function_back : (i : ℕ) (k : List Want) (t : Kind) → kind_at ts i ≡ t
      → (u : Option (List Want)) → Then (i + 1) (apply_move (wants.struct_or_function t) k u)
      → Stands i (StructOrFunction ∷ k)
  struct_or_function_back i k kind.OpenBrace is u (m, t, ty, h) =
      let f = fielded (i + 1) m t (Fields ∷ Semicolon ∷ k) ty h in
      let g = f.3 in
      inl (is, f.0, f.1, f.2, g.0, g.1, g.2, g.3, g.4.0, g.4.1)
  struct_or_function_back i k (kind.Operator op.Mul) is u h = let r = functioned (i + 1) k h in
      inr (is, r.0, r.1, r.2, r.3)
  struct_or_function_back i k _ is u h = absurd h

  -- a function, from its result on
  made : (tx : Bool) (b : Marked) (i m j : ℕ) (r : Option TypeTree) → ResultType ts i m r
      → kind_at ts m ≡ kind.Name → Functioning (m + 1) j
      → (x : ItemTree) × SpellsFunction ts tx b i j x
  made tx b i m j r rt nm (o, n, ps, s, c, p, all, h, z, e) = (
    itree.Function (record {
      tx = tx;
      mark = b;
      result_type = r;
      name = ident_at ts m;
      parameters = ps;
      body = all;
    }),
    subst (λ j. SpellsFunction ts tx b i j
        (itree.Function (record {
          tx = tx;
          mark = b;
          result_type = r;
          name = ident_at ts m;
          parameters = ps;
          body = all;
        }))) (sym e)
        (function rt nm o s c h z),
  )

  item_more : (i j : ℕ) (x : ItemTree) → SpellsItem ts i j x → (xs : List ItemTree)
      × SpellsItems ts j (length ts) xs → (xs : List ItemTree) × SpellsItems ts i (length ts) xs
  item_more i j x h (xs, g) = (x ∷ xs, items_more h g)

  item_plain : (i m : ℕ) (k : List Want) (r : Option TypeTree) → ResultType ts i m r
      → Stands m (Ident ∷ OpenParameters ∷ OpenBody ∷ Items ∷ k) → (xs : List ItemTree)
      × SpellsItems ts i (length ts) xs
  item_plain i m k r rt h = let f = functioned m (Items ∷ k) h in
      let x = made false mark_of.Plain i m f.1 r rt f.0 f.2 in
      item_more i f.1 x.0 (plain_function x.1) f.3

  items_back : (i : ℕ) (k : List Want) (t : Kind) → kind_at ts i ≡ t → IsToken t
      → Then (i + 1) (apply_move (wants.items t) k (parser_step k t)) → (xs : List ItemTree)
      × SpellsItems ts i (length ts) xs
  items_back i k kind.Struct is token (nm, inl (b, m, f, fh, n, fs, fsh, c, z, rest)) =
      item_more i (n + 1 + 1) (itree.Struct (ident_at ts (i + 1)) (f ∷ fs))
      (struct_def is nm b fh fsh c z) rest
  items_back i k kind.Struct is token (nm, inr (s, fnm, j, fun, rest)) =
      let x = made false mark_of.Plain i (i + 1 + 1 + 1) j
      (Some (tree.Pointer (ident_at ts (i + 1)))) (result_some (pointer is nm s)) fnm fun in
      item_more i j x.0 (plain_function x.1) rest
  items_back i k kind.Persistent is token (w, (nm, (r, (z, rest)))) =
      item_more i (i + 1 + 1 + 1 + 1 + 1) (itree.Root (ident_at ts (i + 1 + 1)) (i + 1 + 1 + 1))
      (root_decl is w nm r z) rest
  items_back i k kind.Tx is token (inl (word, m, r, rt, h)) =
      let f = functioned m (Items ∷ k) h in
      let x = made true mark_of.Abort (i + 1 + 1) m f.1 r rt f.0 f.2 in
      item_more i f.1 x.0 (transaction (marked_abort is word) x.1) f.3
  items_back i k kind.Tx is token (inr (inl (word, m, r, rt, h))) =
      let f = functioned m (Items ∷ k) h in
      let x = made true mark_of.Const (i + 1 + 1) m f.1 r rt f.0 f.2 in
      item_more i f.1 x.0 (transaction (marked_const is word) x.1) f.3
  items_back i k kind.Tx is token (inr (inr (m, r, rt, h))) =
      let f = functioned m (Items ∷ k) h in
      let x = made true mark_of.Plain (i + 1) m f.1 r rt f.0 f.2 in
      item_more i f.1 x.0 (transaction (unmarked is) x.1) f.3
  items_back i k (kind.Int y) is token h =
      item_plain i (i + 1) k (Some (tree.Int y)) (result_some (int y is)) h
  items_back i k kind.Void is token h = item_plain i (i + 1) k None (result_void is) h
  items_back i k kind.End is token h = absurd token
  items_back i k _ is token h = absurd h

  module _ (i : ℕ) where
    empty_back : (t : Kind) → IsToken t → Then (i + 1) (parser_step [] t) → i ≡ length ts
    empty_back kind.End token h = absurd token
    empty_back _ token h = absurd h

    back : (k : List Want) (t : Kind) → kind_at ts i ≡ t → IsToken t
        → Then (i + 1) (parser_step k t) → Stands i k
    back [] t is token h = empty_back t token h
    back (Operand n ∷ k) t is token h = operand_back i n k t is (parser_step k t) h
    back (Rest n ∷ k) t is token h = rest_back i n k t is (λ g. back k t is token g) h
    back (Named n ∷ k) t is token h = named_back i n k t is (λ g. back k t is token g) h
    back (Dot n ∷ k) t is token h = dot_back i n k t is (parser_step k t) h
    back (Opened n ∷ k) t is token h = opened_back i n k t is (parser_step k t) h
    back (Colon n ∷ k) t is token h = colon_back i n k t is (parser_step k t) h
    back (FirstArgument ∷ k) t is token h = first_back i k t is (parser_step k t) h
    back (MoreArguments ∷ k) t is token h = more_back i k t is (parser_step k t) h
    back (NewOpen ∷ k) t is token h = new_back i k t is (parser_step k t) h
    back (Ident ∷ k) t is token h = ident_back i k t is (parser_step k t) h
    back (Digits ∷ k) t is token h = digits_back i k t is (parser_step k t) h
    back (Semicolon ∷ k) t is token h = semicolon_back i k t is (parser_step k t) h
    back (StructWord ∷ k) t is token h = struct_word_back i k t is (parser_step k t) h
    back (Star ∷ k) t is token h = star_back i k t is (parser_step k t) h
    back (RootWord ∷ k) t is token h = root_word_back i k t is (parser_step k t) h
    back (WhileWord ∷ k) t is token h = while_word_back i k t is (parser_step k t) h
    back (Round ∷ k) t is token h = round_back i k t is (parser_step k t) h
    back (Square ∷ k) t is token h = square_back i k t is (parser_step k t) h
    back (Target n ∷ k) t is token h = target_back i n k t is (parser_step k t) h
    back (NamedTarget ∷ k) t is token h = named_target_back i k t is (parser_step k t) h
    back (Called ∷ k) t is token h = called_back i k t is (λ g. back k t is token g) h
    back (DotTarget ∷ k) t is token h = dot_target_back i k t is (parser_step k t) h
    back (OpenExpression ∷ k) t is token h = open_expression_back i k t is (parser_step k t) h
    back (OpenNothing ∷ k) t is token h = open_nothing_back i k t is (parser_step k t) h
    back (Initial ∷ k) t is token h = initial_back i k t is (λ g. back k t is token g) h
    back (Value ∷ k) t is token h = value_back i k t is (λ g. back k t is token g) h
    back (Body loop ∷ k) t is token h = body_back i loop k t is (parser_step k t) h
    back (Bare ∷ k) t is token h = back k t is token h
    back (Else loop ∷ k) t is token h = else_back i loop k t is (λ g. back k t is token g) h
    back (Block loop ∷ k) t is token h = block_back i loop k t is (parser_step k t) h
    back (OpenFor ∷ k) t is token h = open_for_back i k t is (parser_step k t) h
    back (ForFirst ∷ k) t is token h = first_part_back i k t is (λ g. back k t is token g) h
    back (ForThird ∷ k) t is token h = third_part_back i k t is (λ g. back k t is token g) h
    back (TypeName ∷ k) t is token h = typed_back i k t is (parser_step k t) h
    back (Fields ∷ k) t is token h = fields_back i k t is (parser_step k t) h
    back (Length ∷ k) t is token h = length_back i k t is (λ g. back k t is token g) h
    back (Result ∷ k) t is token h = result_back i k t is (parser_step k t) h
    back (TxResult ∷ k) t is token h = tx_result_back i k t is (parser_step k t) h
    back (OpenParameters ∷ k) t is token h = open_parameters_back i k t is (parser_step k t) h
    back (Parameters ∷ k) t is token h = parameters_back i k t is (parser_step k t) h
    back (MoreParameters ∷ k) t is token h = more_parameters_back i k t is (parser_step k t) h
    back (OpenBody ∷ k) t is token h = open_body_back i k t is (parser_step k t) h
    back (StructOrFunction ∷ k) t is token h = struct_or_function_back i k t is (parser_step k t) h
    back (Items ∷ k) t is token h = items_back i k t is token h

  abbrev Ends : Option (List Want) → Type 0
  Ends None = ⊥
  Ends (Some k) = Unit {0}

  at_last : (k : List Want) → Ends (parser_step k kind.End) → Stands (length ts) k
  at_last [] h = refl
  at_last (Rest n ∷ k) h = (length ts, f_end, at_last k h)
  at_last (Named n ∷ k) h = (length ts, f_plain f_end, at_last k h)
  at_last (Called ∷ k) h = inr (at_last k h)
  at_last (Initial ∷ k) h = inr (at_last k h)
  at_last (Value ∷ k) h = (length ts, None, value_none, at_last k h)
  at_last (Bare ∷ k) h = at_last k h
  at_last (Else loop ∷ k) h = inr
      (λ e. cc (e, ap placed_kind (slice_get_past ts (length ts) (omega arith))), at_last k h)
  at_last (ForFirst ∷ k) h = (length ts, None, first_none, at_last k h)
  at_last (ForThird ∷ k) h = (length ts, None, third_none, at_last k h)
  at_last (Length ∷ k) h = inr (at_last k h)
  at_last (Items ∷ k) h = ([], items_end)
  at_last (Operand n ∷ k) h = absurd h
  at_last (Dot n ∷ k) h = absurd h
  at_last (Opened n ∷ k) h = absurd h
  at_last (Colon n ∷ k) h = absurd h
  at_last (FirstArgument ∷ k) h = absurd h
  at_last (MoreArguments ∷ k) h = absurd h
  at_last (NewOpen ∷ k) h = absurd h
  at_last (Ident ∷ k) h = absurd h
  at_last (Digits ∷ k) h = absurd h
  at_last (Semicolon ∷ k) h = absurd h
  at_last (StructWord ∷ k) h = absurd h
  at_last (Star ∷ k) h = absurd h
  at_last (RootWord ∷ k) h = absurd h
  at_last (WhileWord ∷ k) h = absurd h
  at_last (Round ∷ k) h = absurd h
  at_last (Square ∷ k) h = absurd h
  at_last (Target n ∷ k) h = absurd h
  at_last (NamedTarget ∷ k) h = absurd h
  at_last (DotTarget ∷ k) h = absurd h
  at_last (OpenExpression ∷ k) h = absurd h
  at_last (OpenNothing ∷ k) h = absurd h
  at_last (Body loop ∷ k) h = absurd h
  at_last (Block loop ∷ k) h = absurd h
  at_last (OpenFor ∷ k) h = absurd h
  at_last (TypeName ∷ k) h = absurd h
  at_last (Fields ∷ k) h = absurd h
  at_last (Result ∷ k) h = absurd h
  at_last (TxResult ∷ k) h = absurd h
  at_last (OpenParameters ∷ k) h = absurd h
  at_last (Parameters ∷ k) h = absurd h
  at_last (MoreParameters ∷ k) h = absurd h
  at_last (OpenBody ∷ k) h = absurd h
  at_last (StructOrFunction ∷ k) h = absurd h

  ended : (i : ℕ) (o : Option (List Want)) → ends i o ≡ Accepted → Ends o
  ended i None h = cc
  ended i (Some k) h = tt

  kind_token : (x : Placed) → IsToken (token_kind x.token)
  kind_token x = token_token x.token

  accepted_stands : (n i : ℕ) (k : List Want) → i + n ≡ length ts → parse_run None ts i k ≡ Accepted
      → Stands i k
  accepted_stands zero i k e h =
      let e' : length ts ≡ i = omega arith in
      let past = slice_get_past ts i (omega arith) in
      let g = ap (λ o. at_token None i o k (λ k. parse_run None ts (i + 1) k)) (sym past)
      ∙ sym (run_at None ts i k) ∙ h in
      subst (λ i. Stands i k) e' (at_last k (ended i (parser_step k kind.End) g))
  accepted_stands (suc n) i k e h =
      let at = present ts i (omega arith) in
      let g = ap (λ o. at_token None i o k (λ k. parse_run None ts (i + 1) k)) (sym at.1)
      ∙ sym (run_at None ts i k) ∙ h in
      back i k (token_kind at.0.token) (ap placed_kind at.1) (kind_token at.0)
      (go (parser_step k (token_kind at.0.token)) g
      (λ s h. accepted_stands n (i + 1) s (omega arith) h))
    where
      go : (o : Option (List Want)) → parse_on None i o (λ k. parse_run None ts (i + 1) k)
          ≡ Accepted → ((s : List Want) → parse_run None ts (i + 1) s ≡ Accepted → Stands (i + 1) s)
          → Then (i + 1) o
      go None h more = cc
      go (Some s) h more = more s h

  pub spelled : parse_run None ts 0 (Items ∷ []) ≡ Accepted → (xs : List ItemTree)
      × SpellsProgram ts xs
  spelled h = accepted_stands (length ts) 0 (Items ∷ []) (omega arith) h
