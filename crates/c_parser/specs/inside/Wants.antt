-- The grammar, read token by token: what may follow, as a stack of wants, and the effect of each
-- kind of token on it. The want on top takes the token and is replaced by the rest of its
-- production; or it doesn't take it but may stay unmet, and the token goes to the next want; or the
-- token is refused.
use Rattle.std.specs.Prelude.{ℕ, ◌+◌, List, [], ◌∷◌, ◌++◌, Option, Some, None, Bool, true}
use Rattle.std.specs.Prelude.{false}
use Rattle.c_tree.specs.declared.expr.BinaryOp.TheVariants as op
use Rattle.c_tree.specs.declared.stmt.AssignOp.TheVariants as assign
use Rattle.c_tree.specs.declared.kind.Kind.{Kind}
use Rattle.c_tree.specs.declared.kind.Kind.TheVariants as kind
use Rattle.c_parser.specs.declared.want.Want.{Want}
use Rattle.c_parser.specs.declared.want.Want.TheVariants.{Operand, Rest, Named, Dot, Colon, Opened}
use Rattle.c_parser.specs.declared.want.Want.TheVariants.{FirstArgument}
use Rattle.c_parser.specs.declared.want.Want.TheVariants.{MoreArguments, NewOpen, Ident, Digits}
use Rattle.c_parser.specs.declared.want.Want.TheVariants.{Semicolon, StructWord, Star, RootWord}
use Rattle.c_parser.specs.declared.want.Want.TheVariants.{WhileWord, Round, Square, Target}
use Rattle.c_parser.specs.declared.want.Want.TheVariants.{NamedTarget, Called, DotTarget}
use Rattle.c_parser.specs.declared.want.Want.TheVariants.{OpenExpression, OpenNothing, Initial}
use Rattle.c_parser.specs.declared.want.Want.TheVariants.{Value, Body, Bare, Else, Block, OpenFor}
use Rattle.c_parser.specs.declared.want.Want.TheVariants.{ForFirst, ForThird, TypeName, Fields}
use Rattle.c_parser.specs.declared.want.Want.TheVariants.{Length, Result, TxResult, OpenParameters}
use Rattle.c_parser.specs.declared.want.Want.TheVariants.{Parameters, MoreParameters, OpenBody}
use Rattle.c_parser.specs.declared.want.Want.TheVariants.{StructOrFunction, Items}
use Rattle.c_parser.specs.declared.want.Taken.{Taken}
use Rattle.c_parser.specs.declared.want.Taken.TheVariants as taken

pub data WantMove : Type 0 where
  Refuse : WantMove
  Yield : WantMove
  Take : List Want → WantMove

-- the same, with more wants after it
abbrev pub move_then : WantMove → List Want → WantMove
move_then Refuse more = Refuse
move_then Yield more = Yield
move_then (Take wants) more = Take (wants ++ more)

-- a part that may be absent
abbrev pub perhaps : WantMove → WantMove
perhaps Refuse = Yield
perhaps Yield = Yield
perhaps (Take wants) = Take wants

abbrev pub operand : ℕ → Kind → WantMove
operand n kind.Number = Take (Rest n ∷ [])
operand n kind.Null = Take (Rest n ∷ [])
operand n kind.Name = Take (Named n ∷ [])
operand n kind.Root = Take (Dot n ∷ [])
operand n kind.PmNew = Take (NewOpen ∷ Rest n ∷ [])
operand n kind.OpenRound = Take (Opened n ∷ [])
operand n (kind.Operator op.Sub) = Take (Operand (n + 1) ∷ [])
operand n kind.Not = Take (Operand (n + 1) ∷ [])
operand n kind.Tilde = Take (Operand (n + 1) ∷ [])
operand n _ = Refuse

-- after an open bracket: a type's word, the closing bracket and an operand, or an expression and
-- the closing bracket
abbrev pub opened : ℕ → Kind → WantMove
opened n (kind.Int m) = Take (Round ∷ Operand (n + 1) ∷ [])
opened n k = move_then (operand 0 k) (Round ∷ Rest n ∷ [])

abbrev pub rest : ℕ → Kind → WantMove
rest n (kind.Operator o) = Take (Operand (n + 1) ∷ [])
rest n kind.Arrow = Take (Ident ∷ Rest (n + 1) ∷ [])
rest n kind.OpenSquare = Take (Operand 0 ∷ Square ∷ Rest (n + 1) ∷ [])
rest n kind.Question = Take (Operand 0 ∷ Colon (n + 1) ∷ [])
rest n _ = Yield

abbrev pub named : ℕ → Kind → WantMove
named n kind.OpenRound = Take (FirstArgument ∷ Rest n ∷ [])
named n k = rest n k

abbrev pub dot : ℕ → Kind → WantMove
dot n kind.Dot = Take (Ident ∷ Rest (n + 1) ∷ [])
dot n _ = Refuse

abbrev pub colon : ℕ → Kind → WantMove
colon n kind.Colon = Take (Operand n ∷ [])
colon n _ = Refuse

abbrev pub first_argument : Kind → WantMove
first_argument kind.CloseRound = Take []
first_argument k = move_then (operand 0 k) (MoreArguments ∷ [])

abbrev pub more_arguments : Kind → WantMove
more_arguments kind.CloseRound = Take []
more_arguments kind.Comma = Take (Operand 0 ∷ MoreArguments ∷ [])
more_arguments _ = Refuse

abbrev pub new_open : Kind → WantMove
new_open kind.OpenRound = Take (StructWord ∷ Ident ∷ Round ∷ [])
new_open _ = Refuse

abbrev pub ident : Kind → WantMove
ident kind.Name = Take []
ident _ = Refuse

abbrev pub digits : Kind → WantMove
digits kind.Number = Take []
digits _ = Refuse

abbrev pub semicolon : Kind → WantMove
semicolon kind.Semicolon = Take []
semicolon _ = Refuse

abbrev pub struct_word : Kind → WantMove
struct_word kind.Struct = Take []
struct_word _ = Refuse

abbrev pub star : Kind → WantMove
star (kind.Operator op.Mul) = Take []
star _ = Refuse

abbrev pub root_word : Kind → WantMove
root_word kind.Root = Take []
root_word _ = Refuse

abbrev pub while_word : Kind → WantMove
while_word kind.While = Take []
while_word _ = Refuse

abbrev pub round_move : Kind → WantMove
round_move kind.CloseRound = Take []
round_move _ = Refuse

abbrev pub square : Kind → WantMove
square kind.CloseSquare = Take []
square _ = Refuse

-- a target, and the action on it
abbrev pub target_move : ℕ → Kind → WantMove
target_move n (kind.Assign o) = Take (Operand 0 ∷ [])
target_move n (kind.Step o) = Take []
target_move n kind.Arrow = Take (Ident ∷ Target (n + 1) ∷ [])
target_move n kind.OpenSquare = Take (Operand 0 ∷ Square ∷ Target (n + 1) ∷ [])
target_move n _ = Refuse

abbrev pub named_target : Kind → WantMove
named_target kind.OpenRound = Take (FirstArgument ∷ Called ∷ [])
named_target k = target_move 0 k

abbrev pub called_move : Kind → WantMove
called_move k = perhaps (target_move 0 k)

abbrev pub dot_target : Kind → WantMove
dot_target kind.Dot = Take (Ident ∷ Target 1 ∷ [])
dot_target _ = Refuse

abbrev pub open_expression : Kind → WantMove
open_expression kind.OpenRound = Take (Operand 0 ∷ Round ∷ [])
open_expression _ = Refuse

abbrev pub open_nothing : Kind → WantMove
open_nothing kind.OpenRound = Take (Round ∷ [])
open_nothing _ = Refuse

abbrev pub initial : Kind → WantMove
initial (kind.Assign assign.Set) = Take (Operand 0 ∷ [])
initial _ = Yield

abbrev pub type_begins : Kind → WantMove
type_begins (kind.Int n) = Take []
type_begins kind.Struct = Take (Ident ∷ Star ∷ [])
type_begins _ = Refuse

abbrev pub simple_begins : Kind → WantMove
simple_begins kind.Name = Take (NamedTarget ∷ [])
simple_begins kind.Number = Take (Target 0 ∷ [])
simple_begins kind.Null = Take (Target 0 ∷ [])
simple_begins kind.Root = Take (DotTarget ∷ [])
simple_begins kind.PmNew = Take (NewOpen ∷ Target 0 ∷ [])
simple_begins kind.OpenRound = Take (Operand 0 ∷ Round ∷ Target 0 ∷ [])
simple_begins kind.PmFree = Take (OpenExpression ∷ [])
simple_begins kind.Abort = Take (OpenNothing ∷ [])
simple_begins _ = Refuse

-- `break` and `continue` occur only inside a loop
abbrev pub leaves : Bool → WantMove
leaves true = Take (Semicolon ∷ [])
leaves false = Refuse

abbrev pub statement : Bool → Kind → WantMove
statement loop kind.Semicolon = Take []
statement loop (kind.Int n) = Take (Ident ∷ Initial ∷ Semicolon ∷ [])
statement loop kind.Struct = Take (Ident ∷ Star ∷ Ident ∷ Initial ∷ Semicolon ∷ [])
statement loop kind.OpenBrace = Take (Block loop ∷ [])
statement loop kind.If = Take (OpenExpression ∷ Body loop ∷ Else loop ∷ [])
statement loop kind.While = Take (OpenExpression ∷ Body true ∷ [])
statement loop kind.Do = Take (Body true ∷ WhileWord ∷ OpenExpression ∷ Semicolon ∷ [])
statement loop kind.For = Take (OpenFor ∷ Body true ∷ [])
statement loop kind.Break = leaves loop
statement loop kind.Continue = leaves loop
statement loop kind.Return = Take (Value ∷ Semicolon ∷ [])
statement loop k = move_then (simple_begins k) (Semicolon ∷ [])

abbrev pub body : Bool → Kind → WantMove
body loop kind.OpenBrace = Take (Block loop ∷ [])
body loop k = move_then (statement loop k) (Bare ∷ [])

abbrev pub else_move : Bool → Kind → WantMove
else_move loop kind.Else = Take (Body loop ∷ [])
else_move loop _ = Yield

abbrev pub block : Bool → Kind → WantMove
block loop kind.CloseBrace = Take []
block loop k = move_then (statement loop k) (Block loop ∷ [])

abbrev pub open_for : Kind → WantMove
open_for kind.OpenRound = Take (ForFirst ∷ Semicolon ∷ Value ∷ Semicolon ∷ ForThird ∷ Round ∷ [])
open_for _ = Refuse

abbrev pub for_first : Kind → WantMove
for_first (kind.Int n) = Take (Ident ∷ Initial ∷ [])
for_first kind.Struct = Take (Ident ∷ Star ∷ Ident ∷ Initial ∷ [])
for_first k = perhaps (simple_begins k)

abbrev pub fields : Kind → WantMove
fields kind.CloseBrace = Take []
fields k = move_then (type_begins k) (Ident ∷ Length ∷ Semicolon ∷ Fields ∷ [])

abbrev pub length_move : Kind → WantMove
length_move kind.OpenSquare = Take (Digits ∷ Square ∷ [])
length_move _ = Yield

abbrev pub result_begins : Kind → WantMove
result_begins kind.Void = Take []
result_begins k = type_begins k

-- the result of a transaction, after its mark
abbrev pub tx_result : Kind → WantMove
tx_result kind.Abort = Take (Result ∷ [])
tx_result kind.Const = Take (Result ∷ [])
tx_result k = result_begins k

abbrev pub open_parameters : Kind → WantMove
open_parameters kind.OpenRound = Take (Parameters ∷ [])
open_parameters _ = Refuse

abbrev pub parameters_move : Kind → WantMove
parameters_move kind.CloseRound = Take []
parameters_move kind.Void = Take (Round ∷ [])
parameters_move k = move_then (type_begins k) (Ident ∷ MoreParameters ∷ [])

abbrev pub more_parameters : Kind → WantMove
more_parameters kind.CloseRound = Take []
more_parameters kind.Comma = Take (TypeName ∷ Ident ∷ MoreParameters ∷ [])
more_parameters _ = Refuse

abbrev pub open_body : Kind → WantMove
open_body kind.OpenBrace = Take (Block false ∷ [])
open_body _ = Refuse

-- after `struct NAME` at the top level: the third token decides
abbrev pub struct_or_function : Kind → WantMove
struct_or_function kind.OpenBrace =
    Take (TypeName ∷ Ident ∷ Length ∷ Semicolon ∷ Fields ∷ Semicolon ∷ [])
struct_or_function (kind.Operator op.Mul) = Take (Ident ∷ OpenParameters ∷ OpenBody ∷ [])
struct_or_function _ = Refuse

abbrev pub item : Kind → WantMove
item kind.Struct = Take (Ident ∷ StructOrFunction ∷ [])
item kind.Persistent = Take (StructWord ∷ Ident ∷ RootWord ∷ Semicolon ∷ [])
item kind.Tx = Take (TxResult ∷ Ident ∷ OpenParameters ∷ OpenBody ∷ [])
item (kind.Int n) = Take (Ident ∷ OpenParameters ∷ OpenBody ∷ [])
item kind.Void = Take (Ident ∷ OpenParameters ∷ OpenBody ∷ [])
item _ = Refuse

abbrev pub items : Kind → WantMove
items kind.End = Yield
items k = move_then (item k) (Items ∷ [])

abbrev pub move : Want → Kind → WantMove
move (Operand n) k = operand n k
move (Rest n) k = rest n k
move (Named n) k = named n k
move (Dot n) k = dot n k
move (Opened n) k = opened n k
move (Colon n) k = colon n k
move FirstArgument k = first_argument k
move MoreArguments k = more_arguments k
move NewOpen k = new_open k
move Ident k = ident k
move Digits k = digits k
move Semicolon k = semicolon k
move StructWord k = struct_word k
move Star k = star k
move RootWord k = root_word k
move WhileWord k = while_word k
move Round k = round_move k
move Square k = square k
move (Target n) k = target_move n k
move NamedTarget k = named_target k
move Called k = called_move k
move DotTarget k = dot_target k
move OpenExpression k = open_expression k
move OpenNothing k = open_nothing k
move Initial k = initial k
move Value k = perhaps (operand 0 k)
move (Body loop) k = body loop k
move Bare k = Yield
move (Else loop) k = else_move loop k
move (Block loop) k = block loop k
move OpenFor k = open_for k
move ForFirst k = for_first k
move ForThird k = perhaps (simple_begins k)
move TypeName k = type_begins k
move Fields k = fields k
move Length k = length_move k
move Result k = result_begins k
move TxResult k = tx_result k
move OpenParameters k = open_parameters k
move Parameters k = parameters_move k
move MoreParameters k = more_parameters k
move OpenBody k = open_body k
move StructOrFunction k = struct_or_function k
move Items k = items k

abbrev pub apply_move : WantMove → List Want → Option (List Want) → Option (List Want)
apply_move Refuse k other = None
apply_move Yield k other = other
apply_move (Take wants) k other = Some (wants ++ k)

-- the wants after a token, if it may come here
abbrev pub parser_step : List Want → Kind → Option (List Want)
parser_step [] kind.End = Some []
parser_step [] _ = None
parser_step (w ∷ k) t = apply_move (move w t) k (parser_step k t)

-- one token, and the wants after it
abbrev pub token_then : Bool → List Want → WantMove
token_then true more = Take more
token_then false more = Refuse

-- the outcome of a move with the wants below it, and the code's answer with the wants that it
-- leaves
pub data MoveOutcome : Type 0 where
  Refuses : MoveOutcome
  Yields : List Want → MoveOutcome
  Takes : List Want → MoveOutcome

abbrev pub moves_to : WantMove → List Want → MoveOutcome
moves_to Refuse k = Refuses
moves_to Yield k = Yields k
moves_to (Take wants) k = Takes (wants ++ k)

abbrev pub done : Taken → List Want → MoveOutcome
done taken.Refused k = Refuses
done taken.Yielded k = Yields k
done taken.Taken k = Takes k

abbrev pub perhaps_taken : Taken → Taken
perhaps_taken taken.Refused = taken.Yielded
perhaps_taken taken.Yielded = taken.Yielded
perhaps_taken taken.Taken = taken.Taken
