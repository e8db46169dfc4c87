-- The shortest tokens that meet the wants, and a whole program from each stack of wants that can
-- occur.
use Rattle.std.proofs.Common.{ℕ, pos, zero, suc, ◌+◌, ◌≡◌, ◌≢◌, ◌<◌, List, [], ◌∷◌, Option, Some}
use Rattle.std.proofs.Common.{None, Bool, true, false, slice_get, refl, ap, ◌∙◌, arith}
use Rattle.c_lexer.specs.declared.token.Mark.{Mark}
use Rattle.c_lexer.specs.declared.token.Mark.TheVariants as mark
use Rattle.c_lexer.specs.declared.token.Word.{Word}
use Rattle.c_lexer.specs.declared.token.Word.TheVariants as word
use Rattle.c_lexer.specs.declared.token.Token.TheVariants as token
use Rattle.c_lexer.specs.declared.token.Placed.{Placed}
use Rattle.c_tree.specs.declared.expr.BinaryOp.TheVariants as op
use Rattle.c_tree.specs.declared.stmt.AssignOp.TheVariants as assign
use Rattle.c_tree.specs.declared.kind.Kind.{Kind}
use Rattle.c_tree.specs.declared.kind.Kind.TheVariants as kind
use Rattle.c_parser.specs.declared.want.Want.{Want}
use Rattle.c_parser.specs.declared.want.Want.TheVariants.{Operand, Rest, Named, Dot, Colon, Opened}
use Rattle.c_parser.specs.declared.want.Want.TheVariants.{FirstArgument}
use Rattle.c_parser.specs.declared.want.Want.TheVariants.{MoreArguments, NewOpen, Ident, Digits}
use Rattle.c_parser.specs.declared.want.Want.TheVariants.{Semicolon, StructWord, Star, RootWord}
use Rattle.c_parser.specs.declared.want.Want.TheVariants.{WhileWord, Round, Square, Target}
use Rattle.c_parser.specs.declared.want.Want.TheVariants.{NamedTarget, Called, DotTarget}
use Rattle.c_parser.specs.declared.want.Want.TheVariants.{OpenExpression, OpenNothing, Initial}
use Rattle.c_parser.specs.declared.want.Want.TheVariants.{Value, Body, Bare, Else, Block, OpenFor}
use Rattle.c_parser.specs.declared.want.Want.TheVariants.{ForFirst, ForThird, TypeName, Fields}
use Rattle.c_parser.specs.declared.want.Want.TheVariants.{Length, Result, TxResult, OpenParameters}
use Rattle.c_parser.specs.declared.want.Want.TheVariants.{Parameters, MoreParameters, OpenBody}
use Rattle.c_parser.specs.declared.want.Want.TheVariants.{StructOrFunction, Items}
use Rattle.c_tree.specs.Kinds.{token_kind}
use Rattle.c_parser.specs.inside.Wants as wants
use Rattle.c_parser.specs.inside.Wants.{Yield, apply_move, move, parser_step}
use Rattle.c_parser.specs.inside.Run.{Accepted, ends, parse_on, run_from}
use Rattle.c_parser.specs.inside.Stacks.{weigh, weights_from}

-- the want that ends an expression is on top
abbrev pub IsCloser : List Want → Type 0
IsCloser (Round ∷ k) = Unit {0}
IsCloser (Square ∷ k) = Unit {0}
IsCloser (MoreArguments ∷ k) = Unit {0}
IsCloser (Semicolon ∷ k) = Unit {0}
IsCloser (Colon n ∷ k) = Unit {0}
IsCloser _ = ⊥

-- the wants that may be below a want
abbrev pub Follows : Want → List Want → Type 0
Follows (Operand n) k = IsCloser k
Follows (Rest n) k = IsCloser k
Follows (Named n) k = IsCloser k
Follows (Dot n) k = IsCloser k
Follows (Opened n) k = IsCloser k
Follows (Colon n) k = IsCloser k
Follows (Target n) k = IsCloser k
Follows NamedTarget k = IsCloser k
Follows Called k = IsCloser k
Follows DotTarget k = IsCloser k
Follows Initial k = IsCloser k
Follows Value k = IsCloser k
Follows ForFirst k = IsCloser k
Follows ForThird k = IsCloser k
Follows Length k = IsCloser k
Follows Items k = k ≡ []
Follows _ k = Unit {0}

-- the stacks of wants that the run can have
abbrev pub Fine : List Want → Type 0
Fine [] = Unit {0}
Fine (w ∷ k) = Follows w k × Fine k

abbrev pub IfFine : Option (List Want) → Type 0
IfFine None = Unit {0}
IfFine (Some k) = Fine k

operand_fine : (n : ℕ) (k : List Want) (t : Kind) (u : Option (List Want)) → IsCloser k → Fine k
    → IfFine (apply_move (wants.operand n t) k u)
operand_fine n k kind.Number u c f = (c, f)
operand_fine n k kind.Null u c f = (c, f)
operand_fine n k kind.Name u c f = (c, f)
operand_fine n k kind.Root u c f = (c, f)
operand_fine n k kind.PmNew u c f = (tt, (c, f))
operand_fine n k kind.OpenRound u c f = (c, f)
operand_fine n k (kind.Operator op.Sub) u c f = (c, f)
operand_fine n k kind.Not u c f = (c, f)
operand_fine n k kind.Tilde u c f = (c, f)
operand_fine n k _ u c f = tt

rest_fine : (n : ℕ) (k : List Want) (t : Kind) (u : Option (List Want)) → IsCloser k → Fine k
    → IfFine u → IfFine (apply_move (wants.rest n t) k u)
rest_fine n k (kind.Operator o) u c f g = (c, f)
rest_fine n k kind.Arrow u c f g = (tt, (c, f))
rest_fine n k kind.OpenSquare u c f g = (tt, (tt, (c, f)))
rest_fine n k kind.Question u c f g = (tt, (c, f))
rest_fine n k _ u c f g = g

named_fine : (n : ℕ) (k : List Want) (t : Kind) (u : Option (List Want)) → IsCloser k → Fine k
    → IfFine u → IfFine (apply_move (wants.named n t) k u)
named_fine n k kind.OpenRound u c f g = (tt, (c, f))
named_fine n k (kind.Operator o) u c f g = (c, f)
named_fine n k kind.Arrow u c f g = (tt, (c, f))
named_fine n k kind.OpenSquare u c f g = (tt, (tt, (c, f)))
named_fine n k kind.Question u c f g = (tt, (c, f))
named_fine n k _ u c f g = g

dot_fine : (n : ℕ) (k : List Want) (t : Kind) (u : Option (List Want)) → IsCloser k → Fine k
    → IfFine (apply_move (wants.dot n t) k u)
dot_fine n k kind.Dot u c f = (tt, (c, f))
dot_fine n k _ u c f = tt

opened_fine : (n : ℕ) (k : List Want) (t : Kind) (u : Option (List Want)) → IsCloser k → Fine k
    → IfFine (apply_move (wants.opened n t) k u)
opened_fine n k (kind.Int y) u c f = (tt, (c, f))
opened_fine n k kind.Number u c f = (tt, (tt, (c, f)))
opened_fine n k kind.Null u c f = (tt, (tt, (c, f)))
opened_fine n k kind.Name u c f = (tt, (tt, (c, f)))
opened_fine n k kind.Root u c f = (tt, (tt, (c, f)))
opened_fine n k kind.PmNew u c f = (tt, (tt, (tt, (c, f))))
opened_fine n k kind.OpenRound u c f = (tt, (tt, (c, f)))
opened_fine n k (kind.Operator op.Sub) u c f = (tt, (tt, (c, f)))
opened_fine n k kind.Not u c f = (tt, (tt, (c, f)))
opened_fine n k kind.Tilde u c f = (tt, (tt, (c, f)))
opened_fine n k _ u c f = tt

colon_fine : (n : ℕ) (k : List Want) (t : Kind) (u : Option (List Want)) → IsCloser k → Fine k
    → IfFine (apply_move (wants.colon n t) k u)
colon_fine n k kind.Colon u c f = (c, f)
colon_fine n k _ u c f = tt

first_fine : (k : List Want) (t : Kind) (u : Option (List Want)) → Fine k
    → IfFine (apply_move (wants.first_argument t) k u)
first_fine k kind.CloseRound u f = f
first_fine k kind.Number u f = (tt, (tt, f))
first_fine k kind.Null u f = (tt, (tt, f))
first_fine k kind.Name u f = (tt, (tt, f))
first_fine k kind.Root u f = (tt, (tt, f))
first_fine k kind.PmNew u f = (tt, (tt, (tt, f)))
first_fine k kind.OpenRound u f = (tt, (tt, f))
first_fine k (kind.Operator op.Sub) u f = (tt, (tt, f))
first_fine k kind.Not u f = (tt, (tt, f))
first_fine k kind.Tilde u f = (tt, (tt, f))
first_fine k _ u f = tt

more_fine : (k : List Want) (t : Kind) (u : Option (List Want)) → Fine k
    → IfFine (apply_move (wants.more_arguments t) k u)
more_fine k kind.CloseRound u f = f
more_fine k kind.Comma u f = (tt, (tt, f))
more_fine k _ u f = tt

new_fine : (k : List Want) (t : Kind) (u : Option (List Want)) → Fine k
    → IfFine (apply_move (wants.new_open t) k u)
new_fine k kind.OpenRound u f = (tt, (tt, (tt, f)))
new_fine k _ u f = tt

ident_fine : (k : List Want) (t : Kind) (u : Option (List Want)) → Fine k
    → IfFine (apply_move (wants.ident t) k u)
ident_fine k kind.Name u f = f
ident_fine k _ u f = tt

digits_fine : (k : List Want) (t : Kind) (u : Option (List Want)) → Fine k
    → IfFine (apply_move (wants.digits t) k u)
digits_fine k kind.Number u f = f
digits_fine k _ u f = tt

semicolon_fine : (k : List Want) (t : Kind) (u : Option (List Want)) → Fine k
    → IfFine (apply_move (wants.semicolon t) k u)
semicolon_fine k kind.Semicolon u f = f
semicolon_fine k _ u f = tt

struct_word_fine : (k : List Want) (t : Kind) (u : Option (List Want)) → Fine k
    → IfFine (apply_move (wants.struct_word t) k u)
struct_word_fine k kind.Struct u f = f
struct_word_fine k _ u f = tt

star_fine : (k : List Want) (t : Kind) (u : Option (List Want)) → Fine k
    → IfFine (apply_move (wants.star t) k u)
star_fine k (kind.Operator op.Mul) u f = f
star_fine k _ u f = tt

root_word_fine : (k : List Want) (t : Kind) (u : Option (List Want)) → Fine k
    → IfFine (apply_move (wants.root_word t) k u)
root_word_fine k kind.Root u f = f
root_word_fine k _ u f = tt

while_word_fine : (k : List Want) (t : Kind) (u : Option (List Want)) → Fine k
    → IfFine (apply_move (wants.while_word t) k u)
while_word_fine k kind.While u f = f
while_word_fine k _ u f = tt

round_fine : (k : List Want) (t : Kind) (u : Option (List Want)) → Fine k
    → IfFine (apply_move (wants.round_move t) k u)
round_fine k kind.CloseRound u f = f
round_fine k _ u f = tt

square_fine : (k : List Want) (t : Kind) (u : Option (List Want)) → Fine k
    → IfFine (apply_move (wants.square t) k u)
square_fine k kind.CloseSquare u f = f
square_fine k _ u f = tt

target_fine : (n : ℕ) (k : List Want) (t : Kind) (u : Option (List Want)) → IsCloser k → Fine k
    → IfFine (apply_move (wants.target_move n t) k u)
target_fine n k (kind.Assign o) u c f = (c, f)
target_fine n k (kind.Step o) u c f = f
target_fine n k kind.Arrow u c f = (tt, (c, f))
target_fine n k kind.OpenSquare u c f = (tt, (tt, (c, f)))
target_fine n k _ u c f = tt

named_target_fine : (k : List Want) (t : Kind) (u : Option (List Want)) → IsCloser k → Fine k
    → IfFine (apply_move (wants.named_target t) k u)
named_target_fine k kind.OpenRound u c f = (tt, (c, f))
named_target_fine k (kind.Assign o) u c f = (c, f)
named_target_fine k (kind.Step o) u c f = f
named_target_fine k kind.Arrow u c f = (tt, (c, f))
named_target_fine k kind.OpenSquare u c f = (tt, (tt, (c, f)))
named_target_fine k _ u c f = tt

called_fine : (k : List Want) (t : Kind) (u : Option (List Want)) → IsCloser k → Fine k → IfFine u
    → IfFine (apply_move (wants.called_move t) k u)
called_fine k (kind.Assign o) u c f g = (c, f)
called_fine k (kind.Step o) u c f g = f
called_fine k kind.Arrow u c f g = (tt, (c, f))
called_fine k kind.OpenSquare u c f g = (tt, (tt, (c, f)))
called_fine k _ u c f g = g

dot_target_fine : (k : List Want) (t : Kind) (u : Option (List Want)) → IsCloser k → Fine k
    → IfFine (apply_move (wants.dot_target t) k u)
dot_target_fine k kind.Dot u c f = (tt, (c, f))
dot_target_fine k _ u c f = tt

open_expression_fine : (k : List Want) (t : Kind) (u : Option (List Want)) → Fine k
    → IfFine (apply_move (wants.open_expression t) k u)
open_expression_fine k kind.OpenRound u f = (tt, (tt, f))
open_expression_fine k _ u f = tt

open_nothing_fine : (k : List Want) (t : Kind) (u : Option (List Want)) → Fine k
    → IfFine (apply_move (wants.open_nothing t) k u)
open_nothing_fine k kind.OpenRound u f = (tt, f)
open_nothing_fine k _ u f = tt

initial_fine : (k : List Want) (t : Kind) (u : Option (List Want)) → IsCloser k → Fine k → IfFine u
    → IfFine (apply_move (wants.initial t) k u)
initial_fine k (kind.Assign assign.Set) u c f g = (c, f)
initial_fine k _ u c f g = g

value_fine : (k : List Want) (t : Kind) (u : Option (List Want)) → IsCloser k → Fine k → IfFine u
    → IfFine (apply_move (wants.perhaps (wants.operand 0 t)) k u)
value_fine k kind.Number u c f g = (c, f)
value_fine k kind.Null u c f g = (c, f)
value_fine k kind.Name u c f g = (c, f)
value_fine k kind.Root u c f g = (c, f)
value_fine k kind.PmNew u c f g = (tt, (c, f))
value_fine k kind.OpenRound u c f g = (c, f)
value_fine k (kind.Operator op.Sub) u c f g = (c, f)
value_fine k kind.Not u c f g = (c, f)
value_fine k kind.Tilde u c f g = (c, f)
value_fine k _ u c f g = g

body_fine : (loop : Bool) (k : List Want) (t : Kind) (u : Option (List Want)) → Fine k
    → IfFine (apply_move (wants.body loop t) k u)
body_fine loop k kind.OpenBrace u f = (tt, f)
body_fine loop k kind.Semicolon u f = (tt, f)
body_fine loop k (kind.Int y) u f = (tt, (tt, (tt, (tt, f))))
body_fine loop k kind.Struct u f = (tt, (tt, (tt, (tt, (tt, (tt, f))))))
body_fine loop k kind.If u f = (tt, (tt, (tt, (tt, f))))
body_fine loop k kind.While u f = (tt, (tt, (tt, f)))
body_fine loop k kind.Do u f = (tt, (tt, (tt, (tt, (tt, f)))))
body_fine loop k kind.For u f = (tt, (tt, (tt, f)))
body_fine loop k kind.Return u f = (tt, (tt, (tt, f)))
body_fine loop k kind.Name u f = (tt, (tt, (tt, f)))
body_fine loop k kind.Number u f = (tt, (tt, (tt, f)))
body_fine loop k kind.Null u f = (tt, (tt, (tt, f)))
body_fine loop k kind.Root u f = (tt, (tt, (tt, f)))
body_fine loop k kind.PmNew u f = (tt, (tt, (tt, (tt, f))))
body_fine loop k kind.OpenRound u f = (tt, (tt, (tt, (tt, (tt, f)))))
body_fine loop k kind.PmFree u f = (tt, (tt, (tt, f)))
body_fine loop k kind.Abort u f = (tt, (tt, (tt, f)))
body_fine true k kind.Break u f = (tt, (tt, f))
body_fine false k kind.Break u f = tt
body_fine true k kind.Continue u f = (tt, (tt, f))
body_fine false k kind.Continue u f = tt
body_fine loop k _ u f = tt

block_fine : (loop : Bool) (k : List Want) (t : Kind) (u : Option (List Want)) → Fine k
    → IfFine (apply_move (wants.block loop t) k u)
block_fine loop k kind.CloseBrace u f = f
block_fine loop k kind.Semicolon u f = (tt, f)
block_fine loop k (kind.Int y) u f = (tt, (tt, (tt, (tt, f))))
block_fine loop k kind.Struct u f = (tt, (tt, (tt, (tt, (tt, (tt, f))))))
block_fine loop k kind.OpenBrace u f = (tt, (tt, f))
block_fine loop k kind.If u f = (tt, (tt, (tt, (tt, f))))
block_fine loop k kind.While u f = (tt, (tt, (tt, f)))
block_fine loop k kind.Do u f = (tt, (tt, (tt, (tt, (tt, f)))))
block_fine loop k kind.For u f = (tt, (tt, (tt, f)))
block_fine loop k kind.Return u f = (tt, (tt, (tt, f)))
block_fine loop k kind.Name u f = (tt, (tt, (tt, f)))
block_fine loop k kind.Number u f = (tt, (tt, (tt, f)))
block_fine loop k kind.Null u f = (tt, (tt, (tt, f)))
block_fine loop k kind.Root u f = (tt, (tt, (tt, f)))
block_fine loop k kind.PmNew u f = (tt, (tt, (tt, (tt, f))))
block_fine loop k kind.OpenRound u f = (tt, (tt, (tt, (tt, (tt, f)))))
block_fine loop k kind.PmFree u f = (tt, (tt, (tt, f)))
block_fine loop k kind.Abort u f = (tt, (tt, (tt, f)))
block_fine true k kind.Break u f = (tt, (tt, f))
block_fine false k kind.Break u f = tt
block_fine true k kind.Continue u f = (tt, (tt, f))
block_fine false k kind.Continue u f = tt
block_fine loop k _ u f = tt

else_fine : (loop : Bool) (k : List Want) (t : Kind) (u : Option (List Want)) → Fine k → IfFine u
    → IfFine (apply_move (wants.else_move loop t) k u)
else_fine loop k kind.Else u f g = (tt, f)
else_fine loop k _ u f g = g

open_for_fine : (k : List Want) (t : Kind) (u : Option (List Want)) → Fine k
    → IfFine (apply_move (wants.open_for t) k u)
open_for_fine k kind.OpenRound u f = (tt, (tt, (tt, (tt, (tt, (tt, f))))))
open_for_fine k _ u f = tt

for_first_fine : (k : List Want) (t : Kind) (u : Option (List Want)) → IsCloser k → Fine k
    → IfFine u → IfFine (apply_move (wants.for_first t) k u)
for_first_fine k (kind.Int y) u c f g = (tt, (c, f))
for_first_fine k kind.Struct u c f g = (tt, (tt, (tt, (c, f))))
for_first_fine k kind.Name u c f g = (c, f)
for_first_fine k kind.Number u c f g = (c, f)
for_first_fine k kind.Null u c f g = (c, f)
for_first_fine k kind.Root u c f g = (c, f)
for_first_fine k kind.PmNew u c f g = (tt, (c, f))
for_first_fine k kind.OpenRound u c f g = (tt, (tt, (c, f)))
for_first_fine k kind.PmFree u c f g = (tt, f)
for_first_fine k kind.Abort u c f g = (tt, f)
for_first_fine k _ u c f g = g

for_third_fine : (k : List Want) (t : Kind) (u : Option (List Want)) → IsCloser k → Fine k
    → IfFine u → IfFine (apply_move (wants.perhaps (wants.simple_begins t)) k u)
for_third_fine k kind.Name u c f g = (c, f)
for_third_fine k kind.Number u c f g = (c, f)
for_third_fine k kind.Null u c f g = (c, f)
for_third_fine k kind.Root u c f g = (c, f)
for_third_fine k kind.PmNew u c f g = (tt, (c, f))
for_third_fine k kind.OpenRound u c f g = (tt, (tt, (c, f)))
for_third_fine k kind.PmFree u c f g = (tt, f)
for_third_fine k kind.Abort u c f g = (tt, f)
for_third_fine k _ u c f g = g

type_fine : (k : List Want) (t : Kind) (u : Option (List Want)) → Fine k
    → IfFine (apply_move (wants.type_begins t) k u)
type_fine k (kind.Int y) u f = f
type_fine k kind.Struct u f = (tt, (tt, f))
type_fine k _ u f = tt

fields_fine : (k : List Want) (t : Kind) (u : Option (List Want)) → Fine k
    → IfFine (apply_move (wants.fields t) k u)
fields_fine k kind.CloseBrace u f = f
fields_fine k (kind.Int y) u f = (tt, (tt, (tt, (tt, f))))
fields_fine k kind.Struct u f = (tt, (tt, (tt, (tt, (tt, (tt, f))))))
fields_fine k _ u f = tt

length_fine : (k : List Want) (t : Kind) (u : Option (List Want)) → Fine k → IfFine u
    → IfFine (apply_move (wants.length_move t) k u)
length_fine k kind.OpenSquare u f g = (tt, (tt, f))
length_fine k _ u f g = g

result_fine : (k : List Want) (t : Kind) (u : Option (List Want)) → Fine k
    → IfFine (apply_move (wants.result_begins t) k u)
result_fine k kind.Void u f = f
result_fine k (kind.Int y) u f = f
result_fine k kind.Struct u f = (tt, (tt, f))
result_fine k _ u f = tt

tx_result_fine : (k : List Want) (t : Kind) (u : Option (List Want)) → Fine k
    → IfFine (apply_move (wants.tx_result t) k u)
tx_result_fine k kind.Abort u f = (tt, f)
tx_result_fine k kind.Const u f = (tt, f)
tx_result_fine k t u f = result_fine k t u f

open_parameters_fine : (k : List Want) (t : Kind) (u : Option (List Want)) → Fine k
    → IfFine (apply_move (wants.open_parameters t) k u)
open_parameters_fine k kind.OpenRound u f = (tt, f)
open_parameters_fine k _ u f = tt

parameters_fine : (k : List Want) (t : Kind) (u : Option (List Want)) → Fine k
    → IfFine (apply_move (wants.parameters_move t) k u)
parameters_fine k kind.CloseRound u f = f
parameters_fine k kind.Void u f = (tt, f)
parameters_fine k (kind.Int y) u f = (tt, (tt, f))
parameters_fine k kind.Struct u f = (tt, (tt, (tt, (tt, f))))
parameters_fine k _ u f = tt

more_parameters_fine : (k : List Want) (t : Kind) (u : Option (List Want)) → Fine k
    → IfFine (apply_move (wants.more_parameters t) k u)
more_parameters_fine k kind.CloseRound u f = f
more_parameters_fine k kind.Comma u f = (tt, (tt, (tt, f)))
more_parameters_fine k _ u f = tt

open_body_fine : (k : List Want) (t : Kind) (u : Option (List Want)) → Fine k
    → IfFine (apply_move (wants.open_body t) k u)
open_body_fine k kind.OpenBrace u f = (tt, f)
open_body_fine k _ u f = tt

struct_fine : (k : List Want) (t : Kind) (u : Option (List Want)) → Fine k
    → IfFine (apply_move (wants.struct_or_function t) k u)
struct_fine k kind.OpenBrace u f = (tt, (tt, (tt, (tt, (tt, (tt, f))))))
struct_fine k (kind.Operator op.Mul) u f = (tt, (tt, (tt, f)))
struct_fine k _ u f = tt

items_fine : (k : List Want) (t : Kind) (u : Option (List Want)) → k ≡ [] → Fine k → IfFine u
    → IfFine (apply_move (wants.items t) k u)
items_fine k kind.End u e f g = g
items_fine k kind.Struct u e f g = (tt, (tt, (e, f)))
items_fine k kind.Persistent u e f g = (tt, (tt, (tt, (tt, (e, f)))))
items_fine k kind.Tx u e f g = (tt, (tt, (tt, (tt, (e, f)))))
items_fine k (kind.Int y) u e f g = (tt, (tt, (tt, (e, f))))
items_fine k kind.Void u e f g = (tt, (tt, (tt, (e, f))))
items_fine k _ u e f g = tt

nothing_fine : (t : Kind) → IfFine (parser_step [] t)
nothing_fine kind.End = tt
nothing_fine _ = tt

-- a step keeps the stack one of these
pub step_fine : (k : List Want) (t : Kind) → Fine k → IfFine (parser_step k t)
step_fine [] t f = nothing_fine t
step_fine (Operand n ∷ k) t f = operand_fine n k t (parser_step k t) f.0 f.1
step_fine (Rest n ∷ k) t f = rest_fine n k t (parser_step k t) f.0 f.1 (step_fine k t f.1)
step_fine (Named n ∷ k) t f = named_fine n k t (parser_step k t) f.0 f.1 (step_fine k t f.1)
step_fine (Dot n ∷ k) t f = dot_fine n k t (parser_step k t) f.0 f.1
step_fine (Opened n ∷ k) t f = opened_fine n k t (parser_step k t) f.0 f.1
step_fine (Colon n ∷ k) t f = colon_fine n k t (parser_step k t) f.0 f.1
step_fine (FirstArgument ∷ k) t f = first_fine k t (parser_step k t) f.1
step_fine (MoreArguments ∷ k) t f = more_fine k t (parser_step k t) f.1
step_fine (NewOpen ∷ k) t f = new_fine k t (parser_step k t) f.1
step_fine (Ident ∷ k) t f = ident_fine k t (parser_step k t) f.1
step_fine (Digits ∷ k) t f = digits_fine k t (parser_step k t) f.1
step_fine (Semicolon ∷ k) t f = semicolon_fine k t (parser_step k t) f.1
step_fine (StructWord ∷ k) t f = struct_word_fine k t (parser_step k t) f.1
step_fine (Star ∷ k) t f = star_fine k t (parser_step k t) f.1
step_fine (RootWord ∷ k) t f = root_word_fine k t (parser_step k t) f.1
step_fine (WhileWord ∷ k) t f = while_word_fine k t (parser_step k t) f.1
step_fine (Round ∷ k) t f = round_fine k t (parser_step k t) f.1
step_fine (Square ∷ k) t f = square_fine k t (parser_step k t) f.1
step_fine (Target n ∷ k) t f = target_fine n k t (parser_step k t) f.0 f.1
step_fine (NamedTarget ∷ k) t f = named_target_fine k t (parser_step k t) f.0 f.1
step_fine (Called ∷ k) t f = called_fine k t (parser_step k t) f.0 f.1 (step_fine k t f.1)
step_fine (DotTarget ∷ k) t f = dot_target_fine k t (parser_step k t) f.0 f.1
step_fine (OpenExpression ∷ k) t f = open_expression_fine k t (parser_step k t) f.1
step_fine (OpenNothing ∷ k) t f = open_nothing_fine k t (parser_step k t) f.1
step_fine (Initial ∷ k) t f = initial_fine k t (parser_step k t) f.0 f.1 (step_fine k t f.1)
step_fine (Value ∷ k) t f = value_fine k t (parser_step k t) f.0 f.1 (step_fine k t f.1)
step_fine (Body loop ∷ k) t f = body_fine loop k t (parser_step k t) f.1
step_fine (Bare ∷ k) t f = step_fine k t f.1
step_fine (Else loop ∷ k) t f = else_fine loop k t (parser_step k t) f.1 (step_fine k t f.1)
step_fine (Block loop ∷ k) t f = block_fine loop k t (parser_step k t) f.1
step_fine (OpenFor ∷ k) t f = open_for_fine k t (parser_step k t) f.1
step_fine (ForFirst ∷ k) t f = for_first_fine k t (parser_step k t) f.0 f.1 (step_fine k t f.1)
step_fine (ForThird ∷ k) t f = for_third_fine k t (parser_step k t) f.0 f.1 (step_fine k t f.1)
step_fine (TypeName ∷ k) t f = type_fine k t (parser_step k t) f.1
step_fine (Fields ∷ k) t f = fields_fine k t (parser_step k t) f.1
step_fine (Length ∷ k) t f = length_fine k t (parser_step k t) f.1 (step_fine k t f.1)
step_fine (Result ∷ k) t f = result_fine k t (parser_step k t) f.1
step_fine (TxResult ∷ k) t f = tx_result_fine k t (parser_step k t) f.1
step_fine (OpenParameters ∷ k) t f = open_parameters_fine k t (parser_step k t) f.1
step_fine (Parameters ∷ k) t f = parameters_fine k t (parser_step k t) f.1
step_fine (MoreParameters ∷ k) t f = more_parameters_fine k t (parser_step k t) f.1
step_fine (OpenBody ∷ k) t f = open_body_fine k t (parser_step k t) f.1
step_fine (StructOrFunction ∷ k) t f = struct_fine k t (parser_step k t) f.1
step_fine (Items ∷ k) t f = items_fine k t (parser_step k t) f.0 f.1 (step_fine k t f.1)

-- the tokens of the shortest endings
abbrev m : Mark → Placed
m x = record { token = token.Mark x; line = 0; start = 0 }

abbrev w : Word → Placed
w x = record { token = token.Word x; line = 0; start = 0 }

abbrev name : Placed
name = record { token = token.Name []; line = 0; start = 0 }

abbrev digits : Placed
digits = record { token = token.Number (pos 0); line = 0; start = 0 }

-- a shortest list of tokens that meets the wants
abbrev pub finish : List Want → List Placed
finish [] = []
finish (Operand n ∷ k) = digits ∷ finish k
finish (Rest n ∷ k) = finish k
finish (Named n ∷ k) = finish k
finish (Dot n ∷ k) = m mark.Dot ∷ name ∷ finish k
finish (Opened n ∷ k) = digits ∷ m mark.CloseRound ∷ finish k
finish (Colon n ∷ k) = m mark.Colon ∷ digits ∷ finish k
finish (FirstArgument ∷ k) = m mark.CloseRound ∷ finish k
finish (MoreArguments ∷ k) = m mark.CloseRound ∷ finish k
finish (NewOpen ∷ k) = m mark.OpenRound ∷ w word.Struct ∷ name ∷ m mark.CloseRound ∷ finish k
finish (Ident ∷ k) = name ∷ finish k
finish (Digits ∷ k) = digits ∷ finish k
finish (Semicolon ∷ k) = m mark.Semicolon ∷ finish k
finish (StructWord ∷ k) = w word.Struct ∷ finish k
finish (Star ∷ k) = m mark.Star ∷ finish k
finish (RootWord ∷ k) = w word.Root ∷ finish k
finish (WhileWord ∷ k) = w word.While ∷ finish k
finish (Round ∷ k) = m mark.CloseRound ∷ finish k
finish (Square ∷ k) = m mark.CloseSquare ∷ finish k
finish (Target n ∷ k) = m mark.Increment ∷ finish k
finish (NamedTarget ∷ k) = m mark.Increment ∷ finish k
finish (Called ∷ k) = finish k
finish (DotTarget ∷ k) = m mark.Dot ∷ name ∷ m mark.Increment ∷ finish k
finish (OpenExpression ∷ k) = m mark.OpenRound ∷ digits ∷ m mark.CloseRound ∷ finish k
finish (OpenNothing ∷ k) = m mark.OpenRound ∷ m mark.CloseRound ∷ finish k
finish (Initial ∷ k) = finish k
finish (Value ∷ k) = finish k
finish (Body loop ∷ k) = m mark.OpenBrace ∷ m mark.CloseBrace ∷ finish k
finish (Bare ∷ k) = finish k
finish (Else loop ∷ k) = finish k
finish (Block loop ∷ k) = m mark.CloseBrace ∷ finish k
finish (OpenFor ∷ k) = m mark.OpenRound ∷ m mark.Semicolon ∷ m mark.Semicolon ∷ m mark.CloseRound
    ∷ finish k
finish (ForFirst ∷ k) = finish k
finish (ForThird ∷ k) = finish k
finish (TypeName ∷ k) = w word.Int64 ∷ finish k
finish (Fields ∷ k) = m mark.CloseBrace ∷ finish k
finish (Length ∷ k) = finish k
finish (Result ∷ k) = w word.Int64 ∷ finish k
finish (TxResult ∷ k) = w word.Int64 ∷ finish k
finish (OpenParameters ∷ k) = m mark.OpenRound ∷ m mark.CloseRound ∷ finish k
finish (Parameters ∷ k) = m mark.CloseRound ∷ finish k
finish (MoreParameters ∷ k) = m mark.CloseRound ∷ finish k
finish (OpenBody ∷ k) = m mark.OpenBrace ∷ m mark.CloseBrace ∷ finish k
finish (StructOrFunction ∷ k) = m mark.Star ∷ name ∷ m mark.OpenRound ∷ m mark.CloseRound
    ∷ m mark.OpenBrace ∷ m mark.CloseBrace ∷ finish k
finish (Items ∷ k) = []

-- a want that may stay unmet, before the end of an expression
unmet : (x : Want) → move x kind.CloseRound ≡ Yield → move x kind.CloseSquare ≡ Yield
    → move x kind.Semicolon ≡ Yield → move x kind.Colon ≡ Yield → (k : List Want) (p : ℕ)
    → IsCloser k
    → run_from None (finish k) p (x ∷ k) ≡ run_from None (finish k) p k
unmet x a b c d (Round ∷ k) p h =
    ap (λ y. parse_on None p (apply_move y (Round ∷ k) (Some k))
    (λ s. run_from None (finish k) (p + 1) s)) a
unmet x a b c d (MoreArguments ∷ k) p h =
    ap (λ y. parse_on None p (apply_move y (MoreArguments ∷ k) (Some k))
    (λ s. run_from None (finish k) (p + 1) s)) a
unmet x a b c d (Square ∷ k) p h =
    ap (λ y. parse_on None p (apply_move y (Square ∷ k) (Some k))
    (λ s. run_from None (finish k) (p + 1) s)) b
unmet x a b c d (Semicolon ∷ k) p h =
    ap (λ y. parse_on None p (apply_move y (Semicolon ∷ k) (Some k))
    (λ s. run_from None (finish k) (p + 1) s)) c
unmet x a b c d (Colon n ∷ k) p h =
    ap (λ y. parse_on None p (apply_move y (Colon n ∷ k) (Some (Operand n ∷ k)))
    (λ s. run_from None (digits ∷ finish k) (p + 1) s)) d
unmet x a b c d _ p h = absurd h

bare_ends : (xs : List Placed) (p : ℕ) (k : List Want)
    → run_from None xs p (Bare ∷ k) ≡ run_from None xs p k
bare_ends [] p k = refl
bare_ends (x ∷ xs) p k = refl

abbrev NoElse : List Placed → Type 0
NoElse [] = Unit {0}
NoElse (x ∷ xs) = token_kind x.token ≢ kind.Else

finish_no_else : (k : List Want) → NoElse (finish k)
finish_no_else [] = tt
finish_no_else (Operand n ∷ k) = λ h. cc
finish_no_else (Rest n ∷ k) = finish_no_else k
finish_no_else (Named n ∷ k) = finish_no_else k
finish_no_else (Dot n ∷ k) = λ h. cc
finish_no_else (Opened n ∷ k) = λ h. cc
finish_no_else (Colon n ∷ k) = λ h. cc
finish_no_else (FirstArgument ∷ k) = λ h. cc
finish_no_else (MoreArguments ∷ k) = λ h. cc
finish_no_else (NewOpen ∷ k) = λ h. cc
finish_no_else (Ident ∷ k) = λ h. cc
finish_no_else (Digits ∷ k) = λ h. cc
finish_no_else (Semicolon ∷ k) = λ h. cc
finish_no_else (StructWord ∷ k) = λ h. cc
finish_no_else (Star ∷ k) = λ h. cc
finish_no_else (RootWord ∷ k) = λ h. cc
finish_no_else (WhileWord ∷ k) = λ h. cc
finish_no_else (Round ∷ k) = λ h. cc
finish_no_else (Square ∷ k) = λ h. cc
finish_no_else (Target n ∷ k) = λ h. cc
finish_no_else (NamedTarget ∷ k) = λ h. cc
finish_no_else (Called ∷ k) = finish_no_else k
finish_no_else (DotTarget ∷ k) = λ h. cc
finish_no_else (OpenExpression ∷ k) = λ h. cc
finish_no_else (OpenNothing ∷ k) = λ h. cc
finish_no_else (Initial ∷ k) = finish_no_else k
finish_no_else (Value ∷ k) = finish_no_else k
finish_no_else (Body loop ∷ k) = λ h. cc
finish_no_else (Bare ∷ k) = finish_no_else k
finish_no_else (Else loop ∷ k) = finish_no_else k
finish_no_else (Block loop ∷ k) = λ h. cc
finish_no_else (OpenFor ∷ k) = λ h. cc
finish_no_else (ForFirst ∷ k) = finish_no_else k
finish_no_else (ForThird ∷ k) = finish_no_else k
finish_no_else (TypeName ∷ k) = λ h. cc
finish_no_else (Fields ∷ k) = λ h. cc
finish_no_else (Length ∷ k) = finish_no_else k
finish_no_else (Result ∷ k) = λ h. cc
finish_no_else (TxResult ∷ k) = λ h. cc
finish_no_else (OpenParameters ∷ k) = λ h. cc
finish_no_else (Parameters ∷ k) = λ h. cc
finish_no_else (MoreParameters ∷ k) = λ h. cc
finish_no_else (OpenBody ∷ k) = λ h. cc
finish_no_else (StructOrFunction ∷ k) = λ h. cc
finish_no_else (Items ∷ k) = tt

pub else_step : (loop : Bool) (k : List Want) (t : Kind) → t ≢ kind.Else
    → parser_step (Else loop ∷ k) t ≡ parser_step k t
else_step loop k kind.Else h = absurd (h refl)
else_step loop k _ h = refl

else_ends : (xs : List Placed) (loop : Bool) (p : ℕ) (k : List Want) → NoElse xs
    → run_from None xs p (Else loop ∷ k) ≡ run_from None xs p k
else_ends [] loop p k h = refl
else_ends (x ∷ xs) loop p k h =
    ap (λ o. parse_on None p o (λ k. run_from None xs (p + 1) k))
    (else_step loop k (token_kind x.token) h)

pub finish_runs : (k : List Want) (p : ℕ) → Fine k → run_from None (finish k) p k ≡ Accepted
finish_runs [] p f = refl
finish_runs (Operand n ∷ k) p f = unmet (Rest n) refl refl refl refl k (p + 1) f.0
    ∙ finish_runs k (p + 1) f.1
finish_runs (Rest n ∷ k) p f = unmet (Rest n) refl refl refl refl k p f.0 ∙ finish_runs k p f.1
finish_runs (Named n ∷ k) p f = unmet (Named n) refl refl refl refl k p f.0 ∙ finish_runs k p f.1
finish_runs (Dot n ∷ k) p f = unmet (Rest (n + 1)) refl refl refl refl k (p + 1 + 1) f.0
    ∙ finish_runs k (p + 1 + 1) f.1
finish_runs (Opened n ∷ k) p f = unmet (Rest n) refl refl refl refl k (p + 1 + 1) f.0
    ∙ finish_runs k (p + 1 + 1) f.1
finish_runs (Colon n ∷ k) p f = unmet (Rest n) refl refl refl refl k (p + 1 + 1) f.0
    ∙ finish_runs k (p + 1 + 1) f.1
finish_runs (FirstArgument ∷ k) p f = finish_runs k (p + 1) f.1
finish_runs (MoreArguments ∷ k) p f = finish_runs k (p + 1) f.1
finish_runs (NewOpen ∷ k) p f = finish_runs k (p + 1 + 1 + 1 + 1) f.1
finish_runs (Ident ∷ k) p f = finish_runs k (p + 1) f.1
finish_runs (Digits ∷ k) p f = finish_runs k (p + 1) f.1
finish_runs (Semicolon ∷ k) p f = finish_runs k (p + 1) f.1
finish_runs (StructWord ∷ k) p f = finish_runs k (p + 1) f.1
finish_runs (Star ∷ k) p f = finish_runs k (p + 1) f.1
finish_runs (RootWord ∷ k) p f = finish_runs k (p + 1) f.1
finish_runs (WhileWord ∷ k) p f = finish_runs k (p + 1) f.1
finish_runs (Round ∷ k) p f = finish_runs k (p + 1) f.1
finish_runs (Square ∷ k) p f = finish_runs k (p + 1) f.1
finish_runs (Target n ∷ k) p f = finish_runs k (p + 1) f.1
finish_runs (NamedTarget ∷ k) p f = finish_runs k (p + 1) f.1
finish_runs (Called ∷ k) p f = unmet Called refl refl refl refl k p f.0 ∙ finish_runs k p f.1
finish_runs (DotTarget ∷ k) p f = finish_runs k (p + 1 + 1 + 1) f.1
finish_runs (OpenExpression ∷ k) p f = finish_runs k (p + 1 + 1 + 1) f.1
finish_runs (OpenNothing ∷ k) p f = finish_runs k (p + 1 + 1) f.1
finish_runs (Initial ∷ k) p f = unmet Initial refl refl refl refl k p f.0 ∙ finish_runs k p f.1
finish_runs (Value ∷ k) p f = unmet Value refl refl refl refl k p f.0 ∙ finish_runs k p f.1
finish_runs (Body loop ∷ k) p f = finish_runs k (p + 1 + 1) f.1
finish_runs (Bare ∷ k) p f = bare_ends (finish k) p k ∙ finish_runs k p f.1
finish_runs (Else loop ∷ k) p f = else_ends (finish k) loop p k (finish_no_else k)
    ∙ finish_runs k p f.1
finish_runs (Block loop ∷ k) p f = finish_runs k (p + 1) f.1
finish_runs (OpenFor ∷ k) p f = finish_runs k (p + 1 + 1 + 1 + 1) f.1
finish_runs (ForFirst ∷ k) p f = unmet ForFirst refl refl refl refl k p f.0 ∙ finish_runs k p f.1
finish_runs (ForThird ∷ k) p f = unmet ForThird refl refl refl refl k p f.0 ∙ finish_runs k p f.1
finish_runs (TypeName ∷ k) p f = finish_runs k (p + 1) f.1
finish_runs (Fields ∷ k) p f = finish_runs k (p + 1) f.1
finish_runs (Length ∷ k) p f = unmet Length refl refl refl refl k p f.0 ∙ finish_runs k p f.1
finish_runs (Result ∷ k) p f = finish_runs k (p + 1) f.1
finish_runs (TxResult ∷ k) p f = finish_runs k (p + 1) f.1
finish_runs (OpenParameters ∷ k) p f = finish_runs k (p + 1 + 1) f.1
finish_runs (Parameters ∷ k) p f = finish_runs k (p + 1) f.1
finish_runs (MoreParameters ∷ k) p f = finish_runs k (p + 1) f.1
finish_runs (OpenBody ∷ k) p f = finish_runs k (p + 1 + 1) f.1
finish_runs (StructOrFunction ∷ k) p f = finish_runs k (p + 1 + 1 + 1 + 1 + 1 + 1) f.1
finish_runs (Items ∷ k) p f = ap (λ k. ends p (parser_step k kind.End)) f.0

-- the condition holds if the first n tokens can be taken
abbrev pub IfPasses : Option (List Want) → (List Want → Type 0) → Type 0
IfPasses None g = ⊥
IfPasses (Some k) g = g k

abbrev pub Passes : List Placed → ℕ → List Want → Type 0
Passes ts zero k = Unit {0}
Passes [] (suc n) k = ⊥
Passes (x ∷ xs) (suc n) k = IfPasses (parser_step k (token_kind x.token)) (λ s. Passes xs n s)

-- the tokens taken, and then a shortest ending
abbrev completed : Option (List Want) → (List Want → List Placed) → List Placed
completed None g = []
completed (Some k) g = g k

abbrev pub completion : List Placed → ℕ → List Want → List Placed
completion ts zero k = finish k
completion [] (suc n) k = []
completion (x ∷ xs) (suc n) k =
    x ∷ completed (parser_step k (token_kind x.token)) (λ s. completion xs n s)

pub completion_runs : (ts : List Placed) (n p : ℕ) (k : List Want) → Passes ts n k → Fine k
    → run_from None (completion ts n k) p k ≡ Accepted
completion_runs [] zero p k h f = finish_runs k p f
completion_runs (x ∷ xs) zero p k h f = finish_runs k p f
completion_runs [] (suc n) p k h f = absurd h
completion_runs (x ∷ xs) (suc n) p k h f =
    go (parser_step k (token_kind x.token)) h (step_fine k (token_kind x.token) f)
    (λ s h f. completion_runs xs n (p + 1) s h f)
  where
    go : (o : Option (List Want)) → IfPasses o (λ s. Passes xs n s) → IfFine o
        → ((s : List Want) → Passes xs n s → Fine s → run_from None (completion xs n s) (p + 1) s
        ≡ Accepted)
        → parse_on None p o (λ s. run_from None (completed o (λ s. completion xs n s)) (p + 1) s)
        ≡ Accepted
    go None h f more = absurd h
    go (Some s) h f more = more s h f

pub completion_agrees : (ts : List Placed) (n : ℕ) (k : List Want) → Passes ts n k → (i : ℕ) → i < n
    → slice_get (completion ts n k) i ≡ slice_get ts i
completion_agrees ts zero k h i inside = absurd (omega arith)
completion_agrees [] (suc n) k h i inside = absurd h
completion_agrees (x ∷ xs) (suc n) k h zero inside = refl
completion_agrees (x ∷ xs) (suc n) k h (suc i) inside =
    go (parser_step k (token_kind x.token)) h (λ s h. completion_agrees xs n s h i (omega arith))
  where
    go : (o : Option (List Want)) → IfPasses o (λ s. Passes xs n s)
        → ((s : List Want) → Passes xs n s → slice_get (completion xs n s) i ≡ slice_get xs i)
        → slice_get (completed o (λ s. completion xs n s)) i ≡ slice_get xs i
    go None h more = absurd h
    go (Some s) h more = more s h

pub completion_weighs : (ts : List Placed) (n : ℕ) (k : List Want) → Passes ts n k → (i : ℕ) → i < n
    → slice_get (weights_from (completion ts n k) k) i ≡ slice_get (weights_from ts k) i
completion_weighs ts zero k h i inside = absurd (omega arith)
completion_weighs [] (suc n) k h i inside = absurd h
completion_weighs (x ∷ xs) (suc n) k h i inside =
    go (parser_step k (token_kind x.token)) h i inside (λ s h i inside.
    completion_weighs xs n s h i inside)
  where
    go : (o : Option (List Want)) → IfPasses o (λ s. Passes xs n s) → (i : ℕ) → i < suc n
        → ((s : List Want) → Passes xs n s → (i : ℕ) → i < n
        → slice_get (weights_from (completion xs n s) s) i ≡ slice_get (weights_from xs s) i)
        → slice_get (weigh o (λ s. weights_from (completed o (λ s. completion xs n s)) s)) i
        ≡ slice_get (weigh o (λ s. weights_from xs s)) i
    go None h i inside more = absurd h
    go (Some s) h zero inside more = refl
    go (Some s) h (suc i) inside more = more s h i (omega arith)
