-- What is accepted is spelled, and what is spelled and not too deep is accepted.
use Rattle.std.proofs.Common.{ℕ, ◌+◌, ◌≡◌, List, [], ◌∷◌, length, Option, Some, None, Bool, true}
use Rattle.std.proofs.Common.{false, nat_lt, sym, ◌∙◌, subst, Result, Ok, Err, IfErr}
use Rattle.std.specs.Result.{IsErrAnd}
use Rattle.c_lexer.specs.declared.token.Placed.{Placed}
use Rattle.c_parser.specs.declared.fault.ParseFault.{ParseFault}
use Rattle.c_parser.specs.declared.fault.ParseFault.TheVariants as fault
use Rattle.c_parser.specs.declared.want.Want.{Want}
use Rattle.c_parser.specs.declared.want.Want.TheVariants.{Items}
use Rattle.c_tree.specs.Kinds.{token_kind}
use Rattle.c_tree.specs.declared.item.Item.{Item}
use Rattle.c_tree.specs.ItemTree.{ItemTree, items_in}
use Rattle.c_tree.specs.Program.{Program}
use Rattle.c_tree.specs.ItemSpelling.{SpellsProgram}
use Rattle.c_parser.specs.inside.Wants.{parser_step}
use Rattle.c_parser.specs.Weight.{spelled_weights}
use Rattle.c_parser.specs.inside.Stacks.{weight}
use Rattle.c_parser.specs.inside.Run.{Accepted, weighed, parse_on, run_from, parse_run}
use Rattle.c_parser.specs.inside.Run.{ParseRefuses}
use Rattle.c_parser.specs.Exact.{LightBefore, ParseGives}
use Rattle.c_parser.specs.inside.Exact.{Spelled}
use Rattle.c_parser.proofs.Back.{spelled}
use Rattle.c_parser.proofs.Laws.{run_whole, accepted_where_light, only_memory}

accepted_unlimited : (ts : List Placed) (p : ℕ) (k : List Want)
    → run_from (Some 64) ts p k ≡ Accepted → run_from None ts p k ≡ Accepted
accepted_unlimited [] p k h = h
accepted_unlimited (x ∷ xs) p k h =
    go (parser_step k (token_kind x.token)) h (λ s h. accepted_unlimited xs (p + 1) s h)
  where
    go : (o : Option (List Want)) → parse_on (Some 64) p o (λ s. run_from (Some 64) xs (p + 1) s)
        ≡ Accepted
        → ((s : List Want) → run_from (Some 64) xs (p + 1) s ≡ Accepted
        → run_from None xs (p + 1) s ≡ Accepted)
        → parse_on None p o (λ s. run_from None xs (p + 1) s) ≡ Accepted
    go None h more = cc
    go (Some s) h more = at (nat_lt 64 (weight s)) h
      where
        at : (b : Bool) → weighed b p (run_from (Some 64) xs (p + 1) s) ≡ Accepted
            → run_from None xs (p + 1) s ≡ Accepted
        at true h = cc
        at false h = more s h

pub spelled_where_accepted : (ts : List Placed) → parse_run (Some 64) ts 0 (Items ∷ []) ≡ Accepted
    → Spelled ts
spelled_where_accepted ts h =
    spelled ts (run_whole None ts (Items ∷ []) ∙ accepted_unlimited ts 0 (Items ∷ [])
    (sym (run_whole (Some 64) ts (Items ∷ [])) ∙ h))

pub answered_at : (ts : List Placed) (f : ParseFault)
    → ParseRefuses f (parse_run (Some 64) ts 0 (Items ∷ [])) → (xs : List ItemTree)
    (spells : SpellsProgram ts xs)
    → LightBefore (spelled_weights spells) (length ts) → f ≡ fault.NoMemory
answered_at ts f h xs spells light =
    only_memory f (parse_run (Some 64) ts 0 (Items ∷ [])) (accepted_where_light ts xs spells light)
    h

-- a property of a callee's fault holds of the answer that passes it on
pub through_err : {A : Type 0} (r : Result A ParseFault) (f : ParseFault) (P : ParseFault → Type 0)
    → IsErrAnd r (λ e. e ≡ f) → P f → IfErr r P
through_err (Ok x) f P h g = absurd h
through_err (Err e) f P h g = subst P (sym h) g

-- a fault that is passed on is want of memory
pub gives_err : (r : Result Program ParseFault) (xs : List ItemTree) (f : ParseFault)
    → IsErrAnd r (λ e. e ≡ f) → f ≡ fault.NoMemory → ParseGives r xs
gives_err (Ok p) xs f h g = absurd h
gives_err (Err e) xs f h g = h ∙ g

-- the items that were built are those that the tokens spell
pub spelled_by : (ts : List Placed) (all : List Item) → Spelled ts
    → ((xs : List ItemTree) → SpellsProgram ts xs → items_in all ≡ xs)
    → SpellsProgram ts (items_in all)
spelled_by ts all some same = subst (λ xs. SpellsProgram ts xs) (sym (same some.0 some.1)) some.1
