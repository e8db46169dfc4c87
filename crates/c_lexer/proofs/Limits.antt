-- The limit of 16,384 tokens, applied to a cut with tokens kept before it.
use Rattle.std.proofs.Common.{◌≡◌, ℕ, ◌≤◌, List, [], ◌∷◌, ◌++◌, length, true, false, arith, refl}
use Rattle.std.proofs.Common.{sym, ap, length-append, append_assoc, append-nil}
use Rattle.std.proofs.lemmas.Bool.Decides.{nat_tests}
use Rattle.std.specs.Prelude.{Ok, Err, nat_lt}
use Rattle.c_lexer.specs.declared.fault.LexFault.{LexFault}
use Rattle.c_lexer.specs.declared.fault.LexFault.TheVariants.{TooLong}
use Rattle.c_lexer.specs.declared.token.Placed.{Placed}
use Rattle.c_lexer.specs.Cuts.{Cut, TextEnd, limited}
use Rattle.c_lexer.specs.inside.Cuts.{after_tokens}

-- no room for one more token
pub no_room : (kept : List Placed) (placed : Placed) (c : Cut) → 16384 ≤ length kept →
    limited (after_tokens kept (record { tokens = placed ∷ c.tokens; ending = c.ending }))
    ≡ Err TooLong
no_room kept placed c full =
    let long : nat_lt 16384 (length (kept ++ placed ∷ c.tokens)) ≡ true =
    grind (arith, nat_tests, length-append kept (placed ∷ c.tokens)) in
    rw long refl

-- a refusal after no more tokens than the limit
pub refused : (kept : List Placed) (fault : LexFault) → length kept ≤ 16384 →
    limited (after_tokens kept (record { tokens = []; ending = Err fault })) ≡ Err fault
refused kept fault few =
    let short : nat_lt 16384 (length (kept ++ [])) ≡ false =
    grind (arith, nat_tests, length-append kept []) in
    rw short refl

-- one more token before the cut, or at the end of those kept
pub kept_more : (kept : List Placed) (placed : Placed) (c : Cut) →
    after_tokens kept (record { tokens = placed ∷ c.tokens; ending = c.ending })
    ≡ after_tokens (kept ++ placed ∷ []) c
kept_more kept placed c = ap (λ (ts : List Placed).
    let made : Cut = record { tokens = ts; ending = c.ending } in
    made) (sym (append_assoc kept (placed ∷ []) c.tokens))

pub ruleset take_steps = (no_room, refused, kept_more)

-- the end of the text
pub ended_well : (kept : List Placed) (end : TextEnd) → length kept ≤ 16384 →
    limited (after_tokens kept (record { tokens = []; ending = Ok end }))
    ≡ Ok (record { tokens = kept; last = end.line; size = end.size })
ended_well kept end few =
    let short : nat_lt 16384 (length (kept ++ [])) ≡ false =
    grind (arith, nat_tests, length-append kept []) in
    rw (short, append-nil) refl
