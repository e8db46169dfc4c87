-- A mark has at least one byte.
use Rattle.std.proofs.Common.{◌≡◌, ℕ, ◌<◌, List, [], ◌∷◌, length, true, false, Option}
use Rattle.std.proofs.Common.{Some, arith, refl}
use Rattle.std.proofs.lemmas.Bool.Decides.{nat_tests}
use Rattle.std.specs.Prelude.{IfSome, nat_eq, nat_lt, if◌then◌else◌}
use Rattle.std.specs.List.{list_all, starts_with}
use Rattle.std.proofs.lemmas.Bool.{and_parts}
use Rattle.c_lexer.specs.declared.token.Mark.{Mark}
use Rattle.c_lexer.specs.Marks.{marks, first_fit, mark_at}

abbrev pub HasWidth : Option (ℕ × Mark) → Type 0
HasWidth found = IfSome found (λ f. 0 < f.0)

fit_width : (left : List ℕ) (rows : List (List ℕ × Mark))
    → list_all (λ row. nat_lt 0 (length row.0)) rows ≡ true →
    HasWidth (first_fit left rows)
fit_width left [] all = tt
fit_width left (row ∷ rows) all =
    let parts = and_parts (nat_lt 0 (length row.0))
    (list_all (λ (r : List ℕ × Mark). nat_lt 0 (length r.0)) rows) all in
    let some : 0 < length row.0 = grind (arith, nat_tests, parts.0) in
    let afterwards = fit_width left rows parts.1 in
    elim (starts_with nat_eq left row.0)
    as (λ fits. HasWidth (if fits then Some (length row.0, row.1) else first_fit left rows))
    [ true ↦ some | false ↦ afterwards ]

pub mark_width : (left : List ℕ) → HasWidth (mark_at left)
unfolding mark_at
mark_width left = fit_width left marks refl
