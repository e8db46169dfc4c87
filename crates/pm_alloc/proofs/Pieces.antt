-- Pieces of code, one part after another.
use Rattle.std.proofs.Common.{◌≡◌, ℕ, zero, suc, ◌+◌, ◌-◌, ◌*◌, ◌<◌, Bool, true, false, List, []}
use Rattle.std.proofs.Common.{◌∷◌, ◌++◌, length, refl, sym, ap, ◌∙◌, arith, append_assoc}
use Rattle.std.specs.Prelude.{if◌then◌else◌}
use Rattle.pool_layout.specs.declared.limits.Sizes.{Sizes}
use Rattle.pm_alloc.specs.declared.local.Reg.TheVariants.{Own, Temp}
use Rattle.pm_alloc.specs.declared.local.Local.{Local}
use Rattle.pm_alloc.specs.declared.local.Local.TheVariants.{Mov}
use Rattle.pm_alloc.specs.Pieces.{offset, store_code, fill_code, loop_fill, fills_by_loop, filling}
use Rattle.pm_alloc.specs.Pieces.{new_head, new_code}

-- one store of the fill, and the rest of it
pub fill_code_step : (piece : List Local) (s : Sizes) (j c n : ℕ) (b : Bool) → c < n
    → (piece ++ store_code b (Temp 1) (offset s j) (Temp 6)) ++ fill_code s b (j + 1) (n - (c + 1))
    ≡ piece ++ fill_code s b j (n - c)
fill_code_step piece s j c n b more =
    let e : n - c ≡ suc (n - (c + 1)) = omega arith in
    append_assoc piece (store_code b (Temp 1) (offset s j) (Temp 6))
    (fill_code s b (j + 1) (n - (c + 1))) ∙ ap (λ (m : ℕ). piece ++ fill_code s b j m) (sym e)

abbrev pub fill_words : Bool → ℕ → ℕ
fill_words true c = 2 * c
fill_words false c = c

pub fill_code_length : (s : Sizes) (b : Bool) (j c : ℕ)
    → length (fill_code s b j c) ≡ fill_words b c
fill_code_length s true j zero = refl
fill_code_length s false j zero = refl
fill_code_length s true j (suc c) = omega (arith, fill_code_length s true (j + 1) c)
fill_code_length s false j (suc c) = ap suc (fill_code_length s false (j + 1) c)

-- the number of instructions of a fill
abbrev pub filling_words : (loop b : Bool) → ℕ → ℕ
filling_words true true c = 8
filling_words true false c = 7
filling_words false b c = fill_words b c

pub filling_length : (s : Sizes) (b : Bool) (c : ℕ)
    → length (filling s b 8 c) ≡ filling_words (fills_by_loop s c) b c
filling_length s b c = by (fills_by_loop s c) b
  where
    by : (d b : Bool) → length (if d then loop_fill s b 8 c else fill_code s b 1 c)
        ≡ filling_words d b c
    by true true = refl
    by true false = refl
    by false true = fill_code_length s true 1 c
    by false false = fill_code_length s false 1 c

pub new_code_parts : (piece : List Local) (s : Sizes) (to kind c n : ℕ) (b : Bool) →
    n ≡ length (filling s b 8 c) →
    ((piece ++ new_head s kind n) ++ filling s b 8 c) ++ Mov (Own to) (Temp 0) ∷ [] ≡ piece
    ++ new_code s to kind c b
new_code_parts piece s to kind c n b e =
    let fill : List Local = filling s b 8 c in
    append_assoc (piece ++ new_head s kind n) fill (Mov (Own to) (Temp 0) ∷ [])
    ∙ append_assoc piece (new_head s kind n) (fill ++ Mov (Own to) (Temp 0) ∷ [])
    ∙ ap (λ (m : ℕ). piece ++ (new_head s kind m ++ (fill ++ Mov (Own to) (Temp 0) ∷ []))) e
