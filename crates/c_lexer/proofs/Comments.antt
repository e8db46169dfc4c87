-- One more byte of a comment that doesn't end there. The code sees the bytes from a place on as
-- `take (length bytes - at) (drop at bytes)`.
use Rattle.std.proofs.Common.{◌≡◌, ℕ, ◌+◌, ◌-◌, ◌<◌, List, ◌∷◌, length, take, drop, get_or, false}
use Rattle.std.proofs.Common.{refl, add-one, drop-cons}
use Rattle.std.proofs.lemmas.List.{take_rest}
use Rattle.std.specs.Prelude.{codes, nat_eq}
use Rattle.std.specs.List.{starts_with}
use Rattle.c_lexer.specs.Comments.{after_close}

pub after_step : (at : ℕ) (bytes : List ℕ) → at < length bytes →
    false ≡ starts_with nat_eq (take (length bytes - at) (drop at bytes)) (codes "*/") →
    after_close (at + 1) (drop (at + 1) bytes) ≡ after_close at (drop at bytes)
after_step at bytes within still =
    let cons : drop at bytes ≡ get_or bytes at 0 ∷ drop (at + 1) bytes =
    rw (add-one, drop-cons bytes at 0) refl in
    let still_here = rw (take_rest bytes at, cons) at still in
    rw (cons, ← still_here) refl
