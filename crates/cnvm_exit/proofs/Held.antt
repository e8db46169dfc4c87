-- Bytes that are held back count as taken, so to write the first of them changes nothing.
use Rattle.std.proofs.Common.{ℕ, List, [], ◌++◌, take, drop, Option, Some, None, refl, sym, ap, ◌∙◌}
use Rattle.std.proofs.Common.{append_assoc, append-nil}
use Rattle.std.proofs.lemmas.List.{take-append-drop}
use Rattle.std.specs.Io.KnownBytes.{Appends, Keeps, append_known}

pub keeps_same : (w : Option (List ℕ)) → Keeps w w
keeps_same None = tt
keeps_same (Some xs) = refl

pub keeps_both : (a b c : Option (List ℕ)) → Keeps a b → Keeps b c → Keeps a c
keeps_both None b c first second = tt
keeps_both (Some xs) None c first second = absurd first
keeps_both (Some xs) (Some ys) None first second = absurd second
keeps_both (Some xs) (Some ys) (Some zs) first second = second ∙ first

-- the first bytes that were held back are written
pub sent : (w w1 : Option (List ℕ)) (held : List ℕ) (n : ℕ) → Appends w w1 (take n held)
    → Keeps (append_known w held) (append_known w1 (drop n held))
sent None w1 held n appends = tt
sent (Some xs) None held n appends = absurd appends
sent (Some xs) (Some ys) held n appends =
    ap (λ zs. zs ++ drop n held) appends
    ∙ (append_assoc xs (take n held) (drop n held) ∙ ap (λ zs. xs ++ zs) (take-append-drop n held))

pub kept_on : (w w1 : Option (List ℕ)) (held : List ℕ) → Keeps w w1
    → Keeps (append_known w held) (append_known w1 held)
kept_on None w1 held keeps = tt
kept_on (Some xs) None held keeps = absurd keeps
kept_on (Some xs) (Some ys) held keeps = ap (λ zs. zs ++ held) keeps

-- a piece is held back too
pub held_too : (w : Option (List ℕ)) (held piece : List ℕ)
    → Appends (append_known w held) (append_known w (held ++ piece)) piece
held_too None held piece = tt
held_too (Some xs) held piece = sym (append_assoc xs held piece)

-- bytes are written after all that were held back
pub after_sent : (w w1 w2 : Option (List ℕ)) (held bs : List ℕ)
    → Keeps (append_known w held) (append_known w1 []) → Appends w1 w2 bs
    → Appends (append_known w held) (append_known w2 []) bs
after_sent None w1 w2 held bs keeps appends = tt
after_sent (Some xs) None w2 held bs keeps appends = absurd keeps
after_sent (Some xs) (Some ys) None held bs keeps appends = absurd appends
after_sent (Some xs) (Some ys) (Some zs) held bs keeps appends =
    append-nil zs ∙ (appends ∙ ap (λ all. all ++ bs) (sym (append-nil ys) ∙ keeps))

-- nothing is written after all that were held back
pub kept_after : (w w1 w2 : Option (List ℕ)) (held : List ℕ)
    → Keeps (append_known w held) (append_known w1 []) → Keeps w1 w2
    → Keeps (append_known w held) (append_known w2 [])
kept_after w w1 w2 held first second =
    keeps_both (append_known w held) (append_known w1 []) (append_known w2 []) first
    (kept_on w1 w2 [] second)
