-- One argument more.
use Rattle.std.proofs.Common.{◌≡◌, ℕ, suc, ◌+◌, ◌-◌, ◌<◌, List, ◌++◌, sym, ◌∙◌, ap, arith}
use Rattle.std.proofs.Common.{append_assoc}
use Rattle.c_file.specs.declared.pieces.Wording.{Wording}
use Rattle.c_file.specs.Pieces.{worded, worded_from}

pub argument_added : (text new all : List ℕ) (how : Wording) (k n : ℕ) → k < n
    → new ≡ text ++ worded how k → text ++ worded_from how k (n - k) ≡ all
    → new ++ worded_from how (k + 1) (n - (k + 1)) ≡ all
argument_added text new all how k n low e h =
    let left : n - k ≡ suc (n - (k + 1)) = omega (arith, low) in
    ap (λ (l : List ℕ). l ++ worded_from how (k + 1) (n - (k + 1))) e
    ∙ append_assoc text (worded how k) (worded_from how (k + 1) (n - (k + 1)))
    ∙ ap (λ (m : ℕ). text ++ worded_from how k m) (sym left) ∙ h

-- two pieces, one after another
pub step : (t u v a b : List ℕ) → u ≡ t ++ a → v ≡ u ++ b → v ≡ t ++ (a ++ b)
step t u v a b h k = k ∙ ap (λ (l : List ℕ). l ++ b) h ∙ append_assoc t a b
