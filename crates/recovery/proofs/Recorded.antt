-- The words of an argument record, as a list.
use Rattle.std.proofs.Common.{◌≡◌, ℕ, zero, suc, ◌+◌, ◌<◌, ◌≤◌, List, [], ◌∷◌, take, length}
use Rattle.std.proofs.Common.{slice_index_or, Option, Some, None, IsSomeAnd, min, ℤ, pos, refl, ap}
use Rattle.std.proofs.Common.{◌∙◌, arith}
use Rattle.cache_model.specs.Cache.{Words}
use Rattle.args_log.specs.Pending.{HoldsArguments}
use Rattle.pm_machine.specs.declared.op.TxEntry.{TxEntry}
use Rattle.pm_machine.specs.HeapPool.{words_from}
use Rattle.recovery.specs.Found.{entry_words}
use Rattle.pool_layout.specs.declared.places.TheConstants.{ARGUMENTS, FIRST_ARGUMENT}

pub take_words : (xs : List ℤ) (p m : ℕ) (w : Words) → m ≤ length xs
    → ((k : ℕ) → k < length xs → slice_index_or xs k (pos 0) ≡ w (p + k))
    → take m xs ≡ words_from w p m
take_words xs p zero w few same = refl
take_words [] p (suc m) w few same = absurd (let h : ⊥ = omega arith in h)
take_words (x ∷ xs) p (suc m) w few same =
    let head : x ≡ w p = same 0 (omega arith) ∙ ap w (omega arith) in
    ap (λ (y : ℤ). y ∷ take m xs) head
    ∙ ap (λ (ys : List ℤ). w p ∷ ys)
    (take_words xs (suc p) m w (omega arith) (λ k less. same (suc k) (omega arith)
    ∙ ap w (omega arith)))

all_words : (xs : List ℤ) (p : ℕ) (w : Words)
    → ((k : ℕ) → k < length xs → slice_index_or xs k (pos 0) ≡ w (p + k))
    → xs ≡ words_from w p (length xs)
all_words [] p w same = refl
all_words (x ∷ xs) p w same =
    let head : x ≡ w p = same 0 (omega arith) ∙ ap w (omega arith) in
    ap (λ (y : ℤ). y ∷ xs) head
    ∙ ap (λ (ys : List ℤ). w p ∷ ys)
    (all_words xs (suc p) w (λ k less. same (suc k) (omega arith) ∙ ap w (omega arith)))

-- a transaction of fewer parameters than a record has argument words, and one of as many
pub given_few : (o : Option TxEntry) (n : ℕ) (xs : List ℤ) (w : Words)
    → IsSomeAnd o (λ e. n ≡ e.parameters) → n < ARGUMENTS → length xs ≡ ARGUMENTS
    → HoldsArguments w xs
    → take n xs ≡ words_from w FIRST_ARGUMENT (entry_words o)
given_few None n xs w is less whole holds = absurd is
given_few (Some e) n xs w is less whole holds =
    let same : n ≡ min e.parameters ARGUMENTS = omega arith in
    take_words xs FIRST_ARGUMENT n w (omega arith) (λ k below. holds k (omega arith))
    ∙ ap (λ (m : ℕ). words_from w FIRST_ARGUMENT m) same

pub given_all : (o : Option TxEntry) (n : ℕ) (xs : List ℤ) (w : Words)
    → IsSomeAnd o (λ e. n ≡ e.parameters) → ARGUMENTS ≤ n → length xs ≡ ARGUMENTS
    → HoldsArguments w xs
    → xs ≡ words_from w FIRST_ARGUMENT (entry_words o)
given_all None n xs w is more whole holds = absurd is
given_all (Some e) n xs w is more whole holds =
    let same : length xs ≡ min e.parameters ARGUMENTS = omega arith in
    all_words xs FIRST_ARGUMENT w (λ k below. holds k (omega arith))
    ∙ ap (λ (m : ℕ). words_from w FIRST_ARGUMENT m) same
