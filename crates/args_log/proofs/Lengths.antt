-- The number of events of each part of a call.
use Rattle.std.proofs.Common.{◌≡◌, ℕ, zero, suc, ◌+◌, ℤ, List, [], ◌∷◌, ◌++◌, length, refl, ap}
use Rattle.std.proofs.Common.{arith}
use Rattle.std.proofs.lemmas.List.{length-append}
use Rattle.cache_model.specs.Event.{Store, Fence}
use Rattle.pool_layout.specs.declared.places.TheConstants.{FUNCTION, SEAL}
use Rattle.args_log.specs.Seal.{stores_from, flushes_from, payload_lines, payload_events}
use Rattle.args_log.specs.Seal.{unsealed_events, sealing_events, seal_events}
use Rattle.args_log.specs.Retire.{retire_events, mark_events}

stores_length : (w : ℕ) (xs : List ℤ) → length (stores_from w xs) ≡ length xs
stores_length w [] = refl
stores_length w (x ∷ xs) = ap suc (stores_length (suc w) xs)

flushes_length : (l n : ℕ) → length (flushes_from l n) ≡ n
flushes_length l zero = refl
flushes_length l (suc n) = ap suc (flushes_length (suc l) n)

payload_length : (f : ℤ) (args : List ℤ) → length (payload_events f args) ≡ length args
    + payload_lines (length args) + 2
unfolding payload_events
payload_length f args =
    let all = length-append (stores_from FUNCTION (f ∷ args))
    (flushes_from 3 (payload_lines (length args)) ++ Fence ∷ []) in
    let last = length-append (flushes_from 3 (payload_lines (length args))) (Fence ∷ []) in
    let stores = stores_length FUNCTION (f ∷ args) in
    let flushes = flushes_length 3 (payload_lines (length args)) in
    omega arith

pub seal_length : (f : ℤ) (args : List ℤ) (k : ℤ) → length (seal_events f args k) ≡ length args
    + payload_lines (length args) + 5
unfolding seal_events unsealed_events sealing_events
seal_length f args k =
    let all = length-append (unsealed_events f args k) sealing_events in
    let stored = length-append (payload_events f args) (Store SEAL k ∷ []) in
    let payload = payload_length f args in
    omega arith

pub retire_length : (v d a : ℤ) → length (retire_events v d a) ≡ 5
unfolding retire_events
retire_length v d a = refl

pub mark_length : (k : ℕ) → length (mark_events k) ≡ 3
unfolding mark_events
mark_length k = refl
