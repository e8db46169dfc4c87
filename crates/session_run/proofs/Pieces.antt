-- The words of an image, written piece by piece.
use Rattle.std.proofs.Common.{◌≡◌, ℕ, zero, suc, ◌+◌, ◌-◌, ◌*◌, ◌≤◌, ◌++◌, List, ℤ, Option}
use Rattle.std.proofs.Common.{Result, Ok, Err, take, sym, ap, ◌∙◌, subst, arith, append-nil}
use Rattle.std.proofs.Common.{append_assoc}
use Rattle.std.specs.Prelude.{OnOk, OnErr}
use Rattle.std.specs.Io.KnownBytes.{Appends, Keeps}
use Rattle.nvm_base.specs.Parts.{AppendsPart}
use Rattle.nvm_base.proofs.Ended.{ended, ended_part}
use Rattle.nvm_base.proofs.Pieces.{appends_more, appends_part_after, appends_part_before}
use Rattle.nvm_base.proofs.Pieces.{on_err_anyway}
use Rattle.cache_model.specs.Cache.{Words, view}
use Rattle.pmem.specs.Device.{Device}
use Rattle.pool_layout.specs.Bytes.{bytes_of, bytes_of_word}
use Rattle.pm_machine.specs.HeapPool.{words_from}
use Rattle.session_run.specs.Saved.{on_again, saved_bytes}

-- the bytes of two stretches of words
bytes-add : (h : Words) (w m n : ℕ) → bytes_of (words_from h w (m + n))
    ≡ bytes_of (words_from h w m) ++ bytes_of (words_from h (w + m) n)
bytes-add h w zero n =
    let left : zero + n ≡ n = omega arith in
    let right : w ≡ w + zero = omega arith in
    ap (λ (k : ℕ). bytes_of (words_from h w k)) left
    ∙ ap (λ (v : ℕ). bytes_of (words_from h v n)) right
bytes-add h w (suc m) n =
    let left : suc m + n ≡ suc (m + n) = omega arith in
    let right : suc w + m ≡ w + suc m = omega arith in
    ap (λ (k : ℕ). bytes_of (words_from h w k)) left
    ∙ ap (λ (bs : List ℕ). bytes_of_word (h w) ++ bs) (bytes-add h (suc w) m n
    ∙ ap (λ (v : ℕ). bytes_of (words_from h (suc w) m) ++ bytes_of (words_from h v n)) right)
    ∙ sym (append_assoc (bytes_of_word (h w)) (bytes_of (words_from h (suc w) m))
    (bytes_of (words_from h (w + suc m) n)))

-- the bytes of the first words, and of those after them
first-add : (h : Words) (m n : ℕ) → bytes_of (words_from h 0 (m + n))
    ≡ bytes_of (words_from h 0 m) ++ bytes_of (words_from h m n)
first-add h m n =
    let start : 0 + m ≡ m = omega arith in
    bytes-add h 0 m n
    ∙ ap (λ (v : ℕ). bytes_of (words_from h 0 m) ++ bytes_of (words_from h v n)) start

-- one more word
pub word_put : (h : Words) (w k : ℕ) (old new : List ℕ) (x : ℤ) → x ≡ h (w + k)
    → take (8 * k) old ≡ bytes_of (words_from h w k)
    → take (8 * (k + 1)) new ≡ take (8 * k) old ++ bytes_of_word x
    → take (8 * (k + 1)) new ≡ bytes_of (words_from h w (k + 1))
word_put h w k old new x is so_far put =
    put ∙ (λ i. so_far i ++ bytes_of_word (is i))
    ∙ ap (λ (bs : List ℕ). bytes_of (words_from h w k) ++ bs)
    (sym (append-nil (bytes_of_word (h (w + k)))))
    ∙ sym (bytes-add h w k 1)

-- all words of a piece
pub all_put : (h : Words) (w k n : ℕ) (piece : List ℕ) → k ≡ n
    → take (8 * k) piece ≡ bytes_of (words_from h w k)
    → take (8 * n) piece ≡ bytes_of (words_from h w n)
all_put h w k n piece end so_far =
    subst (λ (m : ℕ). take (8 * m) piece ≡ bytes_of (words_from h w m)) end so_far

-- one more piece
pub piece_written : (a b c : Option (List ℕ)) (h : Words) (m n : ℕ)
    → Appends a b (bytes_of (words_from h 0 m)) → Appends b c (bytes_of (words_from h m n))
    → Appends a c (bytes_of (words_from h 0 (m + n)))
piece_written a b c h m n first next =
    subst (Appends a c) (sym (first-add h m n))
    (appends_more a b c (bytes_of (words_from h 0 m)) (bytes_of (words_from h m n)) first next)

-- a part of the next piece
pub part_written : (a b c : Option (List ℕ)) (h : Words) (m n all : ℕ) → m + n ≤ all
    → Appends a b (bytes_of (words_from h 0 m)) → AppendsPart b c (bytes_of (words_from h m n))
    → AppendsPart a c (bytes_of (words_from h 0 all))
part_written a b c h m n all within first next =
    let rest : ℕ = all - (m + n) in
    let whole : m + n + rest ≡ all = omega arith in
    subst (λ (k : ℕ). AppendsPart a c (bytes_of (words_from h 0 k))) whole
    (subst (AppendsPart a c) (sym (first-add h (m + n) rest
    ∙ ap (λ (bs : List ℕ). bs ++ bytes_of (words_from h (m + n) rest)) (first-add h m n)))
    (appends_part_before a c
    (bytes_of (words_from h 0 m) ++ bytes_of (words_from h m n))
    (bytes_of (words_from h (m + n) rest))
    (appends_part_after a b c (bytes_of (words_from h 0 m)) (bytes_of (words_from h m n)) first
    next)))

on_ok_anyway : {T E P : Type 0} (r : Result T E) → P → OnOk r P
on_ok_anyway (Ok v) holds = holds
on_ok_anyway (Err e) holds = tt

-- all was written
pub all_written : {T E : Type 0} (a b c : Option (List ℕ)) (h : Words) (m all : ℕ)
    (r : Result T E) → m ≤ all → all ≤ m → Appends a b (bytes_of (words_from h 0 m)) → Keeps b c
    → OnOk r (Appends a c (bytes_of (words_from h 0 all)))
    × OnErr r (AppendsPart a c (bytes_of (words_from h 0 all)))
all_written a b c h m all r below above written kept =
    let same : m ≡ all = omega arith in
    let whole : Appends a b (bytes_of (words_from h 0 all)) =
    subst (λ (k : ℕ). Appends a b (bytes_of (words_from h 0 k))) same written in (
      on_ok_anyway r (ended a b c (bytes_of (words_from h 0 all)) whole kept),
      on_err_anyway r (ended_part a b c (bytes_of (words_from h 0 all)) whole kept),
    )

-- the words of so many lines, once the device is on, are those that are saved
pub saved_is : (d e : Device) (n : ℕ) → e ≡ on_again d → n ≡ d.lines
    → bytes_of (words_from (view e.cache) 0 (8 * n)) ≡ saved_bytes d
saved_is d e n same lines = λ i. bytes_of (words_from (view (same i).cache) 0 (8 * lines i))
