-- Lemmas on bytes that are moved piece by piece: those taken from a source, and those appended to a
-- sink.
use Rattle.std.proofs.Common.{◌≡◌, ap, ℕ, ◌+◌, ◌-◌, ◌≤◌, List, ◌++◌, length, take, drop, Option}
use Rattle.std.proofs.Common.{Some, None, Result, Ok, Err, sym, ◌∙◌, arith, append_assoc}
use Rattle.std.proofs.Common.{length-append}
use Rattle.std.specs.Prelude.{OnErr}
use Rattle.std.specs.Io.KnownBytes.{Appends, Consumes, Keeps}
use Rattle.std.proofs.lemmas.Grind.{common_steps}
use Rattle.std.proofs.lemmas.List.{take-append-drop, drop-drop}
use Rattle.std.proofs.Math.Seq.{take-append_seam, take-add}
use Rattle.nvm_base.specs.Parts.{AppendsPart, Takes}
use Rattle.nvm_base.proofs.Ended.{ended}

-- the first n bytes of a source, copied to the front of a piece, are the bytes taken
pub left_copied : (left piece copied bytes : List ℕ) (at n : ℕ)
    → left ≡ drop at bytes → copied ≡ take n left → length copied ≡ n
    → left ≡ take n (copied ++ drop n piece) ++ drop (at + n) bytes
left_copied left piece copied bytes at n is copy size =
    rw (← drop-drop n at bytes, ← is, ← size, take-append_seam, size, copy)
    (sym (take-append-drop n left))

-- two appends in a row append both lists
pub appends_more : (a b c : Option (List ℕ)) (xs ys : List ℕ) → Appends a b xs → Appends b c ys
    → Appends a c (xs ++ ys)
appends_more None b c xs ys first next = tt
appends_more (Some us) None c xs ys first next = absurd first
appends_more (Some us) (Some vs) None xs ys first next = absurd next
appends_more (Some us) (Some vs) (Some ws) xs ys first next = grind (arith, append_assoc)

-- the bytes from place `at` to the end are those of `&bytes[at..]`
pub slice_drop : (at : ℕ) (bs : List ℕ) → take (length bs - at) (drop at bs) ≡ drop at bs
slice_drop at bs = grind (arith, common_steps)

-- appending the next n bytes of bs extends the part that was appended
pub appends_take_more : (a b c : Option (List ℕ)) (bs : List ℕ) (at n : ℕ)
    → Appends a b (take at bs)
    → Appends b c (take n (take (length bs - at) (drop at bs))) → Appends a c (take (at + n) bs)
appends_take_more a b c bs at n first next =
    let rest : Appends b c (take n (drop at bs)) = rw slice_drop at next in
    rw take-add (appends_more a b c (take at bs) (take n (drop at bs)) first rest)

-- appending nothing more leaves a first part of bs appended
pub appends_part : (a b c : Option (List ℕ)) (bs : List ℕ) (at : ℕ)
    → Appends a b (take at bs) → Keeps b c → AppendsPart a c bs
appends_part a b c bs at first next = record {
  part = take at bs;
  rest = drop at bs;
  split = sym (take-append-drop at bs);
  appended = ended a b c (take at bs) first next;
}

-- a first part of ys, appended after the whole of xs
pub appends_part_after : (a b c : Option (List ℕ)) (xs ys : List ℕ) → Appends a b xs
    → AppendsPart b c ys
    → AppendsPart a c (xs ++ ys)
appends_part_after a b c xs ys first next = record {
  part = xs ++ next.part;
  rest = next.rest;
  split = ap (λ z. xs ++ z) next.split ∙ sym (append_assoc xs next.part next.rest);
  appended = appends_more a b c xs next.part first next.appended;
}

-- a first part of xs is also a first part of xs followed by ys
pub appends_part_before : (a b : Option (List ℕ)) (xs ys : List ℕ) → AppendsPart a b xs
    → AppendsPart a b (xs ++ ys)
appends_part_before a b xs ys some = record {
  part = some.part;
  rest = some.rest ++ ys;
  split = ap (λ z. z ++ ys) some.split ∙ append_assoc some.part some.rest ys;
  appended = some.appended;
}

-- two reads in a row take both lists
pub consumes_more : (a b c : Option (List ℕ)) (xs ys : List ℕ) → Consumes a b xs → Consumes b c ys
    → Consumes a c (xs ++ ys)
consumes_more None b c xs ys first next = tt
consumes_more (Some us) None c xs ys first next = absurd first
consumes_more (Some us) (Some vs) None xs ys first next = absurd next
consumes_more (Some us) (Some vs) (Some ws) xs ys first next = grind (arith, append_assoc)

-- taking bytes, and then a bounded number more
pub takes_more : (a b c : Option (List ℕ)) (xs : List ℕ) (most : ℕ) (P : ℕ → Type 0)
    → Consumes a b xs
    → Takes b c P → ((n : ℕ) → P n → length xs + n ≤ most) → Takes a c (λ n. n ≤ most)
takes_more a b c xs most P first next bound = record {
  taken = xs ++ next.taken;
  consumed = consumes_more a b c xs next.taken first next.consumed;
  count = rw length-append (bound (length next.taken) next.count);
}

-- a fact that always holds also holds after an error
pub on_err_anyway : {T E P : Type 0} (r : Result T E) → P → OnErr r P
on_err_anyway (Ok v) holds = tt
on_err_anyway (Err e) holds = holds
