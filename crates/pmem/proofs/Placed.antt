-- The list of lines with older versions, whose places are known.
use Rattle.std.proofs.Common.{◌≡◌, ◌≢◌, ◌⊎◌, inl, inr, ⊎_elim, ℕ, zero, suc, ◌+◌, ◌-◌, ◌<◌, ◌≤◌}
use Rattle.std.proofs.Common.{cond, Bool, true, false, List, [], ◌∷◌, ◌++◌, length, set, get_or}
use Rattle.std.proofs.Common.{slice_get, take, Option, Some, None, refl, sym, ap, ◌∙◌, subst, arith}
use Rattle.std.proofs.Common.{swap_remove, option_map, option_to_list, IfSome, ℤ, Result, Ok, Err}
use Rattle.std.proofs.Common.{OnOk}
use Rattle.std.specs.Ordering.{nat_cmp}
use Rattle.std.specs.BTreeMap.{is_at}
use Rattle.std.proofs.lemmas.Bool.{cases_eq}
use Rattle.std.proofs.lemmas.List.{append-nil}
use Rattle.std.proofs.lemmas.Option.{same_Some, none-some, slice_get_within, slice_get-get_or}
use Rattle.pmem.specs.Sparse.{Older, kept_at}
use Rattle.pmem.specs.inside.Placed.{ArePlaced, AreApart, IsEntry}
use Rattle.pmem.specs.inside.Sparse.{more_older, flush_older, fence_older, fence_entry}
use Rattle.pmem.specs.inside.Sparse.{has_older, count_of}
use Rattle.pmem.proofs.Sparses.{at_same, at_other}

abbrev Entry : Type 0
Entry = ℕ × Older

-- an entry of line q
abbrev Has : List Entry → ℕ → Older → Type 0
Has es q y = (i : ℕ) × (slice_get es i ≡ Some (q, y))

key_same : (a b : Entry) → Some a ≡ Some b → a.0 ≡ b.0
key_same a b e = cc

older_same : (a b : Entry) → Some a ≡ Some b → a.1 ≡ b.1
older_same a b e = cc

kept_first : (e : Entry) (es : List Entry) (q : ℕ) → e.0 ≡ q → kept_at (e ∷ es) q ≡ Some e.1
kept_first e es q is = ap (λ (b : Bool). cond b (Some e.1) (kept_at es q)) (at_same q e.0 is)

kept_next : (e : Entry) (es : List Entry) (q : ℕ) → e.0 ≢ q → kept_at (e ∷ es) q ≡ kept_at es q
kept_next e es q ne = ap (λ (b : Bool). cond b (Some e.1) (kept_at es q)) (at_other q e.0 ne)

-- what is found stands in the list, and what stands in it is found
pub found_has : (es : List Entry) (q : ℕ) (y : Older) → kept_at es q ≡ Some y → Has es q y
found_has [] q y is = absurd (none-some y is)
found_has (e ∷ es) q y is = ⊎_elim
    (λ (same : e.0 ≡ q). (
      0,
      λ i. Some (
        same i,
        same_Some e.1 y
            (sym (kept_first e es q same) ∙ is) i,
      ),
    ))
    (λ (ne : e.0 ≢ q). let r = found_has es q y (sym (kept_next e es q ne) ∙ is) in
    (suc r.0, r.1))
    (cases_eq e.0 q)

has_some : (es : List Entry) (i q : ℕ) (y : Older) → slice_get es i ≡ Some (q, y)
    → (z : Older) × (kept_at es q ≡ Some z)
has_some [] i q y is = absurd (none-some (q, y) is)
has_some (e ∷ es) zero q y is = (e.1, kept_first e es q (key_same e (q, y) is))
has_some (e ∷ es) (suc i) q y is = ⊎_elim
    (λ (same : e.0 ≡ q). (e.1, kept_first e es q same))
    (λ (ne : e.0 ≢ q). let r = has_some es i q y is in (r.0, kept_next e es q ne ∙ r.1))
    (cases_eq e.0 q)

pub place_found : (ps : List ℕ) (es : List Entry) (i q : ℕ) (y : Older) → ArePlaced ps es
    → slice_get es i ≡ Some (q, y) → kept_at es q ≡ Some y
place_found ps es i q y placed is =
    let z = has_some es i q y is in
    let j = found_has es q z.0 z.1 in
    let same : i ≡ j.0 = same_Some i j.0
    (sym (placed i (q, y) is) ∙ placed j.0 (q, z.0) j.1) in
    let both : Some (q, y) ≡ Some (q, z.0) =
    sym is ∙ ap (λ (k : ℕ). slice_get es k) same ∙ j.1 in
    z.1 ∙ sym (ap Some (older_same (q, y) (q, z.0) both))

-- two lists with the same entries of a line
kept_same : (ps rs : List ℕ) (es fs : List Entry) (q : ℕ) → ArePlaced ps es → ArePlaced rs fs
    → ((y : Older) → Has es q y → Has fs q y) → ((y : Older) → Has fs q y → Has es q y)
    → kept_at fs q ≡ kept_at es q
kept_same ps rs es fs q before after there back = by (kept_at fs q) (kept_at es q)
    (λ y is. let h = back y (found_has fs q y is) in place_found ps es h.0 q y before h.1)
    (λ y is. let h = there y (found_has es q y is) in place_found rs fs h.0 q y after h.1)
  where
    by : (o p : Option Older) → ((y : Older) → o ≡ Some y → p ≡ Some y)
        → ((y : Older) → p ≡ Some y → o ≡ Some y) → o ≡ p
    by None None f g = refl
    by None (Some y) f g = g y refl
    by (Some x) p f g = sym (f x refl)

kept_none : (es : List Entry) (q : ℕ) → ((y : Older) → Has es q y → ⊥) → kept_at es q ≡ None
kept_none es q missing = by (kept_at es q) (λ y is. missing y (found_has es q y is))
  where
    by : (o : Option Older) → ((y : Older) → o ≡ Some y → ⊥) → o ≡ None
    by None f = refl
    by (Some x) f = absurd (f x refl)

-- elements of lists

get_set_same : {X : Type 0} (xs : List X) (i : ℕ) (x y : X) → slice_get xs i ≡ Some y
    → slice_get (set xs i x) i ≡ Some x
get_set_same [] i x y is = absurd (none-some y is)
get_set_same (z ∷ xs) zero x y is = refl
get_set_same (z ∷ xs) (suc i) x y is = get_set_same xs i x y is

get_set_other : {X : Type 0} (xs : List X) (i j : ℕ) (x : X) → j ≢ i
    → slice_get (set xs i x) j ≡ slice_get xs j
get_set_other [] i j x ne = refl
get_set_other (z ∷ xs) zero zero x ne = absurd (ne refl)
get_set_other (z ∷ xs) zero (suc j) x ne = refl
get_set_other (z ∷ xs) (suc i) zero x ne = refl
get_set_other (z ∷ xs) (suc i) (suc j) x ne = get_set_other xs i j x (λ e. ne (ap suc e))

get_set_back : {X : Type 0} (xs : List X) (i : ℕ) (x y : X) → slice_get (set xs i x) i ≡ Some y
    → x ≡ y
get_set_back [] i x y is = absurd (none-some y is)
get_set_back (z ∷ xs) zero x y is = same_Some x y is
get_set_back (z ∷ xs) (suc i) x y is = get_set_back xs i x y is

get_push : {X : Type 0} (xs : List X) (x y : X) (j : ℕ) → slice_get (xs ++ x ∷ []) j ≡ Some y
    → (slice_get xs j ≡ Some y) ⊎ ((j ≡ length xs) × (x ≡ y))
get_push [] x y zero is = inr (refl, same_Some x y is)
get_push [] x y (suc j) is = absurd (none-some y is)
get_push (z ∷ xs) x y zero is = inl is
get_push (z ∷ xs) x y (suc j) is = ⊎_elim
    (λ (had : slice_get xs j ≡ Some y). inl had)
    (λ (last : (j ≡ length xs) × (x ≡ y)). inr (omega (arith, last.0), last.1))
    (get_push xs x y j is)

push_had : {X : Type 0} (xs : List X) (x y : X) (j : ℕ) → slice_get xs j ≡ Some y
    → slice_get (xs ++ x ∷ []) j ≡ Some y
push_had [] x y j is = absurd (none-some y is)
push_had (z ∷ xs) x y zero is = is
push_had (z ∷ xs) x y (suc j) is = push_had xs x y j is

push_last : {X : Type 0} (xs : List X) (x : X) → slice_get (xs ++ x ∷ []) (length xs) ≡ Some x
push_last [] x = refl
push_last (z ∷ xs) x = push_last xs x

take_back : {X : Type 0} (xs : List X) (m j : ℕ) (x : X) → slice_get (take m xs) j ≡ Some x
    → (j < m) × (slice_get xs j ≡ Some x)
take_back [] zero j x is = absurd (none-some x is)
take_back [] (suc m) j x is = absurd (none-some x is)
take_back (z ∷ xs) zero j x is = absurd (none-some x is)
take_back (z ∷ xs) (suc m) zero x is = (omega arith, is)
take_back (z ∷ xs) (suc m) (suc j) x is =
    let r = take_back xs m j x is in let lt = r.0 in (omega arith, r.1)

take_had : {X : Type 0} (xs : List X) (m j : ℕ) (x : X) → j < m → slice_get xs j ≡ Some x
    → slice_get (take m xs) j ≡ Some x
take_had [] m j x lt is = absurd (none-some x is)
take_had (z ∷ xs) zero j x lt is = absurd (let h : ⊥ = omega arith in h)
take_had (z ∷ xs) (suc m) zero x lt is = is
take_had (z ∷ xs) (suc m) (suc j) x lt is = take_had xs m j x (omega arith) is

-- another value of one entry

pub placed_set : (ps : List ℕ) (es fs : List Entry) (i l : ℕ) (y z : Older) → ArePlaced ps es
    → slice_get es i ≡ Some (l, y) → fs ≡ set es i (l, z) → ArePlaced ps fs
placed_set ps es fs i l y z placed here is j e at =
    let now : slice_get (set es i (l, z)) j ≡ Some e =
    ap (λ (gs : List Entry). slice_get gs j) (sym is) ∙ at in
    ⊎_elim
    (λ (same : j ≡ i).
    let there : (l, z) ≡ e = get_set_back es i (l, z) e
    (ap (λ (k : ℕ). slice_get (set es i (l, z)) k) (sym same) ∙ now) in
    ap (λ (f : Entry). slice_get ps f.0) (sym there) ∙ placed i (l, y) here ∙ ap Some (sym same))
    (λ (ne : j ≢ i). placed j e (sym (get_set_other es i j (l, z) ne) ∙ now))
    (cases_eq j i)

pub kept_set : (ps : List ℕ) (es fs : List Entry) (i l : ℕ) (y z : Older) → ArePlaced ps es
    → slice_get es i ≡ Some (l, y) → fs ≡ set es i (l, z) → (q : ℕ)
    → kept_at fs q ≡ cond (is_at (nat_cmp l) q) (Some z) (kept_at es q)
kept_set ps es fs i l y z placed here is q =
    let after = placed_set ps es fs i l y z placed here is in
    let at_i : slice_get fs i ≡ Some (l, z) =
    ap (λ (gs : List Entry). slice_get gs i) is ∙ get_set_same es i (l, z) (l, y) here in
    ⊎_elim
    (λ (e : q ≡ l). ap (λ (k : ℕ). kept_at fs k) e ∙ place_found ps fs i l z after at_i
    ∙ sym (ap (λ (b : Bool). cond b (Some z) (kept_at es q)) (at_same l q e)))
    (λ (ne : q ≢ l).
    let apart : (j : ℕ) (w : Older) → slice_get es j ≡ Some (q, w) → j ≢ i =
    λ j w at e. ne (key_same (q, w) (l, y)
    (sym at ∙ ap (λ (k : ℕ). slice_get es k) e ∙ here)) in
    let apart_now : (j : ℕ) (w : Older) → slice_get fs j ≡ Some (q, w) → j ≢ i =
    λ j w at e. ne (key_same (q, w) (l, z)
    (sym at ∙ ap (λ (k : ℕ). slice_get fs k) e ∙ at_i)) in
    let same : (j : ℕ) → j ≢ i → slice_get fs j ≡ slice_get es j = λ j other.
    ap (λ (gs : List Entry). slice_get gs j) is ∙ get_set_other es i j (l, z) other in
    kept_same ps ps es fs q placed after
    (λ w h. (h.0, same h.0 (apart h.0 w h.1) ∙ h.1))
    (λ w h. (h.0, sym (same h.0 (apart_now h.0 w h.1)) ∙ h.1))
    ∙ sym (ap (λ (b : Bool). cond b (Some z) (kept_at es q)) (at_other l q ne)))
    (cases_eq q l)

-- one more entry, of a line that had none

pub placed_push : (ps rs : List ℕ) (es fs : List Entry) (l n : ℕ) (z : Older) → ArePlaced ps es
    → kept_at es l ≡ None → l < length ps → n ≡ length es → rs ≡ set ps l n
    → fs ≡ es ++ (l, z) ∷ [] → ArePlaced rs fs
placed_push ps rs es fs l n z placed none lt count here is j e at = ⊎_elim
    (λ (had : slice_get es j ≡ Some e).
    let ne : e.0 ≢ l = λ f. let z = has_some es j e.0 e.1 had in none-some z.0
    (sym none ∙ ap (λ (k : ℕ). kept_at es k) (sym f) ∙ z.1) in
    ap (λ (ks : List ℕ). slice_get ks e.0) here ∙ get_set_other ps l e.0 n ne ∙ placed j e had)
    (λ (last : (j ≡ length es) × ((l, z) ≡ e)).
    ap (λ (f : Entry). slice_get rs f.0) (sym last.1)
    ∙ ap (λ (ks : List ℕ). slice_get ks l) here
    ∙ get_set_same ps l n (get_or ps l 0) (slice_get-get_or ps l 0 lt)
    ∙ ap Some (count ∙ sym last.0))
    (get_push es (l, z) e j (ap (λ (gs : List Entry). slice_get gs j) (sym is) ∙ at))

pub kept_push : (ps rs : List ℕ) (es fs : List Entry) (l n : ℕ) (z : Older) → ArePlaced ps es
    → kept_at es l ≡ None → l < length ps → n ≡ length es → rs ≡ set ps l n
    → fs ≡ es ++ (l, z) ∷ [] → (q : ℕ)
    → kept_at fs q ≡ cond (is_at (nat_cmp l) q) (Some z) (kept_at es q)
kept_push ps rs es fs l n z placed none lt count here is q =
    let after = placed_push ps rs es fs l n z placed none lt count here is in
    let get : (j : ℕ) → slice_get fs j ≡ slice_get (es ++ (l, z) ∷ []) j = λ j.
    ap (λ (gs : List Entry). slice_get gs j) is in
    ⊎_elim
    (λ (e : q ≡ l). ap (λ (k : ℕ). kept_at fs k) e
    ∙ place_found rs fs (length es) l z after (get (length es) ∙ push_last es (l, z))
    ∙ sym (ap (λ (b : Bool). cond b (Some z) (kept_at es q)) (at_same l q e)))
    (λ (ne : q ≢ l). kept_same ps rs es fs q placed after
    (λ w h. (h.0, get h.0 ∙ push_had es (l, z) (q, w) h.0 h.1))
    (λ w h. ⊎_elim
    (λ (had : slice_get es h.0 ≡ Some (q, w)). (h.0, had))
    (λ (last : (h.0 ≡ length es) × ((l, z) ≡ (q, w))).
    absurd (ne (ap (λ (f : Entry). f.0) (sym last.1))))
    (get_push es (l, z) (q, w) h.0 (sym (get h.0) ∙ h.1)))
    ∙ sym (ap (λ (b : Bool). cond b (Some z) (kept_at es q)) (at_other l q ne)))
    (cases_eq q l)

-- the last entry taken out

pub placed_pop : (ps : List ℕ) (es fs : List Entry) (x : Entry) → ArePlaced ps es
    → es ≡ fs ++ x ∷ [] → ArePlaced ps fs
placed_pop ps es fs x placed is j e at =
    placed j e (ap (λ (gs : List Entry). slice_get gs j) is ∙ push_had fs x e j at)

pub pop_found : (ps : List ℕ) (es fs : List Entry) (x : Entry) → ArePlaced ps es
    → es ≡ fs ++ x ∷ [] → kept_at es x.0 ≡ Some x.1
pop_found ps es fs x placed is = place_found ps es (length fs) x.0 x.1 placed
    (ap (λ (gs : List Entry). slice_get gs (length fs)) is ∙ push_last fs x)

pub pop_gone : (ps : List ℕ) (es fs : List Entry) (x : Entry) → ArePlaced ps es
    → es ≡ fs ++ x ∷ [] → (q : ℕ)
    → kept_at fs q ≡ cond (is_at (nat_cmp x.0) q) None (kept_at es q)
pop_gone ps es fs x placed is q =
    let get : (j : ℕ) → slice_get es j ≡ slice_get (fs ++ x ∷ []) j = λ j.
    ap (λ (gs : List Entry). slice_get gs j) is in
    let after = placed_pop ps es fs x placed is in
    ⊎_elim
    (λ (e : q ≡ x.0). kept_none fs q (λ w h.
    let first = placed h.0 (q, w) (get h.0 ∙ push_had fs x (q, w) h.0 h.1) in
    let last = placed (length fs) x (get (length fs) ∙ push_last fs x) in
    let same : h.0 ≡ length fs = same_Some h.0 (length fs)
    (sym first ∙ ap (λ (k : ℕ). slice_get ps k) e ∙ last) in
    let lt = slice_get_within fs h.0 (q, w) h.1 in
    let no : ⊥ = omega arith in no)
    ∙ sym (ap (λ (b : Bool). cond b None (kept_at es q)) (at_same x.0 q e)))
    (λ (ne : q ≢ x.0). kept_same ps ps es fs q placed after
    (λ w h. ⊎_elim
    (λ (had : slice_get fs h.0 ≡ Some (q, w)). (h.0, had))
    (λ (last : (h.0 ≡ length fs) × (x ≡ (q, w))).
    absurd (ne (ap (λ (f : Entry). f.0) (sym last.1))))
    (get_push fs x (q, w) h.0 (sym (get h.0) ∙ h.1)))
    (λ w h. (h.0, get h.0 ∙ push_had fs x (q, w) h.0 h.1))
    ∙ sym (ap (λ (b : Bool). cond b None (kept_at es q)) (at_other x.0 q ne)))
    (cases_eq q x.0)

-- an entry taken out, whose place the last one takes

-- the entries afterwards, one by one
record IsSwapped (es fs : List Entry) (i : ℕ) : Type 0 where
  back : (j : ℕ) (e : Entry) → slice_get fs j ≡ Some e → (j + 1 < length es)
      × ((j ≢ i → slice_get es j ≡ Some e) × (j ≡ i → slice_get es (length es - 1) ≡ Some e))
  kept : (j : ℕ) (e : Entry) → j + 1 < length es → j ≢ i → slice_get es j ≡ Some e
      → slice_get fs j ≡ Some e
  moved : (e : Entry) → i + 1 < length es → slice_get es (length es - 1) ≡ Some e
      → slice_get fs i ≡ Some e

swapped : (es fs : List Entry) (i : ℕ) (d : Entry) (y : Entry) → slice_get es i ≡ Some y
    → fs ≡ swap_remove es i d → IsSwapped es fs i
swapped es fs i d y here is =
    let n = length es in
    let lt = slice_get_within es i y here in
    let last = get_or es (n - 1) d in
    let at_last : slice_get es (n - 1) ≡ Some last = slice_get-get_or es (n - 1) d (omega arith) in
    let get : (j : ℕ) → slice_get fs j ≡ slice_get (take (n - 1) (set es i last)) j = λ j.
    ap (λ (gs : List Entry). slice_get gs j) is in
    record {
      back = λ j e at.
          let t = take_back (set es i last) (n - 1) j e (sym (get j) ∙ at) in
          let few = t.0 in (
            omega arith,
            (
              λ ne. sym (get_set_other es i j last ne) ∙ t.1,
              λ same. at_last ∙ ap Some (get_set_back es i last e
                  (ap (λ (k : ℕ). slice_get (set es i last) k) (sym same) ∙ t.1)),
            ),
          );
      kept = λ j e few ne at. get j ∙ take_had (set es i last) (n - 1) j e (omega arith)
          (get_set_other es i j last ne ∙ at);
      moved = λ e few at. get i ∙ take_had (set es i last) (n - 1) i e (omega arith)
          (get_set_same es i last y here ∙ sym at_last ∙ at);
    }

-- the places afterwards: the line that moved has the place
pub placed_moved : (ps rs : List ℕ) (es fs : List Entry) (i : ℕ) (d y m : Entry) → ArePlaced ps es
    → slice_get es i ≡ Some y → fs ≡ swap_remove es i d → slice_get fs i ≡ Some m
    → rs ≡ set ps m.0 i → ArePlaced rs fs
placed_moved ps rs es fs i d y m placed here is moved set_is j e at =
    let s = swapped es fs i d y here is in
    let from = s.back i m moved in
    let last : slice_get ps m.0 ≡ Some (length es - 1) = placed (length es - 1) m (from.1.1 refl) in
    let b = s.back j e at in
    ap (λ (ks : List ℕ). slice_get ks e.0) set_is ∙ ⊎_elim
    (λ (same : j ≡ i).
    let one : m.0 ≡ e.0 = key_same m e
    (sym moved ∙ ap (λ (k : ℕ). slice_get fs k) (sym same) ∙ at) in
    ap (λ (k : ℕ). slice_get (set ps m.0 i) k) (sym one)
    ∙ get_set_same ps m.0 i (length es - 1) last ∙ ap Some (sym same))
    (λ (ne : j ≢ i).
    let had = placed j e (b.1.0 ne) in
    let other : e.0 ≢ m.0 = λ f.
    let same : j ≡ length es - 1 = same_Some j (length es - 1)
    (sym had ∙ ap (λ (k : ℕ). slice_get ps k) f ∙ last) in
    let few = b.0 in let no : ⊥ = omega arith in no in
    get_set_other ps m.0 e.0 i other ∙ had)
    (cases_eq j i)

-- the places afterwards where none moved
pub placed_last : (ps : List ℕ) (es fs : List Entry) (i : ℕ) (d y : Entry) → ArePlaced ps es
    → slice_get es i ≡ Some y → fs ≡ swap_remove es i d → length fs ≤ i → ArePlaced ps fs
placed_last ps es fs i d y placed here is past j e at =
    let s = swapped es fs i d y here is in
    let b = s.back j e at in
    let lt = slice_get_within fs j e at in
    placed j e (b.1.0 (λ same. absurd (let nothing : ⊥ = omega arith in nothing)))

-- the line that moved has a place before
pub moved_within : (ps : List ℕ) (es fs : List Entry) (i : ℕ) (d y m : Entry) → ArePlaced ps es
    → slice_get es i ≡ Some y → fs ≡ swap_remove es i d → slice_get fs i ≡ Some m
    → m.0 < length ps
moved_within ps es fs i d y m placed here is moved =
    let s = swapped es fs i d y here is in
    let from = s.back i m moved in
    slice_get_within ps m.0 (length es - 1) (placed (length es - 1) m (from.1.1 refl))

pub swap_gone : (ps rs : List ℕ) (es fs : List Entry) (i l : ℕ) (d : Entry) (y : Older)
    → ArePlaced ps es → ArePlaced rs fs → slice_get es i ≡ Some (l, y) → fs ≡ swap_remove es i d
    → (q : ℕ) → kept_at fs q ≡ cond (is_at (nat_cmp l) q) None (kept_at es q)
swap_gone ps rs es fs i l d y placed after here is q =
    let s = swapped es fs i d (l, y) here is in
    let lt = slice_get_within es i (l, y) here in
    let place : slice_get ps l ≡ Some i = placed i (l, y) here in
    ⊎_elim
    (λ (e : q ≡ l). kept_none fs q (λ w h.
    let b = s.back h.0 (q, w) h.1 in
    let few = b.0 in
    let at_q : slice_get ps q ≡ Some i = ap (λ (k : ℕ). slice_get ps k) e ∙ place in
    ⊎_elim
    (λ (same : h.0 ≡ i).
    let last : length es - 1 ≡ i = same_Some (length es - 1) i
    (sym (placed (length es - 1) (q, w) (b.1.1 same)) ∙ at_q) in
    let no : ⊥ = omega arith in no)
    (λ (ne : h.0 ≢ i). ne (same_Some h.0 i
    (sym (placed h.0 (q, w) (b.1.0 ne)) ∙ at_q)))
    (cases_eq h.0 i))
    ∙ sym (ap (λ (b : Bool). cond b None (kept_at es q)) (at_same l q e)))
    (λ (ne : q ≢ l). kept_same ps rs es fs q placed after
    (λ w h.
    let apart : h.0 ≢ i = λ e. ne (key_same (q, w) (l, y)
    (sym h.1 ∙ ap (λ (k : ℕ). slice_get es k) e ∙ here)) in
    let inside = slice_get_within es h.0 (q, w) h.1 in
    ⊎_elim
    (λ (e : h.0 ≡ length es - 1). (
      i,
      s.moved (q, w) (omega arith)
          (ap (λ (k : ℕ). slice_get es k) (sym e) ∙ h.1),
    ))
    (λ (other : h.0 ≢ length es - 1).
    (h.0, s.kept h.0 (q, w) (omega arith) apart h.1))
    (cases_eq h.0 (length es - 1)))
    (λ w h. let b = s.back h.0 (q, w) h.1 in ⊎_elim
    (λ (e : h.0 ≡ i). (length es - 1, b.1.1 e))
    (λ (other : h.0 ≢ i). (h.0, b.1.0 other))
    (cases_eq h.0 i))
    ∙ sym (ap (λ (b : Bool). cond b None (kept_at es q)) (at_other l q ne)))
    (cases_eq q l)

pub apart_placed : (ps : List ℕ) (es : List Entry) → ArePlaced ps es → AreApart es
apart_placed ps es placed = from es 0 (λ i e at. placed i e at ∙ ap Some (omega arith))
  where
    from : (fs : List Entry) (n : ℕ)
        → ((i : ℕ) (e : Entry) → slice_get fs i ≡ Some e → slice_get ps e.0 ≡ Some (n + i))
        → AreApart fs
    from [] n at = tt
    from (e ∷ fs) n at = (
      kept_none fs e.0 (λ w h.
          let same : n + 0 ≡ n + suc h.0 = same_Some (n + 0) (n + suc h.0)
          (sym (at 0 e refl) ∙ at (suc h.0) (e.0, w) h.1) in
          let no : ⊥ = omega arith in no),
      from fs (suc n) (λ i f is. at (suc i) f is ∙ ap Some (omega arith)),
    )

or_self : {X : Type 0} (xs : List X) (i : ℕ) (v y : X) → slice_get xs i ≡ Some y
    → v ≡ get_or xs i v → v ≡ y
or_self [] i v y at is = absurd (none-some y at)
or_self (x ∷ xs) zero v y at is = is ∙ same_Some x y at
or_self (x ∷ xs) (suc i) v y at is = or_self xs i v y at is

-- what the search for a line's place finds

pub absent_past : (ps : List ℕ) (es : List Entry) (l : ℕ) → ArePlaced ps es → length ps ≤ l
    → kept_at es l ≡ None
absent_past ps es l placed past = kept_none es l (λ y h.
    let lt = slice_get_within ps l h.0 (placed h.0 (l, y) h.1) in
    let nothing : ⊥ = omega arith in nothing)

pub absent_beyond : (ps : List ℕ) (es : List Entry) (l p : ℕ) → ArePlaced ps es
    → slice_get ps l ≡ Some p → length es ≤ p → kept_at es l ≡ None
absent_beyond ps es l p placed place past = kept_none es l (λ y h.
    let same : p ≡ h.0 = same_Some p h.0 (sym place ∙ placed h.0 (l, y) h.1) in
    let lt = slice_get_within es h.0 (l, y) h.1 in
    let nothing : ⊥ = omega arith in nothing)

pub absent_here : (ps : List ℕ) (es : List Entry) (l p : ℕ) (v : Entry) → ArePlaced ps es
    → slice_get ps l ≡ Some p → v ≡ get_or es p v → v.0 ≢ l → kept_at es l ≡ None
absent_here ps es l p v placed place at ne = kept_none es l (λ y h.
    let same : p ≡ h.0 = same_Some p h.0 (sym place ∙ placed h.0 (l, y) h.1) in
    let is : v ≡ (l, y) = or_self es p v (l, y) (ap (λ (k : ℕ). slice_get es k) same ∙ h.1) at in
    ne (ap (λ (e : Entry). e.0) is))

pub is_here : (es : List Entry) (p l : ℕ) (v : Entry) → p < length es → v ≡ get_or es p v
    → v.0 ≡ l → IsEntry es p l
is_here es p l v lt at same =
    (v.1, slice_get-get_or es p v lt ∙ ap Some (sym at) ∙ (λ j. Some (same j, v.1)))

pub entry_within : (es : List Entry) (i l : ℕ) → IsEntry es i l → i < length es
entry_within es i l entry = slice_get_within es i (l, entry.0) entry.1

-- one entry changed in place, as an index of the code gives it

entry_is : (es : List Entry) (i l : ℕ) (v : Entry) → IsEntry es i l → v ≡ get_or es i v
    → (v.0 ≡ l) × (slice_get es i ≡ Some (l, v.1))
entry_is es i l v entry is =
    let same : v ≡ (l, entry.0) = or_self es i v (l, entry.0) entry.1 is in (
      ap (λ (e : Entry). e.0) same,
      entry.1 ∙ sym (λ j. Some (l, (same j).1)),
    )

put_is : (es fs : List Entry) (i l : ℕ) (v : Entry) (z : Older) → v.0 ≡ l
    → fs ≡ set es i (v.0, z) → fs ≡ set es i (l, z)
put_is es fs i l v z key is = is ∙ (λ j. set es i (key j, z))

pub placed_put : (ps : List ℕ) (es fs : List Entry) (i l : ℕ) (v : Entry) (z : Older)
    → ArePlaced ps es → IsEntry es i l → v ≡ get_or es i v → fs ≡ set es i (v.0, z)
    → ArePlaced ps fs
placed_put ps es fs i l v z placed entry at is =
    let here = entry_is es i l v entry at in
    placed_set ps es fs i l v.1 z placed here.1 (put_is es fs i l v z here.0 is)

pub entry_put : (es fs : List Entry) (i l : ℕ) (v : Entry) (z : Older) → IsEntry es i l
    → v ≡ get_or es i v → fs ≡ set es i (v.0, z) → IsEntry fs i l
entry_put es fs i l v z entry at is =
    let here = entry_is es i l v entry at in (
      z,
      ap (λ (gs : List Entry). slice_get gs i) (put_is es fs i l v z here.0 is)
          ∙ get_set_same es i (l, z) (l, v.1) here.1,
    )

-- any function of the line's older versions, given its value for the entry
put_by : (ps : List ℕ) (es fs : List Entry) (i l : ℕ) (v : Entry) (z : Older)
    (to : Option Older → Option Older) → ArePlaced ps es → IsEntry es i l → v ≡ get_or es i v
    → fs ≡ set es i (v.0, z) → Some z ≡ to (Some v.1) → (q : ℕ)
    → kept_at fs q ≡ cond (is_at (nat_cmp l) q) (to (kept_at es l)) (kept_at es q)
put_by ps es fs i l v z to placed entry at is gives q =
    let here = entry_is es i l v entry at in
    let found : kept_at es l ≡ Some v.1 = place_found ps es i l v.1 placed here.1 in
    kept_set ps es fs i l v.1 z placed here.1 (put_is es fs i l v z here.0 is) q
    ∙ ap (λ (o : Option Older). cond (is_at (nat_cmp l) q) o (kept_at es q))
    (gives ∙ sym (ap to found))

pub keep_put : (ps : List ℕ) (es fs : List Entry) (i l : ℕ) (v : Entry) (z : Older) (x : List ℤ)
    → ArePlaced ps es → IsEntry es i l → v ≡ get_or es i v → fs ≡ set es i (v.0, z)
    → z ≡ more_older (Some v.1) x → (q : ℕ)
    → kept_at fs q ≡ cond (is_at (nat_cmp l) q) (Some (more_older (kept_at es l) x)) (kept_at es q)
keep_put ps es fs i l v z x placed entry at is gives q =
    put_by ps es fs i l v z (λ o. Some (more_older o x)) placed entry at is (ap Some gives) q

pub mark_put : (ps : List ℕ) (es fs : List Entry) (i l : ℕ) (v : Entry) (z : Older)
    → ArePlaced ps es → IsEntry es i l → v ≡ get_or es i v → fs ≡ set es i (v.0, z)
    → z ≡ flush_older v.1 → (q : ℕ) → kept_at fs q
    ≡ cond (is_at (nat_cmp l) q) (option_map flush_older (kept_at es l)) (kept_at es q)
mark_put ps es fs i l v z placed entry at is gives q =
    put_by ps es fs i l v z (option_map flush_older) placed entry at is (ap Some gives) q

pub fence_put : (ps : List ℕ) (es fs : List Entry) (i l : ℕ) (v : Entry) (z : Older)
    → ArePlaced ps es → IsEntry es i l → v ≡ get_or es i v → fs ≡ set es i (v.0, z)
    → z ≡ fence_older v.1 → has_older z.older ≡ true → (q : ℕ) → kept_at fs q
    ≡ cond (is_at (nat_cmp l) q) (fence_entry (kept_at es l)) (kept_at es q)
fence_put ps es fs i l v z placed entry at is gives has q =
    put_by ps es fs i l v z fence_entry placed entry at is
    (ap Some gives ∙ sym (ap (λ (b : Bool). cond b (Some (fence_older v.1)) None)
    (ap (λ (w : Older). has_older w.older) (sym gives) ∙ has))) q

pub same_put : (ps : List ℕ) (es fs : List Entry) (i l : ℕ) (v : Entry) (z : Older)
    → ArePlaced ps es → IsEntry es i l → v ≡ get_or es i v → fs ≡ set es i (v.0, z) → z ≡ v.1
    → (q : ℕ) → kept_at fs q ≡ kept_at es q
same_put ps es fs i l v z placed entry at is gives q =
    put_by ps es fs i l v z (λ o. o) placed entry at is (ap Some gives) q
    ∙ ⊎_elim
    (λ (e : q ≡ l). ap (λ (b : Bool). cond b (kept_at es l) (kept_at es q)) (at_same l q e)
    ∙ ap (λ (k : ℕ). kept_at es k) (sym e))
    (λ (ne : q ≢ l). ap (λ (b : Bool). cond b (kept_at es l) (kept_at es q)) (at_other l q ne))
    (cases_eq q l)

-- an entry that has no older version after a fence is taken out
pub fence_gone : (ps : List ℕ) (es fs gs : List Entry) (i l : ℕ) (v : Entry) (z : Older)
    → ArePlaced ps es → IsEntry es i l → v ≡ get_or es i v → fs ≡ set es i (v.0, z)
    → z ≡ fence_older v.1 → has_older z.older ≡ false
    → ((q : ℕ) → kept_at gs q ≡ cond (is_at (nat_cmp l) q) None (kept_at fs q)) → (q : ℕ)
    → kept_at gs q ≡ cond (is_at (nat_cmp l) q) (fence_entry (kept_at es l)) (kept_at es q)
fence_gone ps es fs gs i l v z placed entry at is gives has gone q =
    let here = entry_is es i l v entry at in
    let found : kept_at es l ≡ Some v.1 = place_found ps es i l v.1 placed here.1 in
    let none : fence_entry (kept_at es l) ≡ None = ap fence_entry found
    ∙ ap (λ (b : Bool). cond b (Some (fence_older v.1)) None)
    (ap (λ (w : Older). has_older w.older) (sym gives) ∙ has) in
    gone q ∙ by (is_at (nat_cmp l) q) (sym none)
    (put_by ps es fs i l v z (λ o. Some z) placed entry at is refl q)
  where
    by : (b : Bool) → None ≡ fence_entry (kept_at es l)
        → kept_at fs q ≡ cond b (Some z) (kept_at es q)
        → cond b None (kept_at fs q) ≡ cond b (fence_entry (kept_at es l)) (kept_at es q)
    by true none put = none
    by false none put = put

-- the last entry taken out, or nothing

pub pop_placed : (ps : List ℕ) (es fs : List Entry) (r : Option Entry) → ArePlaced ps es
    → es ≡ fs ++ option_to_list r → ArePlaced ps fs
pop_placed ps es fs (Some x) placed is = placed_pop ps es fs x placed is
pop_placed ps es fs None placed is = subst (ArePlaced ps) (is ∙ append-nil fs) placed

pub pop_some : (ps : List ℕ) (es fs : List Entry) (r : Option Entry) → ArePlaced ps es
    → es ≡ fs ++ option_to_list r → length fs + length (option_to_list r) ≡ length es
    → IfSome r (λ e. (kept_at es e.0 ≡ Some e.1) × (length fs + 1 ≡ length es))
pop_some ps es fs (Some x) placed is len = (pop_found ps es fs x placed is, len)
pop_some ps es fs None placed is len = tt

pub pop_each : (ps : List ℕ) (es fs : List Entry) (r : Option Entry) → ArePlaced ps es
    → es ≡ fs ++ option_to_list r
    → IfSome r (λ e. (q : ℕ) → kept_at fs q ≡ cond (is_at (nat_cmp e.0) q) None (kept_at es q))
pop_each ps es fs (Some x) placed is = pop_gone ps es fs x placed is
pop_each ps es fs None placed is = tt

-- no entries are placed
pub placed_none : (ps : List ℕ) (es : List Entry) → es ≡ [] → ArePlaced ps es
placed_none ps es none i e at = absurd (none-some e
    (sym (ap (λ (fs : List Entry). slice_get fs i) none) ∙ at))

-- a line without older versions

cond_none : (es : List Entry) (l : ℕ) (o : Option Older) → kept_at es l ≡ o → (q : ℕ)
    → kept_at es q ≡ cond (is_at (nat_cmp l) q) o (kept_at es q)
cond_none es l o is q = ⊎_elim
    (λ (e : q ≡ l). ap (λ (k : ℕ). kept_at es k) e ∙ is
    ∙ sym (ap (λ (b : Bool). cond b o (kept_at es q)) (at_same l q e)))
    (λ (ne : q ≢ l). sym (ap (λ (b : Bool). cond b o (kept_at es q)) (at_other l q ne)))
    (cases_eq q l)

pub absent_mark : (es : List Entry) (l : ℕ) → kept_at es l ≡ None → (q : ℕ) → kept_at es q
    ≡ cond (is_at (nat_cmp l) q) (option_map flush_older (kept_at es l)) (kept_at es q)
absent_mark es l none q =
    cond_none es l (option_map flush_older (kept_at es l))
    (none ∙ sym (ap (option_map flush_older) none)) q

pub absent_fence : (es : List Entry) (l : ℕ) → kept_at es l ≡ None → (q : ℕ) → kept_at es q
    ≡ cond (is_at (nat_cmp l) q) (fence_entry (kept_at es l)) (kept_at es q)
absent_fence es l none q =
    cond_none es l (fence_entry (kept_at es l)) (none ∙ sym (ap fence_entry none)) q

pub keep_push : (es fs : List Entry) (l : ℕ) (z : Older) (x : List ℤ) → kept_at es l ≡ None
    → z ≡ more_older None x
    → ((q : ℕ) → kept_at fs q ≡ cond (is_at (nat_cmp l) q) (Some z) (kept_at es q)) → (q : ℕ)
    → kept_at fs q ≡ cond (is_at (nat_cmp l) q) (Some (more_older (kept_at es l) x)) (kept_at es q)
keep_push es fs l z x none gives is q = is q
    ∙ ap (λ (w : Older). cond (is_at (nat_cmp l) q) (Some w) (kept_at es q))
    (gives ∙ sym (ap (λ (o : Option Older). more_older o x) none))

pub count_entry : (ps : List ℕ) (es : List Entry) (i l : ℕ) (v : Entry) → ArePlaced ps es
    → IsEntry es i l → v ≡ get_or es i v → count_of (kept_at es l) ≡ length v.1.older + 1
count_entry ps es i l v placed entry at =
    let here = entry_is es i l v entry at in
    ap count_of (place_found ps es i l v.1 placed here.1)

pub on_ok : {A E P Q : Type 0} (r : Result A E) → OnOk r P → (P → Q) → OnOk r Q
on_ok (Ok _) p f = f p
on_ok (Err _) p f = tt
